use Rattle.std.proofs.Common.{◌≡◌, ◌++◌, drop}
use Rattle.morsel_text.specs.Steps.{empty_columns}
use Rattle.morsel_text.proofs.choice.columns_of.Given as goal

abbrev pub invariant-loop-at : goal.invariant-loop-at
invariant-loop-at l = l.columns.items ++ empty_columns (drop l.at l.schema) ≡ empty_columns l.schema
