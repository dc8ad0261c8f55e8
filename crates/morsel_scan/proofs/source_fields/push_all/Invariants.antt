use Rattle.std.proofs.Common.{◌≡◌, ◌++◌, drop}
use Rattle.morsel_scan.proofs.source_fields.push_all.Given as goal

abbrev pub invariant-loop-at : goal.invariant-loop-at
invariant-loop-at l = l.fields.items ++ drop l.at l.schema ≡ l.fn.fields.items ++ l.schema
