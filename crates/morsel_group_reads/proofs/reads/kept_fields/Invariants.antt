use Rattle.std.proofs.Common.{◌≡◌, ◌++◌, drop}
use Rattle.morsel_group_reads.specs.Reads.{kept_by}
use Rattle.morsel_group_reads.proofs.reads.kept_fields.Given as goal

abbrev pub invariant-loop-at : goal.invariant-loop-at
invariant-loop-at l = l.kept.items ++ kept_by l.group (drop l.at l.columns) (drop l.at l.columns) ≡ kept_by l.group l.columns l.columns
