use Rattle.std.proofs.Common.{◌≡◌, take}
use Rattle.morsel_join.specs.Rows.{first_values}
use Rattle.morsel_join.proofs.gather.first_values.Given as goal

abbrev pub invariant-loop-row : goal.invariant-loop-row
invariant-loop-row l = l.column ≡ record { kind = l.first.kind; values = first_values (take l.row l.first.values) (take l.row l.second.values) }
