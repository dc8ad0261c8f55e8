use Rattle.std.proofs.Common.{◌≡◌, take}
use Rattle.morsel_keys.specs.Keyed.{row_values}
use Rattle.morsel_keys.proofs.key_row.held.Given as goal

abbrev pub invariant-loop-at : goal.invariant-loop-at
invariant-loop-at l = l.values.items ≡ take l.at (row_values l.key)
