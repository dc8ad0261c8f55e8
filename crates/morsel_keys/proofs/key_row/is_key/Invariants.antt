use Rattle.std.proofs.Common.{◌≡◌, take}
use Rattle.morsel_keys.specs.Keyed.{row_values}
use Rattle.morsel_keys.proofs.key_row.is_key.Given as goal

abbrev pub invariant-loop-at : goal.invariant-loop-at
invariant-loop-at l = take l.at l.values ≡ take l.at (row_values l.key)
