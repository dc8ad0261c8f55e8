use Rattle.std.proofs.Common.{◌≡◌, drop}
use Rattle.morsel_keys.specs.Keyed.{row_values, row_mix}
use Rattle.morsel_keys.proofs.key_row.mixed.Given as goal

abbrev pub invariant-loop-at : goal.invariant-loop-at
invariant-loop-at l = row_mix l.state (drop l.at (row_values l.key)) ≡ row_mix l.seed (row_values l.key)
