use Rattle.morsel_keys.specs.Slots.{HasPassed}
use Rattle.morsel_keys.specs.Keyed.{row_values}
use Rattle.morsel_keys.proofs.table.seek.Given as goal

abbrev pub invariant-loop-at : goal.invariant-loop-at
invariant-loop-at l = HasPassed l.slots l.keys (row_values l.key) l.from l.at
