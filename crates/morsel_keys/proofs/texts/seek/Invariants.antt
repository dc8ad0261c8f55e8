use Rattle.morsel_keys.specs.Slots.{HasPassed}
use Rattle.morsel_keys.proofs.texts.seek.Given as goal

abbrev pub invariant-loop-at : goal.invariant-loop-at
invariant-loop-at l = HasPassed l.slots l.texts l.text l.from l.at
