use Rattle.morsel_keys.specs.Slots.{HasPassed}
use Rattle.morsel_keys.proofs.words.seek.Given as goal

abbrev pub invariant-loop-at : goal.invariant-loop-at
invariant-loop-at l = HasPassed l.slots l.words l.word l.from l.at
