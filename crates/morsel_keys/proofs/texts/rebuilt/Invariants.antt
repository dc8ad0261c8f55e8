use Rattle.std.proofs.Common.{take}
use Rattle.morsel_keys.specs.Slots.{IsIndexed}
use Rattle.morsel_keys.specs.TextHomes.{text_home}
use Rattle.morsel_keys.proofs.texts.rebuilt.Given as goal

abbrev pub invariant-loop-place : goal.invariant-loop-place
invariant-loop-place l = IsIndexed (text_home l.seed l.mask) l.mask l.slots.items (take l.place l.texts)
