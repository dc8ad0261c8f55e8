use Rattle.std.proofs.Common.{take}
use Rattle.morsel_keys.specs.Slots.{IsIndexed}
use Rattle.morsel_keys.specs.Words.{word_home}
use Rattle.morsel_keys.proofs.words.rebuilt.Given as goal

abbrev pub invariant-loop-place : goal.invariant-loop-place
invariant-loop-place l = IsIndexed (word_home l.seed l.mask) l.mask l.slots.items (take l.place l.words)
