use Rattle.std.proofs.Common.{◌≡◌, replicate}
use Rattle.morsel_frame.proofs.made.copies_of.Given as goal

abbrev pub invariant-loop : goal.invariant-loop
invariant-loop l = l.texts ≡ replicate l.counter l.text
