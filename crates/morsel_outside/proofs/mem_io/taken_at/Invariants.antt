use Rattle.std.proofs.Common.{◌≡◌, drop}
use Rattle.morsel_outside.specs.MemIo.{taken_at}
use Rattle.morsel_outside.proofs.mem_io.taken_at.Given as goal

-- the first pair of the number is among those that are left, or there is none
abbrev pub invariant-loop-pair : goal.invariant-loop-pair
invariant-loop-pair l = taken_at (drop l.pair-index l.pairs) l.number ≡ taken_at l.pairs l.number
