use Rattle.std.proofs.Common.{◌≡◌, ◌++◌, map}
use Rattle.std.specs.Vec.Iter.{into_iter_items}
use Rattle.morsel_load.proofs.linearized.frames_of.Given as goal

abbrev pub invariant-loop-morsel : goal.invariant-loop-morsel
invariant-loop-morsel g l = record {
  all : l.yielded ++ into_iter_items l.morsel-iterator ≡ l.fn.morsels.items;
  frames : l.frames.items ≡ map (λ morsel. morsel.frame) l.yielded;
}
