use Rattle.std.proofs.Common.{◌≡◌, ◌++◌}
use Rattle.std.specs.List.{flat_map}
use Rattle.std.specs.Vec.Iter.{into_iter_items}
use Rattle.morsel_load.proofs.linearized.all_of.Given as goal

abbrev pub invariant-loop-pipe : goal.invariant-loop-pipe
invariant-loop-pipe g l = record {
  all : l.yielded ++ into_iter_items l.pipe-iterator ≡ l.fn.pipes.items;
  morsels : l.morsels.items ≡ flat_map (λ pipe. pipe.items) l.yielded;
}
