use Rattle.std.proofs.Common.{◌≡◌, ◌<◌, ◌^◌, ◌++◌, length}
use Rattle.std.specs.Vec.Iter.{into_iter_items}
use Rattle.morsel_join.specs.BuildSides.{rows_of_tables}
use Rattle.morsel_join.proofs.build_side.stacked.Given as goal

abbrev pub invariant-loop-frame : goal.invariant-loop-frame
invariant-loop-frame l = record {
  every : l.yielded ++ into_iter_items l.frame-iterator ≡ l.fn.frames.items;
  rows : l.all ≡ record { schema = l.fn.columns; rows = rows_of_tables l.yielded };
  short : length l.all.rows < 2 ^ 32;
}
