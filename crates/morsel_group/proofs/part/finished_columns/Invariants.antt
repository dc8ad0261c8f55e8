use Rattle.std.proofs.Common.{◌≡◌, ◌++◌, map, All}
use Rattle.std.specs.Vec.Iter.{into_iter_items}
use Rattle.morsel_group.specs.Parts.{finished_values, RefusesNone}
use Rattle.morsel_group.proofs.part.finished_columns.Given as goal

abbrev pub invariant-loop-part : goal.invariant-loop-part
invariant-loop-part l = record {
  all : l.yielded ++ into_iter_items l.part-iterator ≡ l.fn.parts.items;
  columns : l.columns.items ≡ map finished_values l.yielded;
  none : All RefusesNone l.yielded;
}
