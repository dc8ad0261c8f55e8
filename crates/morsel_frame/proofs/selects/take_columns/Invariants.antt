use Rattle.std.proofs.Common.{◌≡◌, take, length}
use Rattle.morsel_frame.specs.Selects.{columns_at}
use Rattle.morsel_frame.proofs.SelectLemmas.{Untouched}
use Rattle.morsel_frame.proofs.selects.take_columns.Given as goal

abbrev pub invariant-loop-at : goal.invariant-loop-at
invariant-loop-at l =
    record {
      picked : l.picked.items ≡ columns_at l.initial.left.items (take l.at-index l.places);
      untouched : Untouched l.places l.at-index l.initial.left.items l.left.items;
      level : length l.left.items ≡ length l.initial.left.items;
    }
