use Rattle.std.proofs.Common.{arith, ◌∙◌, ◌++◌, ◌∷◌, [], take, get_or, refl, ap, sym}
use Rattle.std.proofs.lemmas.List.{length-set}
use Rattle.morsel_frame.specs.Columns.{Values}
use Rattle.morsel_frame.specs.Selects.{columns_at}
use Rattle.morsel_frame.proofs.SelectLemmas.{untouched-set, taken-next, columns_at-more}
use Rattle.morsel_frame.proofs.selects.take_columns.Goals as goal

pub loop-at-preserved : goal.loop-at-preserved
loop-at-preserved c =
    let inside = c.requires.within c.loop-at.at-index 0 c.loop-at-test.true in
    let taken = taken-next c.args.places.now c.loop-at.at-index (get_or c.args.places.now c.loop-at.at-index 0) c.args.columns.items c.loop-at.left.items c.index_mut-place.result.now
    c.requires.once c.loop-at-test.true refl (omega (arith, inside, c.loop-at.invariant.level)) c.index_mut-place.ensures.value c.loop-at.invariant.untouched in
    let moved = c.replace.ensures.value ∙ taken in
    record {
      picked = rw (c.in_ok-push.ensures.items, c.loop-at.invariant.picked)
          (ap (λ (column : Values). columns_at c.args.columns.items (take c.loop-at.at-index c.args.places.now) ++ column ∷ []) moved
          ∙ sym (columns_at-more c.args.columns.items c.args.places.now c.loop-at.at-index c.loop-at-test.true));
      untouched = untouched-set c.args.places.now c.loop-at.at-index (get_or c.args.places.now c.loop-at.at-index 0) c.args.columns.items c.loop-at.left.items c.replace.new.dest refl c.loop-at.invariant.untouched;
      level = length-set c.loop-at.left.items (get_or c.args.places.now c.loop-at.at-index 0) c.replace.new.dest ∙ c.loop-at.invariant.level;
    }
