use Rattle.std.proofs.Common.{rules, ◌++◌, ◌∷◌, [], ◌∙◌, List, ap, sym, append_assoc}
use Rattle.std.specs.Vec.Iter.{into_iter_items}
use Rattle.std.proofs.lemmas.List.{map-append}
use Rattle.morsel_join_units.specs.declared.row_keeper.KeptRows.{KeptRows}
use Rattle.morsel_join_units.proofs.OrderLemmas.{follow-more}
use Rattle.morsel_join_units.proofs.order.following.Goals as goal

pub loop-rows-preserved : goal.loop-rows-preserved
loop-rows-preserved c = record {
  every = append_assoc c.loop-rows.yielded (c.in-Some.rows ∷ []) (into_iter_items c.next.new.self) ∙ ap (λ (rs : List KeptRows). c.loop-rows.yielded ++ rs) (sym c.in-Some.ensures.steps.0) ∙ c.loop-rows.invariant.every;
  frames = rw (c.in_ok-push.ensures.items, c.loop-rows.invariant.frames) (sym (map-append (λ (rows : KeptRows). rows.frame) c.loop-rows.yielded (c.in-Some.rows ∷ [])));
  follow = follow-more c.loop-rows.yielded c.in-Some.rows 0 c.loop-rows.at c.loop-rows.invariant.follow (search rules);
}
