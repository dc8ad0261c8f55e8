use Rattle.std.proofs.Common.{rules, ◌++◌, ◌∷◌, [], ◌∙◌, List, ap, sym, subst, map, append_assoc}
use Rattle.std.specs.Vec.Iter.{into_iter_items}
use Rattle.std.proofs.lemmas.List.{map-append}
use Rattle.morsel_join_units.specs.LookedUps.{looked_rows}
use Rattle.morsel_join_units.specs.RowKeepers.{FollowUp}
use Rattle.morsel_join_units.specs.declared.looked_up.LookedUp.{LookedUp}
use Rattle.morsel_join_units.specs.declared.row_keeper.KeptRows.{KeptRows}
use Rattle.morsel_join_units.proofs.OrderLemmas.{follow-more}
use Rattle.morsel_join_units.proofs.looked_up.follow_up.Goals as goal

pub loop-one-preserved : goal.loop-one-preserved
loop-one-preserved c = record {
  every = append_assoc c.loop-one.yielded (c.in-Some.one ∷ []) (into_iter_items c.next.new.self) ∙ ap (λ (loads : List LookedUp). c.loop-one.yielded ++ loads) (sym c.in-Some.ensures.steps.0) ∙ c.loop-one.invariant.every;
  follow = subst (λ (rows : List KeptRows). FollowUp rows 0 c.in-Some.one.stretch.to) (sym (map-append looked_rows c.loop-one.yielded (c.in-Some.one ∷ [])))
      (follow-more (map looked_rows c.loop-one.yielded) (looked_rows c.in-Some.one) 0 c.loop-one.at c.loop-one.invariant.follow (search rules));
}
