use Rattle.std.proofs.Common.{◌≡◌, ◌<◌, ◌+◌, ◌++◌, ◌∷◌, [], ◌∙◌, List, length, ap, sym, subst, refl, arith, append_assoc}
use Rattle.std.specs.List.{All}
use Rattle.std.specs.Vec.Iter.{into_iter_items}
use Rattle.std.proofs.lemmas.List.{flat_map_more, get_or_at, length-append}
use Rattle.morsel_meaning.specs.Values.{Row, Table}
use Rattle.morsel_join.proofs.build_side.stacked.Goals as goal

-- what holds of all holds of the one behind the first ones
held-at : {X : Type 0} (P : X → Type 0) (front : List X) (x : X) (rest all : List X) → front ++ x ∷ rest ≡ all → All P all → P x
held-at P front x rest all same held =
    let less : length front < length (front ++ x ∷ rest) = omega (arith, length-append front (x ∷ rest)) in
    subst P (get_or_at front x rest x (length front) refl) (subst (λ (xs : List _). All P xs) (sym same) held (length front) x less)

pub stack-requires-clause-columns : goal.stack-requires-clause-columns
stack-requires-clause-columns c =
    let every = ap (λ (ts : List Table). c.loop-frame.yielded ++ ts) (sym c.in-Some.ensures.steps.0) ∙ c.loop-frame.invariant.every in
    held-at (λ (t : Table). t.schema ≡ c.args.columns) c.loop-frame.yielded c.in-Some.frame (into_iter_items c.next.new.self) c.args.frames.items every c.requires.columns
    ∙ sym (ap (λ (t : Table). t.schema) c.loop-frame.invariant.rows)

pub stack-requires-clause-short : goal.stack-requires-clause-short
stack-requires-clause-short c = c.loop-frame.invariant.short

pub loop-frame-preserved : goal.loop-frame-preserved
loop-frame-preserved c = record {
  every = append_assoc c.loop-frame.yielded (c.in-Some.frame ∷ []) (into_iter_items c.next.new.self) ∙ ap (λ (ts : List Table). c.loop-frame.yielded ++ ts) (sym c.in-Some.ensures.steps.0) ∙ c.loop-frame.invariant.every;
  rows = c.in-Ok.ensures.ok ∙ ap (λ (t : Table). record { schema = t.schema; rows = t.rows ++ c.in-Some.frame.rows }) c.loop-frame.invariant.rows
      ∙ ap (λ (rows : List Row). record { schema = c.args.columns; rows = rows }) (flat_map_more (λ (t : Table). t.rows) [] c.loop-frame.yielded c.in-Some.frame);
  short = c.in-Ok.ensures.short;
}
