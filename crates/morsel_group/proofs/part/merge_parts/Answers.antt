use Rattle.std.proofs.Common.{ap, arith, sym, subst, ◌∙◌, ◌<◌, ◌≤◌, ◌++◌, ◌∷◌, [], length, append_assoc}
use Rattle.std.proofs.lemmas.List.{length_push}
use Rattle.std.specs.Vec.Iter.{into_iter_items}
use Rattle.morsel_group.specs.declared.part.AggStates.{AggStates}
use Rattle.morsel_group.proofs.JoinLemmas.{merge_at, merge_step, next_within, next_read}
use Rattle.morsel_group.proofs.part.merge_parts.Goals as goal

pub merge_part-requires-clause-op : goal.merge_part-requires-clause-op
merge_part-requires-clause-op c =
    let before = c.loop-other.yielded in
    let other = c.in-Some.other in
    let at = c.loop-other.at in
    let more = ap (λ xs. before ++ xs) (sym c.in-Some.ensures.steps.0) ∙ c.loop-other.invariant.all in
    let within : at < length c.args.parts.now = omega (arith, next_within before (into_iter_items c.next.new.self) c.args.others.items other more, c.requires.len, c.loop-other.invariant.at) in
    let held = merge_at c.args.count c.args.numbers.now c.args.parts.now c.loop-other.parts before c.index-parts-at.result at within c.loop-other.invariant.at c.loop-other.invariant.done in
    sym (ap (λ (p : AggStates). p.states.op) (next_read before (into_iter_items c.next.new.self) c.args.others.items other other at more c.loop-other.invariant.at))
    ∙ (c.requires.same at c.index-parts-at.result other within).op ∙ sym (ap (λ (p : AggStates). p.states.op) held)

pub merge_part-requires-clause-kind : goal.merge_part-requires-clause-kind
merge_part-requires-clause-kind c =
    let before = c.loop-other.yielded in
    let other = c.in-Some.other in
    let at = c.loop-other.at in
    let more = ap (λ xs. before ++ xs) (sym c.in-Some.ensures.steps.0) ∙ c.loop-other.invariant.all in
    let within : at < length c.args.parts.now = omega (arith, next_within before (into_iter_items c.next.new.self) c.args.others.items other more, c.requires.len, c.loop-other.invariant.at) in
    let held = merge_at c.args.count c.args.numbers.now c.args.parts.now c.loop-other.parts before c.index-parts-at.result at within c.loop-other.invariant.at c.loop-other.invariant.done in
    sym (ap (λ (p : AggStates). p.states.kind) (next_read before (into_iter_items c.next.new.self) c.args.others.items other other at more c.loop-other.invariant.at))
    ∙ (c.requires.same at c.index-parts-at.result other within).kind ∙ sym (ap (λ (p : AggStates). p.states.kind) held)

pub merge_part-requires-clause-few : goal.merge_part-requires-clause-few
merge_part-requires-clause-few c =
    let before = c.loop-other.yielded in
    let at = c.loop-other.at in
    let more = ap (λ xs. before ++ xs) (sym c.in-Some.ensures.steps.0) ∙ c.loop-other.invariant.all in
    let within : at < length c.args.parts.now = omega (arith, next_within before (into_iter_items c.next.new.self) c.args.others.items c.in-Some.other more, c.requires.len, c.loop-other.invariant.at) in
    let held = merge_at c.args.count c.args.numbers.now c.args.parts.now c.loop-other.parts before c.index-parts-at.result at within c.loop-other.invariant.at c.loop-other.invariant.done in
    subst (λ (p : AggStates). length p.states.entries ≤ c.args.count) (sym held) (c.requires.few at c.index-parts-at.result within)

pub loop-other-preserved : goal.loop-other-preserved
loop-other-preserved c =
    let before = c.loop-other.yielded in
    let other = c.in-Some.other in
    let rest = into_iter_items c.next.new.self in
    let at = c.loop-other.at in
    let more = ap (λ xs. before ++ xs) (sym c.in-Some.ensures.steps.0) ∙ c.loop-other.invariant.all in
    let within : at < length c.args.parts.now = omega (arith, next_within before rest c.args.others.items other more, c.requires.len, c.loop-other.invariant.at) in
    record {
      all = append_assoc before (other ∷ []) rest ∙ more;
      at = omega (arith, length_push before other, c.loop-other.invariant.at);
      done = merge_step c.args.count c.args.numbers.now c.args.parts.now c.loop-other.parts before other c.merge_part.new.part c.index-parts-at.result at within c.loop-other.invariant.at c.loop-other.invariant.done c.in_ok-merge_part.ensures.ok;
    }
