use Rattle.std.proofs.Common.{arith, ap, sym, get_or, ◌∙◌, ◌++◌, ◌∷◌, [], append_assoc}
use Rattle.std.proofs.lemmas.List.{length-set, length_push}
use Rattle.std.proofs.lemmas.List.Elements.{All-set}
use Rattle.std.specs.Vec.Iter.{into_iter_items}
use Rattle.morsel_states.proofs.PartLemmas.{joined_done, joined_room, joined_stops}
use Rattle.morsel_states.proofs.joins.join_each.Goals as goal

pub loop-other-preserved : goal.loop-other-preserved
loop-other-preserved g c =
    let before = c.loop-other.yielded in
    let other = c.in-Some.other in
    let rest = into_iter_items c.next.new.self in
    let at = c.loop-other.at in
    let states = c.loop-other.states in
    let group = get_or c.args.groups.now at 0 in
    let new = c.join.new.self in
    let entry = g.S.Joins.entry in
    let more = ap (λ xs. before ++ xs) (sym c.in-Some.ensures.steps.0) ∙ c.loop-other.invariant.all in
    record {
      all = append_assoc before (other ∷ []) rest ∙ more;
      at = omega (arith, length_push before other, c.loop-other.invariant.at);
      states = All-set (g.S.Joins.is_of c.args.op c.args.kind) states group new c.in-Ok.ensures.is_of c.loop-other.invariant.states;
      len = length-set states group new ∙ c.loop-other.invariant.len;
      done = joined_done entry c.args.op c.args.states.now states c.args.groups.now before c.args.others.items rest other new c.index-states-groups.result at more c.requires.count c.loop-other.invariant.at c.requires.within c.loop-other.invariant.len c.in-Ok.ensures.ok c.loop-other.invariant.done;
      room = joined_room entry c.args.op c.args.states.now states c.args.groups.now before c.args.others.items rest other new c.index-states-groups.result at more c.requires.count c.loop-other.invariant.at c.requires.within c.loop-other.invariant.len c.in-Ok.ensures.ok c.in-Ok.ensures.refused c.loop-other.invariant.room;
    }

pub returns-in-Err-clause-states : goal.returns-in-Err-clause-states
returns-in-Err-clause-states g c = All-set (g.S.Joins.is_of c.args.op c.args.kind) c.loop-other.states (get_or c.args.groups.now c.loop-other.at 0) c.join.new.self c.in-Err.ensures.is_of c.loop-other.invariant.states

pub returns-in-Err-clause-parts : goal.returns-in-Err-clause-parts
returns-in-Err-clause-parts g c =
    let more = ap (λ xs. c.loop-other.yielded ++ xs) (sym c.in-Some.ensures.steps.0) ∙ c.loop-other.invariant.all in
    joined_stops g.S.Joins.entry c.args.op c.args.states.now c.loop-other.states c.args.groups.now c.loop-other.yielded c.args.others.items (into_iter_items c.next.new.self) c.in-Some.other c.join.new.self c.index-states-groups.result c.loop-other.at c.in-Err.fault
    more c.requires.count c.loop-other.invariant.at c.requires.within c.loop-other.invariant.len c.in-Err.ensures.err c.in-Err.ensures.refused c.loop-other.invariant.done
