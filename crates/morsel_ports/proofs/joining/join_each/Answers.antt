use Rattle.std.proofs.Common.{◌≡◌, ◌++◌, ◌∷◌, [], All, map, ap, sym, subst, ◌∙◌, arith, rules}
use Rattle.std.proofs.lemmas.List.{nil_from_length}
use Rattle.std.proofs.lemmas.List.Elements.{All-push}
use Rattle.std.specs.Vec.Iter.{into_iter_items}
use Rattle.morsel_ports.specs.Between.{passing_task, tasks_by_pairs}
use Rattle.morsel_ports.proofs.JoinLemmas.{join_first, pairs_end, pairs_more}
use Rattle.morsel_ports.proofs.joining.join_each.Goals as goal

pub join-requires : goal.join-requires
join-requires g c = record {
  may_join = subst (λ id. g.C.JoinsEnds.may_join id c.in-Some.from c.in-Some-next.to) (sym c.pairs.invariant.board)
      (join_first (g.C.JoinsEnds.may_join (g.B.Board.id c.args.board.now)) (into_iter_items c.pairs.from-iterator) (into_iter_items c.next.new.self) (into_iter_items c.pairs.others) (into_iter_items c.next-in-pairs.new.self) c.in-Some.from c.in-Some-next.to c.in-Some.ensures.steps.0 c.in-Some-next.ensures.items c.pairs.invariant.left).0;
}

pub pairs-preserved : goal.pairs-preserved
pairs-preserved g c =
    let id = g.B.Board.id c.args.board.now in
    let same = c.pairs.invariant.board in
    let pushed : c.push.new.self.items ≡ c.pairs.tasks.items ++ c.in_ok-join.field-0 ∷ [] = search rules in
    record {
      left = (join_first (g.C.JoinsEnds.may_join id) (into_iter_items c.pairs.from-iterator) (into_iter_items c.next.new.self) (into_iter_items c.pairs.others) (into_iter_items c.next-in-pairs.new.self) c.in-Some.from c.in-Some-next.to c.in-Some.ensures.steps.0 c.in-Some-next.ensures.items c.pairs.invariant.left).1;
      can_step = subst (All (g.C.JoinsEnds.can_step id)) (sym pushed) (All-push (g.C.JoinsEnds.can_step id) c.pairs.tasks.items c.in_ok-join.field-0 c.pairs.invariant.can_step (subst (λ of. g.C.JoinsEnds.can_step of c.in_ok-join.field-0) same c.in_ok-join.ensures.can_step));
      lanes = pairs_more g.C.JoinsEnds.lanes g.C.JoinsEnds.lane_from g.C.JoinsEnds.lane_to g.C.JoinsEnds.kind id.lane_table c.pairs.tasks.items c.push.new.self.items c.in_ok-join.field-0 (into_iter_items c.pairs.from-iterator) (into_iter_items c.next.new.self) (into_iter_items c.pairs.others) (into_iter_items c.next-in-pairs.new.self) c.in-Some.from c.in-Some-next.to
          (tasks_by_pairs g.C.JoinsEnds.kind id.lane_table (map g.C.JoinsEnds.lane_from c.args.froms.items) (map g.C.JoinsEnds.lane_to c.args.tos.items)) pushed c.in-Some.ensures.steps.0 c.in-Some-next.ensures.items
          (c.in_ok-join.ensures.lanes ∙ ap (λ of. passing_task g.C.JoinsEnds.kind of.lane_table (g.C.JoinsEnds.lane_from c.in-Some.from) (g.C.JoinsEnds.lane_to c.in-Some-next.to)) same) c.pairs.invariant.lanes;
      waiting = λ place. c.join.ensures.same_waiting place ∙ c.pairs.invariant.waiting place;
      board = c.join.ensures.same_board ∙ same;
    }

pub returns-clause-can_step : goal.returns-clause-can_step
returns-clause-can_step g c = λ id same. subst (λ of. All (g.C.JoinsEnds.can_step of) c.pairs.tasks.items) (sym same) c.pairs.invariant.can_step

pub returns-clause-lanes : goal.returns-clause-lanes
returns-clause-lanes g c =
    let none : into_iter_items c.pairs.from-iterator ≡ [] = nil_from_length (into_iter_items c.pairs.from-iterator) (omega (arith, c.in-None.ensures.steps.0)) in
    pairs_end g.C.JoinsEnds.lanes g.C.JoinsEnds.lane_from g.C.JoinsEnds.lane_to g.C.JoinsEnds.kind (g.B.Board.id c.args.board.now).lane_table c.pairs.tasks.items (into_iter_items c.pairs.from-iterator) (into_iter_items c.pairs.others)
    (tasks_by_pairs g.C.JoinsEnds.kind (g.B.Board.id c.args.board.now).lane_table (map g.C.JoinsEnds.lane_from c.args.froms.items) (map g.C.JoinsEnds.lane_to c.args.tos.items)) none c.pairs.invariant.lanes
