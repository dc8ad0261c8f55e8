use Rattle.std.proofs.Common.{◌≡◌, ◌++◌, ◌∷◌, [], All, List, map, sym, subst, arith, rules}
use Rattle.std.proofs.lemmas.List.{nil_from_length}
use Rattle.std.proofs.lemmas.List.Elements.{All-push}
use Rattle.std.specs.Vec.Iter.{into_iter_items}
use Rattle.morsel_meaning.specs.declared.fault.Fault.{Fault}
use Rattle.morsel_lane_pipe.specs.Tasks.{Has, HoldsTokensOf}
use Rattle.morsel_lane_pipe.specs.declared.stepping.Stepping.{Stepping}
use Rattle.morsel_ports.specs.Joining.{MayJoin}
use Rattle.morsel_ports.specs.Nodes.{lanes_of_task}
use Rattle.morsel_nodes.specs.MakerNodes.{MayFail, UnitFails, lanes_of_pairs}
use Rattle.morsel_nodes.proofs.PairLemmas.{all_first, other_left, pair_first, part_more, units_end, units_more}
use Rattle.morsel_nodes.proofs.units.units_of.Invariants.{TheUnit, can_step, fails, joins, task_seen}
use Rattle.morsel_nodes.proofs.units.units_of.Goals as goal

pub pairs-init : goal.pairs-init
pairs-init g c = record {
  left = search rules;
  part = ([], search rules);
  can_poll = λ id all. search rules;
  lanes = λ table all. search rules;
  fails_by = λ job all. search rules;
}

pub unreachable-requires : goal.unreachable-requires
unreachable-requires g c =
    let cases = rw c.in_default.is at c.next-in-pairs.ensures.cases in
    let none : into_iter_items c.pairs.others ≡ [] = nil_from_length (into_iter_items c.pairs.others) (omega (arith, cases.0)) in
    other_left (joins g c.args.makers.now) (into_iter_items c.pairs.from-iterator) (into_iter_items c.next.new.self) c.in-Some.from c.in-Some.ensures.steps.0
    (subst (λ (ys : List g.row.L-Sender.Denot). MayJoin (joins g c.args.makers.now) (into_iter_items c.pairs.from-iterator) ys) none c.pairs.invariant.left)

pub pairs-preserved : goal.pairs-preserved
pairs-preserved g c =
    let first = pair_first (joins g c.args.makers.now) (into_iter_items c.pairs.from-iterator) (into_iter_items c.next.new.self) (into_iter_items c.pairs.others) (into_iter_items c.next-in-pairs.new.self) c.in-Some.from c.in-Some-next.to
    c.in-Some.ensures.steps.0 c.in-Some-next.ensures.items c.pairs.invariant.left in
    let before = c.pairs.invariant.part.0 in
    let part = c.pairs.invariant.part.1 in
    let pushed : c.push.new.self.items ≡ c.pairs.units.items ++ c.in_ok-unit_of.field-0 ∷ [] = search rules in
    record {
      left = first.1;
      part = (before ++ c.in-Some.from ∷ [], part_more before (into_iter_items c.pairs.from-iterator) (into_iter_items c.next.new.self) c.args.froms.items c.in-Some.from part c.in-Some.ensures.steps.0);
      can_poll = λ id all.
          let of = all_first (λ (from : g.row.L-Receiver.Denot). (g.L.Receiver.LaneReceiver.home from ≡ id.lane_table) × HoldsTokensOf g.J.LoadJob.holds g.L.Tokens.token_home (g.L.Receiver.LaneReceiver.job from) id.group_table)
          before (into_iter_items c.pairs.from-iterator) (into_iter_items c.next.new.self) c.args.froms.items c.in-Some.from part c.in-Some.ensures.steps.0 all in
          subst (All (λ (unit : Stepping (TheUnit g)). Has unit.task (can_step g id))) (sym pushed)
          (All-push (λ (unit : Stepping (TheUnit g)). Has unit.task (can_step g id)) c.pairs.units.items c.in_ok-unit_of.field-0 (c.pairs.invariant.can_poll id all) (c.in_ok-unit_of.ensures.can_poll id of.0 of.1));
      lanes = λ table all.
          units_more (λ (unit : Stepping (TheUnit g)). lanes_of_task (task_seen g) unit.task) g.L.Receiver.LaneReceiver.lane g.L.Sender.LaneSender.lane table c.pairs.units.items c.push.new.self.items c.in_ok-unit_of.field-0
          (into_iter_items c.pairs.from-iterator) (into_iter_items c.next.new.self) (into_iter_items c.pairs.others) (into_iter_items c.next-in-pairs.new.self) c.in-Some.from c.in-Some-next.to
          (lanes_of_pairs table (map g.L.Receiver.LaneReceiver.lane c.args.froms.items) (map g.L.Sender.LaneSender.lane c.args.tos.items)) pushed c.in-Some.ensures.steps.0 c.in-Some-next.ensures.items
          (c.in_ok-unit_of.ensures.lanes table (all_first (λ (from : g.row.L-Receiver.Denot). g.L.Receiver.LaneReceiver.home from ≡ table) before (into_iter_items c.pairs.from-iterator) (into_iter_items c.next.new.self) c.args.froms.items c.in-Some.from part c.in-Some.ensures.steps.0 all))
          (c.pairs.invariant.lanes table all);
      fails_by = λ job all.
          let P : Stepping (TheUnit g) → Type 0 = λ unit. (fault : Fault) → UnitFails (fails g) unit.task fault → MayFail g.W.Maker.LoadMaker.may_fail job fault in
          subst (All P) (sym pushed) (All-push P c.pairs.units.items c.in_ok-unit_of.field-0 (c.pairs.invariant.fails_by job all)
          (c.in_ok-unit_of.ensures.fails job (all_first (λ (from : g.row.L-Receiver.Denot). g.L.Receiver.LaneReceiver.job from ≡ job) before (into_iter_items c.pairs.from-iterator) (into_iter_items c.next.new.self) c.args.froms.items c.in-Some.from part c.in-Some.ensures.steps.0 all)));
    }

pub returns-clause-lanes : goal.returns-clause-lanes
returns-clause-lanes g c table all =
    let none : into_iter_items c.pairs.from-iterator ≡ [] = nil_from_length (into_iter_items c.pairs.from-iterator) (omega (arith, c.in-None.ensures.steps.0)) in
    units_end (λ (unit : Stepping (TheUnit g)). lanes_of_task (task_seen g) unit.task) g.L.Receiver.LaneReceiver.lane g.L.Sender.LaneSender.lane table c.pairs.units.items (into_iter_items c.pairs.from-iterator) (into_iter_items c.pairs.others)
    (lanes_of_pairs table (map g.L.Receiver.LaneReceiver.lane c.args.froms.items) (map g.L.Sender.LaneSender.lane c.args.tos.items)) none (c.pairs.invariant.lanes table all)
