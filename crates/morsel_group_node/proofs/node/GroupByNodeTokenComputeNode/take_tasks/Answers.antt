use Rattle.std.proofs.Common.{rules, inl, Option, Some, ◌≡◌, ◌∷◌, [], ℕ, All, List, length, refl, sym, ap, subst, ◌∙◌}
use Rattle.std.proofs.lemmas.List.Elements.{All-cons, All-head, All-nil}
use Rattle.std.specs.List.{slice_get}
use Rattle.std.specs.Option.{unwrap_or}
use Rattle.std.specs.Arc.{arc_value}
use Rattle.atomic_table.specs.Seated.{TableId}
use Rattle.morsel_meaning.specs.Values.{Table}
use Rattle.morsel_merge.specs.Ends.{IsNewReceiver, IsNewSender}
use Rattle.morsel_lane_pipe.specs.Tasks.{GivesOwn, HoldsTokensOf, KeepsAll, TaskSeen}
use Rattle.morsel_end_units.specs.declared.give_unit.GiveUnit.{GiveUnit}
use Rattle.morsel_end_units.specs.declared.keep_unit.KeepUnit.{KeepUnit}
use Rattle.morsel_ports.specs.declared.node.Ends.{Ends}
use Rattle.morsel_ports.specs.declared.node.Ends.TheVariants.{Absent, Parallel, Serial}
use Rattle.morsel_ports.specs.Nodes.{AreEndsOfKinds, AreUnitsBetween, UnitSeen, unit_between}
use Rattle.morsel_group_units.specs.GroupAsks.{GroupRulesSeen}
use Rattle.morsel_group_units.specs.GroupGivers.{GivesGroupsFor}
use Rattle.morsel_group_units.specs.GroupKeepers.{GroupKeeperSeen}
use Rattle.morsel_group_units.specs.declared.giver.GroupGiver.{GroupGiver}
use Rattle.morsel_group_phases.specs.declared.places.GroupAt.{GroupAt}
use Rattle.morsel_group_phases.specs.declared.places.GroupAt.TheVariants as at
use Rattle.morsel_group_phases.specs.GroupPhases.{frame_of_group, group_at, group_job, group_rules}
use Rattle.morsel_group_phases.specs.GroupTables.{group_recv_kinds, group_send_kinds}
use Rattle.morsel_group_phases.proofs.StayLemmas.{stays_more}
use Rattle.morsel_group_node.specs.declared.group_unit.GroupUnit.{GroupUnit}
use Rattle.morsel_group_node.specs.GroupUnits.{IsGroupUnitAt, group_lanes}
use Rattle.morsel_group_node.proofs.EndLemmas.{all_made, all_polled, alone_polled, as_many, lanes_made, one_made, unit_there}
use Rattle.morsel_group_node.proofs.MadeLemmas.{seen_of}
use Rattle.morsel_group_node.proofs.PortLemmas.{each_port, each_taken_port, no_port, of_each, of_one, one_port, one_taken, seen_same}
use Rattle.morsel_group_node.proofs.StayLemmas.{makes_done, makes_same}
use Rattle.morsel_group_node.proofs.UnitLemmas.{given_between, none_between, taken_between}
use Rattle.morsel_group_node.proofs.node.GroupByNodeTokenComputeNode.take_tasks.Given.{Over}
use Rattle.morsel_group_node.proofs.node.GroupByNodeTokenComputeNode.take_tasks.Goals as goal

-- the units of a group-by, and what is seen of them
module _ (g : Over) where
  abbrev Taking : Type 0
  Taking = KeepUnit g.row.L.Denot g.row.J.Denot GroupKeeperSeen g.row.L-Board.Denot g.row.L-Group.Denot g.row.L-Token.Denot g.row.L-Sender.Denot g.row.L-Receiver.Denot g.row.L-Sender-Receipt.Denot g.row.L-Receiver-Receipt.Denot

  abbrev Giving : Type 0
  Giving = GiveUnit g.row.L.Denot g.row.J.Denot GroupGiver g.row.L-Board.Denot g.row.L-Group.Denot g.row.L-Token.Denot g.row.L-Sender.Denot g.row.L-Receiver.Denot g.row.L-Sender-Receipt.Denot g.row.L-Receiver-Receipt.Denot

  abbrev taking_seen : Taking → TaskSeen
  taking_seen task = record { work = KeepsAll; home = g.L.Receiver.LaneReceiver.home task.from; from = g.L.Receiver.LaneReceiver.lane task.from ∷ []; to = []; places = g.L.Receiver.LaneReceiver.wait_places task.from }

  abbrev giving_seen : Giving → TaskSeen
  giving_seen task = record { work = GivesOwn; home = g.L.Sender.LaneSender.home task.sending.to; from = []; to = g.L.Sender.LaneSender.lane task.sending.to ∷ []; places = g.L.Sender.LaneSender.wait_places task.sending.to }

  abbrev Unit : Type 0
  Unit = GroupUnit g.row.L.Denot g.row.J.Denot g.row.L-Board.Denot g.row.L-Group.Denot g.row.L-Token.Denot g.row.L-Sender.Denot g.row.L-Receiver.Denot g.row.L-Sender-Receipt.Denot g.row.L-Receiver-Receipt.Denot

  abbrev group_seen : Unit → UnitSeen
  group_seen unit = group_lanes taking_seen giving_seen unit.task

  abbrev takes_for : Option g.row.J.Denot → Option GroupRulesSeen → Taking → Type 0
  takes_for job rules task = (job ≡ Some (g.L.Receiver.LaneReceiver.job task.from)) × (rules ≡ Some task.keeper.rules)

  abbrev gives_for : Option Table → Giving → Type 0
  gives_for frame task = frame ≡ Some task.giver.frame

  abbrev is_there : GroupAt → Option g.row.J.Denot → Option GroupRulesSeen → Option Table → Unit → Type 0
  is_there place job rules frame unit = IsGroupUnitAt place unit.task (takes_for job rules) (gives_for frame)

  -- a unit of one kind is one of the node's there
  there : (place now : GroupAt) (job : Option g.row.J.Denot) (rules : Option GroupRulesSeen) (frame : Option Table) (P : Taking → Type 0) (Q : Giving → Type 0) → place ≡ now → ((t : Taking) → P t → takes_for job rules t) → ((t : Giving) → Q t → gives_for frame t)
      → (unit : Unit) → IsGroupUnitAt now unit.task P Q → is_there place job rules frame unit
  there place now job rules frame P Q is p q unit at = unit_there place now P (takes_for job rules) Q (gives_for frame) is p q unit.task at

-- what the ends of the node's ports are
module _ (g : Over) where
  abbrev new_from : TableId → g.row.J.Denot → g.row.L-Receiver.Denot → Type 0
  new_from = IsNewReceiver g.L.Receiver.LaneReceiver.home g.L.Receiver.LaneReceiver.job g.L.Receiver.LaneReceiver.taken g.L.Receiver.LaneReceiver.is_whole g.L.Receiver.LaneReceiver.is_cut

  abbrev new_to : TableId → g.row.J.Denot → g.row.L-Sender.Denot → Type 0
  new_to table job end = (room : ℕ) × IsNewSender g.L.Sender.LaneSender.home g.L.Sender.LaneSender.job g.L.Sender.LaneSender.room g.L.Sender.LaneSender.sent table job room end

  abbrev holds : TableId → g.row.J.Denot → Type 0
  holds table job = HoldsTokensOf g.J.LoadJob.holds g.L.Tokens.token_home job table

  -- the kinds of the ports there
  kinds_there : {E : Type 0} (kinds_of : GroupAt → List _) (place there : GroupAt) (pipelines : Option ℕ) (ports : List (Ends E)) → place ≡ there → AreEndsOfKinds (kinds_of place) pipelines ports → AreEndsOfKinds (kinds_of there) pipelines ports
  kinds_there kinds_of place there pipelines ports is are = subst (λ (o : GroupAt). AreEndsOfKinds (kinds_of o) pipelines ports) is are

-- while rows are taken
pub take_ends-ends-requires : goal.take_ends-ends-requires
take_ends-ends-requires g c =
    let port = each_port c.args.self.now.pipelines c.args.recv.now.items (kinds_there g group_recv_kinds (group_at c.args.self.now.phase) at.Sink c.args.self.now.pipelines c.args.recv.now.items (ap group_at c.in-Sink.is) c.requires.recv) in
    record { parallel = (port.0, subst (λ (ports : List (Ends g.row.L-Receiver.Denot)). slice_get ports 0 ≡ Some (Parallel port.0)) (sym port.1) refl) }

pub units_behind-requires : goal.units_behind-requires
units_behind-requires g c =
    let table = (g.L.Board.Board.id c.args._board.now).lane_table in
    let group = (g.L.Board.Board.id c.args._board.now).group_table in
    let job : g.row.J.Denot = c.requires.jobs.2.0 in
    let ports_are = each_taken_port c.args.self.now.pipelines c.args.recv.now.items c.take_ends-ends.result (kinds_there g group_recv_kinds (group_at c.args.self.now.phase) at.Sink c.args.self.now.pipelines c.args.recv.now.items (ap group_at c.in-Sink.is) c.requires.recv) c.take_ends-ends.ensures.ends in
    let all_new = of_each (new_from g table) c.args.recv.now.items c.take_ends-ends.result c.requires.jobs.0 job ports_are.0 c.requires.jobs.2.2 c.requires.jobs.3 in
    let fits_there : (job ≡ c.in-Sink.field-0.job.value) × g.J.RowsJob.gives_cuts job c.in-Sink.field-0.taken.rules.columns = rw c.in-Sink.is at c.requires.jobs.2.4 in
    let holds_job = All-head (holds g group) job [] (subst (All (holds g group)) c.requires.jobs.2.2 c.requires.jobs.5) in
    let both : Some c.in-Sink.field-0.taken.rules ≡ Some (arc_value c.in_ok-rules-in-Sink.rules) = sym (ap group_rules c.in-Sink.is) ∙ c.in_ok-rules-in-Sink.ensures.rules in
    let same_rules : c.in-Sink.field-0.taken.rules ≡ arc_value c.in_ok-rules-in-Sink.rules = cc in
    let made_with : arc_value c.new-maker.result.rules ≡ arc_value c.in_ok-rules-in-Sink.rules = ap arc_value c.new-maker.ensures in
    let columns = subst (λ (rules : GroupRulesSeen). g.J.RowsJob.gives_cuts job rules.columns) (same_rules ∙ sym made_with) fits_there.1 in
    record {
      fits = λ k d lt. let new = all_new k d lt in (subst (λ (j : g.row.J.Denot). g.J.RowsJob.gives_cuts j (arc_value c.new-maker.result.rules).columns) (sym new.1) columns, new.2);
    }

pub returns-in_ok-taking-in-Sink-clause-can_poll : goal.returns-in_ok-taking-in-Sink-clause-can_poll
returns-in_ok-taking-in-Sink-clause-can_poll g c =
    let table = (g.L.Board.Board.id c.args._board.now).lane_table in
    let group = (g.L.Board.Board.id c.args._board.now).group_table in
    let job : g.row.J.Denot = c.requires.jobs.2.0 in
    let ports_are = each_taken_port c.args.self.now.pipelines c.args.recv.now.items c.take_ends-ends.result (kinds_there g group_recv_kinds (group_at c.args.self.now.phase) at.Sink c.args.self.now.pipelines c.args.recv.now.items (ap group_at c.in-Sink.is) c.requires.recv) c.take_ends-ends.ensures.ends in
    let all_new = of_each (new_from g table) c.args.recv.now.items c.take_ends-ends.result c.requires.jobs.0 job ports_are.0 c.requires.jobs.2.2 c.requires.jobs.3 in
    let fits_there : (job ≡ c.in-Sink.field-0.job.value) × g.J.RowsJob.gives_cuts job c.in-Sink.field-0.taken.rules.columns = rw c.in-Sink.is at c.requires.jobs.2.4 in
    let holds_job = All-head (holds g group) job [] (subst (All (holds g group)) c.requires.jobs.2.2 c.requires.jobs.5) in
    let both : Some c.in-Sink.field-0.taken.rules ≡ Some (arc_value c.in_ok-rules-in-Sink.rules) = sym (ap group_rules c.in-Sink.is) ∙ c.in_ok-rules-in-Sink.ensures.rules in
    let same_rules : c.in-Sink.field-0.taken.rules ≡ arc_value c.in_ok-rules-in-Sink.rules = cc in
    let made_with : arc_value c.new-maker.result.rules ≡ arc_value c.in_ok-rules-in-Sink.rules = ap arc_value c.new-maker.ensures in
    all_polled _ _ _ _ _ _ _ (g.L.Board.Board.id c.args._board.now) c.take_ends-ends.result.items c.in_ok-taking-in-Sink.taking.items c.in_ok-taking-in-Sink.ensures.made
    (λ k d lt. let new = all_new k d lt in (new.0, subst (holds g group) (sym new.1) holds_job))

pub returns-in_ok-taking-in-Sink-clause-are_units : goal.returns-in_ok-taking-in-Sink-clause-are_units
returns-in_ok-taking-in-Sink-clause-are_units g c =
    let table = (g.L.Board.Board.id c.args._board.now).lane_table in
    let group = (g.L.Board.Board.id c.args._board.now).group_table in
    let job : g.row.J.Denot = c.requires.jobs.2.0 in
    let ports_are = each_taken_port c.args.self.now.pipelines c.args.recv.now.items c.take_ends-ends.result (kinds_there g group_recv_kinds (group_at c.args.self.now.phase) at.Sink c.args.self.now.pipelines c.args.recv.now.items (ap group_at c.in-Sink.is) c.requires.recv) c.take_ends-ends.ensures.ends in
    let all_new = of_each (new_from g table) c.args.recv.now.items c.take_ends-ends.result c.requires.jobs.0 job ports_are.0 c.requires.jobs.2.2 c.requires.jobs.3 in
    let fits_there : (job ≡ c.in-Sink.field-0.job.value) × g.J.RowsJob.gives_cuts job c.in-Sink.field-0.taken.rules.columns = rw c.in-Sink.is at c.requires.jobs.2.4 in
    let holds_job = All-head (holds g group) job [] (subst (All (holds g group)) c.requires.jobs.2.2 c.requires.jobs.5) in
    let both : Some c.in-Sink.field-0.taken.rules ≡ Some (arc_value c.in_ok-rules-in-Sink.rules) = sym (ap group_rules c.in-Sink.is) ∙ c.in_ok-rules-in-Sink.ensures.rules in
    let same_rules : c.in-Sink.field-0.taken.rules ≡ arc_value c.in_ok-rules-in-Sink.rules = cc in
    let made_with : arc_value c.new-maker.result.rules ≡ arc_value c.in_ok-rules-in-Sink.rules = ap arc_value c.new-maker.ensures in
    let phase = c.args.self.now.phase in
    all_made _ _ _ _ _ _ _ (λ from. g.L.Receiver.LaneReceiver.job from ≡ job) (is_there g (group_at phase) (group_job phase) (group_rules phase) (frame_of_group phase))
    (λ from unit of is. there g (group_at phase) at.Sink (group_job phase) (group_rules phase) (frame_of_group phase) (λ task. (g.L.Receiver.LaneReceiver.job task.from ≡ g.L.Receiver.LaneReceiver.job from) × (task.keeper.rules ≡ arc_value c.new-maker.result.rules)) (λ task. ⊥) (ap group_at c.in-Sink.is)
    (λ task same. (ap group_job c.in-Sink.is ∙ ap Some (sym fits_there.0 ∙ sym of ∙ sym same.0), c.in_ok-rules-in-Sink.ensures.rules ∙ ap Some (sym made_with ∙ sym same.1))) (λ task no. absurd no) unit is)
    c.take_ends-ends.result.items c.in_ok-taking-in-Sink.taking.items c.in_ok-taking-in-Sink.ensures.made (λ k d lt. (all_new k d lt).1)

pub returns-in_ok-taking-in-Sink-clause-between : goal.returns-in_ok-taking-in-Sink-clause-between
returns-in_ok-taking-in-Sink-clause-between g c =
    let table = (g.L.Board.Board.id c.args._board.now).lane_table in
    let group = (g.L.Board.Board.id c.args._board.now).group_table in
    let job : g.row.J.Denot = c.requires.jobs.2.0 in
    let ports_are = each_taken_port c.args.self.now.pipelines c.args.recv.now.items c.take_ends-ends.result (kinds_there g group_recv_kinds (group_at c.args.self.now.phase) at.Sink c.args.self.now.pipelines c.args.recv.now.items (ap group_at c.in-Sink.is) c.requires.recv) c.take_ends-ends.ensures.ends in
    let all_new = of_each (new_from g table) c.args.recv.now.items c.take_ends-ends.result c.requires.jobs.0 job ports_are.0 c.requires.jobs.2.2 c.requires.jobs.3 in
    let fits_there : (job ≡ c.in-Sink.field-0.job.value) × g.J.RowsJob.gives_cuts job c.in-Sink.field-0.taken.rules.columns = rw c.in-Sink.is at c.requires.jobs.2.4 in
    let holds_job = All-head (holds g group) job [] (subst (All (holds g group)) c.requires.jobs.2.2 c.requires.jobs.5) in
    let both : Some c.in-Sink.field-0.taken.rules ≡ Some (arc_value c.in_ok-rules-in-Sink.rules) = sym (ap group_rules c.in-Sink.is) ∙ c.in_ok-rules-in-Sink.ensures.rules in
    let same_rules : c.in-Sink.field-0.taken.rules ≡ arc_value c.in_ok-rules-in-Sink.rules = cc in
    let made_with : arc_value c.new-maker.result.rules ≡ arc_value c.in_ok-rules-in-Sink.rules = ap arc_value c.new-maker.ensures in
    let send = no_port c.args.self.now.pipelines c.args.send.now.items (kinds_there g group_send_kinds (group_at c.args.self.now.phase) at.Sink c.args.self.now.pipelines c.args.send.now.items (ap group_at c.in-Sink.is) c.requires.send) in
    subst (λ (ports : List (Ends g.row.L-Receiver.Denot)). AreUnitsBetween {R = g.row.L-Receiver.Denot} {S = g.row.L-Sender.Denot} (group_seen g) (unit_between g.L.Receiver.LaneReceiver.lane g.L.Sender.LaneSender.lane table ports c.args.send.now.items) ports c.args.send.now.items c.in_ok-taking-in-Sink.taking.items) (sym ports_are.0)
    (subst (λ (ports : List (Ends g.row.L-Sender.Denot)). AreUnitsBetween {R = g.row.L-Receiver.Denot} {S = g.row.L-Sender.Denot} (group_seen g) (unit_between g.L.Receiver.LaneReceiver.lane g.L.Sender.LaneSender.lane table (Parallel c.take_ends-ends.result ∷ []) ports) (Parallel c.take_ends-ends.result ∷ []) ports c.in_ok-taking-in-Sink.taking.items) (sym send)
    (taken_between (group_seen g) g.L.Receiver.LaneReceiver.lane g.L.Sender.LaneSender.lane table c.take_ends-ends.result c.in_ok-taking-in-Sink.taking.items
    (lanes_made _ _ _ _ _ _ _ table c.take_ends-ends.result.items c.in_ok-taking-in-Sink.taking.items c.in_ok-taking-in-Sink.ensures.made (λ k d lt. (all_new k d lt).0))))

pub returns-in_ok-taking-in-Sink-clause-out : goal.returns-in_ok-taking-in-Sink-clause-out
returns-in_ok-taking-in-Sink-clause-out g c =
    let ports_are = each_taken_port c.args.self.now.pipelines c.args.recv.now.items c.take_ends-ends.result (kinds_there g group_recv_kinds (group_at c.args.self.now.phase) at.Sink c.args.self.now.pipelines c.args.recv.now.items (ap group_at c.in-Sink.is) c.requires.recv) c.take_ends-ends.ensures.ends in
    let many = as_many _ c.take_ends-ends.result.items c.in_ok-taking-in-Sink.taking.items c.in_ok-taking-in-Sink.ensures.made in
    let count : c.unwrap_or-self.result ≡ length c.in_ok-taking-in-Sink.taking.items = c.unwrap_or-self.ensures ∙ ap (λ (pipelines : Option ℕ). unwrap_or pipelines 0) ports_are.1 ∙ sym many in
    seen_same _ c.args.self.now.pipelines (group_at c.args.self.now.phase) _ _ _ refl count

-- a unit fails for want of memory alone
pub returns-in_ok-taking-in-Sink-clause-faults : goal.returns-in_ok-taking-in-Sink-clause-faults
returns-in_ok-taking-in-Sink-clause-faults g c from to fits ends = λ k d lt fault is. inl is

pub returns-in_ok-push-in-Source-clause-faults : goal.returns-in_ok-push-in-Source-clause-faults
returns-in_ok-push-in-Source-clause-faults g c from to fits ends = λ k d lt fault is. inl is

-- once no more rows come
pub take_end-to-requires : goal.take_end-to-requires
take_end-to-requires g c =
    let port = one_port c.args.self.now.pipelines c.args.send.now.items (kinds_there g group_send_kinds (group_at c.args.self.now.phase) at.Source c.args.self.now.pipelines c.args.send.now.items (ap group_at c.in-Source.is) c.requires.send) in
    record { serial = (port.0, subst (λ (ports : List (Ends g.row.L-Sender.Denot)). slice_get ports 0 ≡ Some (Serial port.0)) (sym port.1) refl) }

pub giving_unit-requires : goal.giving_unit-requires
giving_unit-requires g c =
    let table = (g.L.Board.Board.id c.args._board.now).lane_table in
    let sent : g.row.J.Denot = c.requires.jobs.2.1 in
    let to_is = one_taken c.args.self.now.pipelines c.args.send.now.items c.take_end-to.result (kinds_there g group_send_kinds (group_at c.args.self.now.phase) at.Source c.args.self.now.pipelines c.args.send.now.items (ap group_at c.in-Source.is) c.requires.send) c.take_end-to.ensures.end in
    let to_new = of_one (new_to g table) c.args.send.now.items c.take_end-to.result c.requires.jobs.1 sent to_is c.requires.jobs.2.3 c.requires.jobs.4 in
    record {
      gives_for = subst (λ (job : g.row.J.Denot). GivesGroupsFor g.J.RowsJob.is_given job c.in_ok-giver-in-Source.giver) (sym to_new.1.1) (c.in_ok-giver-in-Source.ensures.gives_for c.requires.jobs.2.0 sent c.requires.jobs.2.4);
      none = (to_new.1.3, c.in_ok-giver-in-Source.ensures.none);
    }

pub returns-in_ok-push-in-Source-clause-can_poll : goal.returns-in_ok-push-in-Source-clause-can_poll
returns-in_ok-push-in-Source-clause-can_poll g c =
    let table = (g.L.Board.Board.id c.args._board.now).lane_table in
    let sent : g.row.J.Denot = c.requires.jobs.2.1 in
    let to_is = one_taken c.args.self.now.pipelines c.args.send.now.items c.take_end-to.result (kinds_there g group_send_kinds (group_at c.args.self.now.phase) at.Source c.args.self.now.pipelines c.args.send.now.items (ap group_at c.in-Source.is) c.requires.send) c.take_end-to.ensures.end in
    let to_new = of_one (new_to g table) c.args.send.now.items c.take_end-to.result c.requires.jobs.1 sent to_is c.requires.jobs.2.3 c.requires.jobs.4 in
    let unit : Unit g = c.in_ok-giving-in-Source.giving in
    let pushed : c.push.new.self.items ≡ c.in_ok-giving-in-Source.giving ∷ [] = search rules in
    alone_polled _ _ _ _ _ _ _ (g.L.Board.Board.id c.args._board.now) unit c.push.new.self.items c.in_ok-giving-in-Source.ensures.made pushed to_new.1.0 tt

pub returns-in_ok-push-in-Source-clause-are_units : goal.returns-in_ok-push-in-Source-clause-are_units
returns-in_ok-push-in-Source-clause-are_units g c =
    let unit : Unit g = c.in_ok-giving-in-Source.giving in
    let pushed : c.push.new.self.items ≡ c.in_ok-giving-in-Source.giving ∷ [] = search rules in
    let made = c.in_ok-giving-in-Source.ensures.made in
    let phase = c.take_giver.new.self in
    let same = c.in_ok-giver-in-Source.ensures.same in
    let P : Unit g → Type 0 = is_there g (group_at phase) (group_job phase) (group_rules phase) (frame_of_group phase) in
    let is : P unit = there g (group_at phase) at.Source (group_job phase) (group_rules phase) (frame_of_group phase) (λ task. ⊥) (λ task. task.giver.frame ≡ c.in_ok-giver-in-Source.giver.frame) (same.0 ∙ ap group_at c.in-Source.is)
    (λ task no. absurd no) (λ task is_frame. same.1 ∙ c.in_ok-giver-in-Source.ensures.frame ∙ ap Some (sym is_frame)) unit made.made in
    subst (All P) (sym pushed) (All-cons P unit [] is (All-nil P))

pub returns-in_ok-push-in-Source-clause-between : goal.returns-in_ok-push-in-Source-clause-between
returns-in_ok-push-in-Source-clause-between g c =
    let table = (g.L.Board.Board.id c.args._board.now).lane_table in
    let sent : g.row.J.Denot = c.requires.jobs.2.1 in
    let to_is = one_taken c.args.self.now.pipelines c.args.send.now.items c.take_end-to.result (kinds_there g group_send_kinds (group_at c.args.self.now.phase) at.Source c.args.self.now.pipelines c.args.send.now.items (ap group_at c.in-Source.is) c.requires.send) c.take_end-to.ensures.end in
    let to_new = of_one (new_to g table) c.args.send.now.items c.take_end-to.result c.requires.jobs.1 sent to_is c.requires.jobs.2.3 c.requires.jobs.4 in
    let unit : Unit g = c.in_ok-giving-in-Source.giving in
    let pushed : c.push.new.self.items ≡ c.in_ok-giving-in-Source.giving ∷ [] = search rules in
    let made = c.in_ok-giving-in-Source.ensures.made in
    let none_are = no_port c.args.self.now.pipelines c.args.recv.now.items (kinds_there g group_recv_kinds (group_at c.args.self.now.phase) at.Source c.args.self.now.pipelines c.args.recv.now.items (ap group_at c.in-Source.is) c.requires.recv) in
    let HasSent : g.row.L-Sender.Denot → Unit g → Type 0 = λ sender unit. group_seen g unit ≡ record { home = table; from = []; to = g.L.Sender.LaneSender.lane sender ∷ [] } in
    let lanes : HasSent c.take_end-to.result unit = made.lanes ∙ ap (λ (home : TableId). seen_of home [] (g.L.Sender.LaneSender.lane c.take_end-to.result ∷ [])) to_new.1.0 in
    subst (λ (ports : List (Ends g.row.L-Receiver.Denot)). AreUnitsBetween {R = g.row.L-Receiver.Denot} {S = g.row.L-Sender.Denot} (group_seen g) (unit_between g.L.Receiver.LaneReceiver.lane g.L.Sender.LaneSender.lane table ports c.args.send.now.items) ports c.args.send.now.items c.push.new.self.items) (sym none_are)
    (subst (λ (ports : List (Ends g.row.L-Sender.Denot)). AreUnitsBetween {R = g.row.L-Receiver.Denot} {S = g.row.L-Sender.Denot} (group_seen g) (unit_between g.L.Receiver.LaneReceiver.lane g.L.Sender.LaneSender.lane table (Absent ∷ []) ports) (Absent ∷ []) ports c.push.new.self.items) (sym to_is)
    (given_between (group_seen g) g.L.Receiver.LaneReceiver.lane g.L.Sender.LaneSender.lane table c.take_end-to.result c.push.new.self.items (one_made HasSent c.take_end-to.result unit c.push.new.self.items pushed lanes)))

pub returns-in_ok-push-in-Source-clause-stays : goal.returns-in_ok-push-in-Source-clause-stays
returns-in_ok-push-in-Source-clause-stays g c begun stays = (stays.0, stays_more begun.phase c.args.self.now.phase _ stays.1 c.in_ok-giver-in-Source.ensures.stays)

pub returns-in_err-push-in-Source-clause-stays : goal.returns-in_err-push-in-Source-clause-stays
returns-in_err-push-in-Source-clause-stays g c begun stays = (stays.0, stays_more begun.phase c.args.self.now.phase _ stays.1 c.in_ok-giver-in-Source.ensures.stays)

-- where there is no memory for what gives them, or for its unit
pub returns-in_err-giver-in-Source-clause-work : goal.returns-in_err-giver-in-Source-clause-work
returns-in_err-giver-in-Source-clause-work g c taken sent makes = makes_done _ _ _ taken sent c.in_err-giver-in-Source.ensures.err makes

pub returns-in_err-giver-in-Source-clause-stays : goal.returns-in_err-giver-in-Source-clause-stays
returns-in_err-giver-in-Source-clause-stays g c begun stays = (stays.0, stays_more begun.phase c.args.self.now.phase _ stays.1 c.in_err-giver-in-Source.ensures.stays)

pub returns-in_err-giving-in-Source-clause-work : goal.returns-in_err-giving-in-Source-clause-work
returns-in_err-giving-in-Source-clause-work g c taken sent makes =
    let phase = c.args.self.now.phase in let same = c.in_ok-giver-in-Source.ensures.same in makes_same (group_at phase) _ (frame_of_group phase) _ taken sent same.0 same.1 makes

pub returns-in_ok-push-in-Source-clause-work : goal.returns-in_ok-push-in-Source-clause-work
returns-in_ok-push-in-Source-clause-work g c taken sent makes =
    let phase = c.args.self.now.phase in let same = c.in_ok-giver-in-Source.ensures.same in makes_same (group_at phase) _ (frame_of_group phase) _ taken sent same.0 same.1 makes

pub returns-in_err-push-in-Source-clause-work : goal.returns-in_err-push-in-Source-clause-work
returns-in_err-push-in-Source-clause-work g c taken sent makes =
    let phase = c.args.self.now.phase in let same = c.in_ok-giver-in-Source.ensures.same in makes_same (group_at phase) _ (frame_of_group phase) _ taken sent same.0 same.1 makes

pub returns-in_err-giving-in-Source-clause-stays : goal.returns-in_err-giving-in-Source-clause-stays
returns-in_err-giving-in-Source-clause-stays g c begun stays = (stays.0, stays_more begun.phase c.args.self.now.phase _ stays.1 c.in_ok-giver-in-Source.ensures.stays)

-- nothing is left to do
pub returns-in-Done-clause-between : goal.returns-in-Done-clause-between
returns-in-Done-clause-between g c =
    let recv = no_port c.args.self.now.pipelines c.args.recv.now.items (kinds_there g group_recv_kinds (group_at c.args.self.now.phase) at.Done c.args.self.now.pipelines c.args.recv.now.items (ap group_at c.in-Done.is) c.requires.recv) in
    let send = no_port c.args.self.now.pipelines c.args.send.now.items (kinds_there g group_send_kinds (group_at c.args.self.now.phase) at.Done c.args.self.now.pipelines c.args.send.now.items (ap group_at c.in-Done.is) c.requires.send) in
    let table = (g.L.Board.Board.id c.args._board.now).lane_table in
    subst (λ (ports : List (Ends g.row.L-Receiver.Denot)). AreUnitsBetween {R = g.row.L-Receiver.Denot} {S = g.row.L-Sender.Denot} (group_seen g) (unit_between g.L.Receiver.LaneReceiver.lane g.L.Sender.LaneSender.lane table ports c.args.send.now.items) ports c.args.send.now.items c.new.result.items) (sym recv)
    (subst (λ (ports : List (Ends g.row.L-Sender.Denot)). AreUnitsBetween {R = g.row.L-Receiver.Denot} {S = g.row.L-Sender.Denot} (group_seen g) (unit_between g.L.Receiver.LaneReceiver.lane g.L.Sender.LaneSender.lane table (Absent ∷ []) ports) (Absent ∷ []) ports c.new.result.items) (sym send)
    (subst (λ (units : List (Unit g)). AreUnitsBetween {R = g.row.L-Receiver.Denot} {S = g.row.L-Sender.Denot} (group_seen g) (unit_between g.L.Receiver.LaneReceiver.lane g.L.Sender.LaneSender.lane table (Absent ∷ []) (Absent ∷ [])) (Absent ∷ []) (Absent ∷ []) units) (sym c.new.ensures.items)
    (none_between (group_seen g) g.L.Receiver.LaneReceiver.lane g.L.Sender.LaneSender.lane table)))
