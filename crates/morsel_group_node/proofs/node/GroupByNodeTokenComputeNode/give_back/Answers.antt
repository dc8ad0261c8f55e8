use Rattle.std.proofs.Common.{◌≡◌, ◌<◌, ◌∷◌, [], List, All, Option, Some, map, refl, sym, ap, subst, ◌∙◌, arith}
use Rattle.std.specs.Option.{IfSome}
use Rattle.std.specs.List.{flat_map}
use Rattle.morsel_meaning.specs.declared.fault.Fault.{Fault}
use Rattle.morsel_meaning.specs.declared.fault.Fault.TheVariants as faults
use Rattle.morsel_meaning.specs.Values.{Table}
use Rattle.morsel_load.specs.Loads.{LoadSeen}
use Rattle.morsel_lane_pipe.specs.Tasks.{GivesOwn, KeepsAll, TaskSeen}
use Rattle.morsel_lane_pipe.specs.declared.receipts.PipeOut.{PipeOut}
use Rattle.morsel_lane_pipe.specs.declared.receipts.Receipts.{Receipts}
use Rattle.morsel_lane_pipe.specs.declared.stepping.Stepping.{Stepping}
use Rattle.morsel_units.specs.declared.finished.Finished.{Finished}
use Rattle.morsel_flat_units.specs.FlatUnits.{loads_of}
use Rattle.morsel_end_units.specs.declared.give_unit.GiveUnit.{GiveUnit}
use Rattle.morsel_end_units.specs.declared.keep_unit.KeepUnit.{KeepUnit}
use Rattle.morsel_pair.specs.declared.two_of.TwoOf.{TwoOf}
use Rattle.morsel_ports.specs.Nodes.{AreUnitReceipts, IfEndedBy, IfEndedWhole}
use Rattle.morsel_rows_job.specs.RowsJobs.{IsCutFor}
use Rattle.morsel_group_units.specs.GroupAsks.{GroupRulesSeen}
use Rattle.morsel_group_units.specs.GroupGivers.{DidGiveGroups, IsLaterGroupGiver, groups_left}
use Rattle.morsel_group_units.specs.GroupKeepers.{GroupKeeperSeen, KeepsCutsOf}
use Rattle.morsel_group_units.specs.TakenLoads.{cuts_of_load, taken_cut}
use Rattle.morsel_group_units.specs.declared.giver.GroupGiver.{GroupGiver}
use Rattle.morsel_group_phases.specs.GroupPhases.{frame_of_group, group_at, group_job, group_rules}
use Rattle.morsel_group_phases.specs.declared.places.GroupAt.{GroupAt}
use Rattle.morsel_group_phases.proofs.StayLemmas.{stays_more}
use Rattle.morsel_group_node.specs.GroupUnits.{IsGroupUnitAt, end_of_group, group_lanes}
use Rattle.morsel_group_node.proofs.EndLemmas.{unit_there}
use Rattle.morsel_group_node.proofs.PortLemmas.{seen_same}
use Rattle.morsel_group_node.proofs.StayLemmas.{makes_same}
use Rattle.morsel_group_node.proofs.BackLemmas.{EndsGroup, HasSentRows, MakesThere, any_group, fault_of, given_rows, is_taking, made_of, receipts_of, work_back}
use Rattle.morsel_group_node.proofs.node.GroupByNodeTokenComputeNode.give_back.Given.{Over}
use Rattle.morsel_group_node.proofs.node.GroupByNodeTokenComputeNode.give_back.Goals as goal

-- the units of a group-by, and what is seen of them
module _ (g : Over) where
  abbrev Taking : Type 0
  Taking = KeepUnit g.row.L.Denot g.row.J.Denot GroupKeeperSeen g.row.L-Board.Denot g.row.L-Group.Denot g.row.L-Token.Denot g.row.L-Sender.Denot g.row.L-Receiver.Denot g.row.L-Sender-Receipt.Denot g.row.L-Receiver-Receipt.Denot

  abbrev Giving : Type 0
  Giving = GiveUnit g.row.L.Denot g.row.J.Denot GroupGiver g.row.L-Board.Denot g.row.L-Group.Denot g.row.L-Token.Denot g.row.L-Sender.Denot g.row.L-Receiver.Denot g.row.L-Sender-Receipt.Denot g.row.L-Receiver-Receipt.Denot

  abbrev Taken : Type 0
  Taken = Receipts g.row.L-Receiver-Receipt.Denot g.row.L-Sender-Receipt.Denot

  abbrev taking_seen : Taking → TaskSeen
  taking_seen task = record { work = KeepsAll; home = g.L.Receiver.LaneReceiver.home task.from; from = g.L.Receiver.LaneReceiver.lane task.from ∷ []; to = []; places = g.L.Receiver.LaneReceiver.wait_places task.from }

  abbrev giving_seen : Giving → TaskSeen
  giving_seen task = record { work = GivesOwn; home = g.L.Sender.LaneSender.home task.sending.to; from = []; to = g.L.Sender.LaneSender.lane task.sending.to ∷ []; places = g.L.Sender.LaneSender.wait_places task.sending.to }

  abbrev loads_taken : Taken → List LoadSeen
  loads_taken receipts = loads_of g.L.Receiver.LaneReceiver.all_taken receipts.taken.items

  abbrev loads_sent : Taken → List LoadSeen
  loads_sent receipts = loads_of g.L.Sender.LaneSender.all_sent receipts.sent.items

  abbrev taking_leaves : Taking → Finished Taken GroupKeeperSeen → Type 0
  taking_leaves task finished = (finished.work.rules ≡ task.keeper.rules) × KeepsCutsOf g.J.LoadJob.suits g.J.RowsJob.gives_cuts finished.work (g.L.Receiver.LaneReceiver.job task.from) × (map taken_cut finished.work.taken ≡ flat_map cuts_of_load (loads_taken finished.receipts))

  abbrev giving_leaves : Giving → Finished Taken GroupGiver → Type 0
  giving_leaves task finished = IsLaterGroupGiver task.giver finished.work × (groups_left finished.work.ended ≡ []) × DidGiveGroups finished.work (loads_sent finished.receipts)

  abbrev of_node : Option g.row.J.Denot → Option GroupRulesSeen → Taking → Type 0
  of_node job rules task = (job ≡ Some (g.L.Receiver.LaneReceiver.job task.from)) × (rules ≡ Some task.keeper.rules)

  -- what a unit took is of the lanes' job
  of_job : (phase_job : Option g.row.J.Denot) (task : Taking) (finished : Finished Taken GroupKeeperSeen) → phase_job ≡ Some (g.L.Receiver.LaneReceiver.job task.from) → taking_leaves task finished
      → (job : g.row.J.Denot) → phase_job ≡ Some job → All (IsCutFor g.J.LoadJob.suits job) (map taken_cut finished.work.taken)
  of_job phase_job task finished is leaves job is_job =
      let both : Some (g.L.Receiver.LaneReceiver.job task.from) ≡ Some job = sym is ∙ is_job in
      let same : g.L.Receiver.LaneReceiver.job task.from ≡ job = cc in
      subst (λ (j : g.row.J.Denot). All (IsCutFor g.J.LoadJob.suits j) (map taken_cut finished.work.taken)) same leaves.1.all

  -- for what the group-by is asked for
  of_rules : (phase_rules : Option GroupRulesSeen) (task : Taking) (finished : Finished Taken GroupKeeperSeen) → phase_rules ≡ Some task.keeper.rules → taking_leaves task finished → (rules : GroupRulesSeen) → phase_rules ≡ Some rules → finished.work.rules ≡ rules
  of_rules phase_rules task finished is leaves rules is_rules =
      let both : Some task.keeper.rules ≡ Some rules = sym is ∙ is_rules in
      let same : task.keeper.rules ≡ rules = cc in
      leaves.0 ∙ same

  abbrev UnitTask : Type 0
  UnitTask = TwoOf (Stepping Taking) (Stepping Giving)

  abbrev End : Type 0
  End = TwoOf (PipeOut (Finished Taken GroupKeeperSeen)) (PipeOut (Finished Taken GroupGiver))

  abbrev memory_out : {T : Type 0} → T → Fault → Type 0
  memory_out task fault = fault ≡ faults.OutOfMemory

  abbrev Ends : UnitTask → End → Type 0
  Ends = EndsGroup g.L.Receiver.LaneReceiver.receipt_home g.L.Receiver.LaneReceiver.receipt_lane g.L.Receiver.LaneReceiver.all_taken g.L.Sender.LaneSender.receipt_home g.L.Sender.LaneSender.receipt_lane g.L.Sender.LaneSender.all_sent
      taking_seen memory_out taking_leaves giving_seen memory_out giving_leaves

  receipts_for : (unit : UnitTask) (out : End) → Ends unit out → IfEndedWhole (end_of_group out) (AreUnitReceipts g.L.Receiver.LaneReceiver.receipt_home g.L.Receiver.LaneReceiver.receipt_lane g.L.Sender.LaneSender.receipt_home g.L.Sender.LaneSender.receipt_lane (group_lanes taking_seen giving_seen unit))
  receipts_for unit out ended = receipts_of g.L.Receiver.LaneReceiver.receipt_home g.L.Receiver.LaneReceiver.receipt_lane g.L.Receiver.LaneReceiver.all_taken g.L.Sender.LaneSender.receipt_home g.L.Sender.LaneSender.receipt_lane g.L.Sender.LaneSender.all_sent
      taking_seen memory_out taking_leaves giving_seen memory_out giving_leaves unit out ended

  fault_for : (unit : UnitTask) (out : End) → Ends unit out → IfEndedBy (end_of_group out) (λ fault. fault ≡ faults.OutOfMemory)
  fault_for unit out ended = fault_of g.L.Receiver.LaneReceiver.receipt_home g.L.Receiver.LaneReceiver.receipt_lane g.L.Receiver.LaneReceiver.all_taken g.L.Sender.LaneSender.receipt_home g.L.Sender.LaneSender.receipt_lane g.L.Sender.LaneSender.all_sent
      taking_seen memory_out taking_leaves giving_seen memory_out giving_leaves (λ t fault is. is) (λ t fault is. is) unit out ended

  abbrev of_frame : Option Table → Giving → Type 0
  of_frame frame task = frame ≡ Some task.giver.frame

  -- all rows of the group-by were sent
  rows_for : (frame : Option Table) (task : Giving) (finished : Finished Taken GroupGiver) → of_frame frame task → giving_leaves task finished → HasSentRows g.L.Receiver.LaneReceiver.all_taken g.L.Sender.LaneSender.all_sent frame finished.receipts.sent.items
  rows_for frame task finished is left table there =
      let both : Some task.giver.frame ≡ Some table = sym is ∙ there in
      let same : task.giver.frame ≡ table = cc in
      given_rows task.giver finished.work (loads_sent finished.receipts) left.0 left.1 left.2 ∙ ap (λ (t : Table). t.rows) same

  made_for : (job : Option g.row.J.Denot) (rules : Option GroupRulesSeen) (frame : Option Table) (place : GroupAt) (unit : UnitTask) (out : End) → IsGroupUnitAt place unit (of_node job rules) (of_frame frame) → Ends unit out
      → IfEndedWhole (end_of_group out) (MakesThere g.L.Receiver.LaneReceiver.all_taken g.L.Sender.LaneSender.all_sent place frame)
  made_for job rules frame place unit out is ended = made_of g.L.Receiver.LaneReceiver.receipt_home g.L.Receiver.LaneReceiver.receipt_lane g.L.Receiver.LaneReceiver.all_taken g.L.Sender.LaneSender.receipt_home g.L.Sender.LaneSender.receipt_lane g.L.Sender.LaneSender.all_sent
      taking_seen memory_out taking_leaves giving_seen memory_out giving_leaves (λ t. refl) (λ t. refl) (of_node job rules) (of_frame frame) frame (λ t finished of left. rows_for frame t finished of left) place unit out is ended

pub keep-requires : goal.keep-requires
keep-requires g c =
    let phase = c.args.self.now.phase in
    let back = is_taking _ _ _ _ (group_at phase) c.requires.unit.0.task c.args.out c.in-First.out c.in-First.is c.requires.unit.1 c.requires.unit.2 in
    let suits : GroupKeeperSeen → Type 0 = λ keeper. (job : g.row.J.Denot) → group_job phase ≡ Some job → All (IsCutFor g.J.LoadJob.suits job) (map taken_cut keeper.taken) in
    let asked : GroupKeeperSeen → Type 0 = λ keeper. (rules : GroupRulesSeen) → group_rules phase ≡ Some rules → keeper.rules ≡ rules in
    record {
      rules = subst (λ (work : Option GroupKeeperSeen). IfSome work asked) (sym c.split-keeper.ensures.work)
          (work_back _ _ _ (of_node g (group_job phase) (group_rules phase)) asked (λ task finished is leaves. of_rules g (group_rules phase) task finished is.1 leaves) back.task.task c.in-First.out back.is back.given);
      suits = subst (λ (work : Option GroupKeeperSeen). IfSome work suits) (sym c.split-keeper.ensures.work)
          (work_back _ _ _ (of_node g (group_job phase) (group_rules phase)) suits (λ task finished is leaves. of_job g (group_job phase) task finished is.0 leaves) back.task.task c.in-First.out back.is back.given);
    }

pub returns-in-First-clause-receipts : goal.returns-in-First-clause-receipts
returns-in-First-clause-receipts g c unit is gives = receipts_for g unit.task c.args.out gives

pub returns-in-First-clause-made : goal.returns-in-First-clause-made
returns-in-First-clause-made g c unit is gives =
    let phase = c.args.self.now.phase in made_for g (group_job phase) (group_rules phase) (frame_of_group phase) (group_at phase) unit.task c.args.out is gives

pub returns-in-First-clause-fault : goal.returns-in-First-clause-fault
returns-in-First-clause-fault g c unit is gives = fault_for g unit.task c.args.out gives

pub returns-in-First-clause-took : goal.returns-in-First-clause-took
returns-in-First-clause-took g c lists took = any_group c.args.out

pub returns-in-Second-clause-receipts : goal.returns-in-Second-clause-receipts
returns-in-Second-clause-receipts g c unit is gives = receipts_for g unit.task c.args.out gives

pub returns-in-Second-clause-made : goal.returns-in-Second-clause-made
returns-in-Second-clause-made g c unit is gives =
    let phase = c.args.self.now.phase in made_for g (group_job phase) (group_rules phase) (frame_of_group phase) (group_at phase) unit.task c.args.out is gives

pub returns-in-Second-clause-fault : goal.returns-in-Second-clause-fault
returns-in-Second-clause-fault g c unit is gives = fault_for g unit.task c.args.out gives

pub returns-in-Second-clause-took : goal.returns-in-Second-clause-took
returns-in-Second-clause-took g c lists took = any_group c.args.out

pub returns-in-First-clause-out : goal.returns-in-First-clause-out
returns-in-First-clause-out g c = let some : 0 < c.args.self.now.units = c.requires.units in seen_same _ _ _ _ _ _ c.keep.ensures.same.0 (omega (arith, some))

pub returns-in-First-clause-others : goal.returns-in-First-clause-others
returns-in-First-clause-others g c unit is =
    let same = c.keep.ensures.same in
    unit_there _ (group_at c.args.self.now.phase) _ _ _ _ same.0 (λ task of. (same.2 ∙ of.0, same.1 ∙ of.1)) (λ task of. same.3 ∙ of) unit.task is

pub returns-in-First-clause-work : goal.returns-in-First-clause-work
returns-in-First-clause-work g c taken sent makes = let phase = c.args.self.now.phase in makes_same (group_at phase) _ (frame_of_group phase) _ taken sent c.keep.ensures.same.0 c.keep.ensures.same.3 makes

pub returns-in-First-clause-stays : goal.returns-in-First-clause-stays
returns-in-First-clause-stays g c begun stays = (stays.0, stays_more begun.phase c.args.self.now.phase _ stays.1 c.keep.ensures.stays)

pub returns-in-Second-clause-out : goal.returns-in-Second-clause-out
returns-in-Second-clause-out g c = let some : 0 < c.args.self.now.units = c.requires.units in seen_same _ _ _ _ _ _ c.end.ensures.same.0 (omega (arith, some))

pub returns-in-Second-clause-others : goal.returns-in-Second-clause-others
returns-in-Second-clause-others g c unit is =
    let same = c.end.ensures.same in
    unit_there _ (group_at c.args.self.now.phase) _ _ _ _ same.0 (λ task of. (same.2 ∙ of.0, same.1 ∙ of.1)) (λ task of. same.3 ∙ of) unit.task is

pub returns-in-Second-clause-work : goal.returns-in-Second-clause-work
returns-in-Second-clause-work g c taken sent makes = let phase = c.args.self.now.phase in makes_same (group_at phase) _ (frame_of_group phase) _ taken sent c.end.ensures.same.0 c.end.ensures.same.3 makes

pub returns-in-Second-clause-stays : goal.returns-in-Second-clause-stays
returns-in-Second-clause-stays g c begun stays = (stays.0, stays_more begun.phase c.args.self.now.phase _ stays.1 c.end.ensures.stays)
