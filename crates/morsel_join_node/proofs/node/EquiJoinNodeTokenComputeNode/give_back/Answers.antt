use Rattle.std.proofs.Common.{◌≡◌, ◌<◌, ◌++◌, ◌∷◌, [], List, All, Option, Some, refl, sym, subst, ◌∙◌, arith}
use Rattle.std.specs.Prelude.{⊤}
use Rattle.std.specs.Option.{IfSome}
use Rattle.std.specs.List.{flat_map}
use Rattle.std.specs.Arc.{arc_value}
use Rattle.morsel_meaning.specs.declared.fault.Fault.{Fault}
use Rattle.morsel_meaning.specs.declared.fault.Fault.TheVariants as faults
use Rattle.morsel_load.specs.Loads.{LoadSeen}
use Rattle.morsel_lane_pipe.specs.Tasks.{GivesOwn, KeepsAll, MakesOthers, TaskSeen}
use Rattle.morsel_lane_pipe.specs.declared.receipts.Receipts.{Receipts}
use Rattle.morsel_units.specs.declared.finished.Finished.{Finished}
use Rattle.morsel_flat_units.specs.declared.flat_unit.FlatUnit.{FlatUnit}
use Rattle.morsel_flat_units.specs.FlatUnits.{loads_of}
use Rattle.morsel_end_units.specs.declared.give_unit.GiveUnit.{GiveUnit}
use Rattle.morsel_end_units.specs.declared.keep_unit.KeepUnit.{KeepUnit}
use Rattle.morsel_join.specs.declared.build_side.Build.{Build}
use Rattle.morsel_join.specs.BuildSides.{kept_side}
use Rattle.morsel_join.specs.Hits.{HaveHit}
use Rattle.morsel_join_units.specs.declared.lone_giver.LoneGiver.{LoneGiver}
use Rattle.morsel_join_units.specs.declared.probe_maker.ProbeMaker.{ProbeMaker}
use Rattle.morsel_join_units.specs.declared.row_keeper.RowKeeper.{RowKeeper}
use Rattle.morsel_join_units.specs.LoneGivers.{DidGiveAlone, IsLaterGiver, place_left}
use Rattle.morsel_join_units.specs.LookedUps.{AreLookedUpOf, rows_looked_up}
use Rattle.morsel_join_units.specs.ProbeMakers.{DidProbe, IsProbeMaker}
use Rattle.morsel_join_units.specs.RowKeepers.{AreKeptOf, KeepsRowsOf, rows_kept_of}
use Rattle.morsel_join_phases.specs.JoinPhases.{asked_job_of, at_of, build_of, kept_job_of}
use Rattle.morsel_join_phases.specs.JoinTables.{MakesAt}
use Rattle.morsel_join_phases.specs.declared.places.JoinAt.{JoinAt}
use Rattle.morsel_lane_pipe.specs.declared.receipts.PipeOut.{PipeOut}
use Rattle.morsel_lane_pipe.specs.declared.stepping.Stepping.{Stepping}
use Rattle.morsel_ports.specs.Nodes.{AreUnitReceipts, IfEndedBy, IfEndedWhole}
use Rattle.morsel_stage.specs.declared.one_of.OneOf.{OneOf}
use Rattle.morsel_join_phases.proofs.StayLemmas.{stays_more}
use Rattle.morsel_join_node.specs.JoinUnits.{IsUnitAt, end_of_join, unit_lanes}
use Rattle.morsel_join_node.proofs.EndLemmas.{unit_there}
use Rattle.morsel_join_node.proofs.PortLemmas.{seen_same}
use Rattle.morsel_join_node.proofs.BackLemmas.{EndsJoin, MakesThere, any_join, fault_of, is_first, is_second, made_of, receipts_of, work_back}
use Rattle.morsel_join_node.proofs.node.EquiJoinNodeTokenComputeNode.give_back.Given.{Over}
use Rattle.morsel_join_node.proofs.node.EquiJoinNodeTokenComputeNode.give_back.Goals as goal

-- the units of a join, and what is seen of them
module _ (g : Over) where
  abbrev Keeping : Type 0
  Keeping = KeepUnit g.row.L.Denot g.row.J.Denot RowKeeper g.row.L-Board.Denot g.row.L-Group.Denot g.row.L-Token.Denot g.row.L-Sender.Denot g.row.L-Receiver.Denot g.row.L-Sender-Receipt.Denot g.row.L-Receiver-Receipt.Denot

  abbrev Probing : Type 0
  Probing = FlatUnit g.row.L.Denot g.row.J.Denot ProbeMaker g.row.L-Board.Denot g.row.L-Group.Denot g.row.L-Token.Denot g.row.L-Sender.Denot g.row.L-Receiver.Denot g.row.L-Sender-Receipt.Denot g.row.L-Receiver-Receipt.Denot

  abbrev Giving : Type 0
  Giving = GiveUnit g.row.L.Denot g.row.J.Denot LoneGiver g.row.L-Board.Denot g.row.L-Group.Denot g.row.L-Token.Denot g.row.L-Sender.Denot g.row.L-Receiver.Denot g.row.L-Sender-Receipt.Denot g.row.L-Receiver-Receipt.Denot

  abbrev Taken : Type 0
  Taken = Receipts g.row.L-Receiver-Receipt.Denot g.row.L-Sender-Receipt.Denot

  abbrev keeping_seen : Keeping → TaskSeen
  keeping_seen task = record { work = KeepsAll; home = g.L.Receiver.LaneReceiver.home task.from; from = g.L.Receiver.LaneReceiver.lane task.from ∷ []; to = []; places = g.L.Receiver.LaneReceiver.wait_places task.from }

  abbrev probing_seen : Probing → TaskSeen
  probing_seen task = record {
    work = MakesOthers;
    home = g.L.Receiver.LaneReceiver.home task.from;
    from = g.L.Receiver.LaneReceiver.lane task.from ∷ [];
    to = g.L.Sender.LaneSender.lane task.sending.to ∷ [];
    places = g.L.Receiver.LaneReceiver.wait_places task.from ++ g.L.Sender.LaneSender.wait_places task.sending.to;
  }

  abbrev giving_seen : Giving → TaskSeen
  giving_seen task = record { work = GivesOwn; home = g.L.Sender.LaneSender.home task.sending.to; from = []; to = g.L.Sender.LaneSender.lane task.sending.to ∷ []; places = g.L.Sender.LaneSender.wait_places task.sending.to }

  abbrev loads_taken : Taken → List LoadSeen
  loads_taken receipts = loads_of g.L.Receiver.LaneReceiver.all_taken receipts.taken.items

  abbrev loads_sent : Taken → List LoadSeen
  loads_sent receipts = loads_of g.L.Sender.LaneSender.all_sent receipts.sent.items

  abbrev keeping_leaves : Keeping → Finished Taken RowKeeper → Type 0
  keeping_leaves task finished = ⊤ × KeepsRowsOf g.J.LoadJob.suits g.J.RowsJob.gives_rows finished.work.kept.items (g.L.Receiver.LaneReceiver.job task.from) × (finished.work.kept.items ≡ flat_map rows_kept_of (loads_taken finished.receipts))

  abbrev probing_leaves : Probing → Finished Taken ProbeMaker → Type 0
  probing_leaves task finished = (arc_value finished.work.build ≡ arc_value task.maker.build)
      × (IsProbeMaker finished.work × g.J.RowsJob.gives_rows (g.L.Receiver.LaneReceiver.job task.from) (arc_value finished.work.build).asked × g.J.RowsJob.finds (kept_side (arc_value finished.work.build)) (g.L.Receiver.LaneReceiver.job task.from) (g.L.Sender.LaneSender.job task.sending.to) × All (AreLookedUpOf g.J.LoadJob.suits (g.L.Receiver.LaneReceiver.job task.from)) finished.work.looked.items)
      × DidProbe finished.work (loads_taken finished.receipts) (loads_sent finished.receipts)

  abbrev giving_leaves : Giving → Finished Taken LoneGiver → Type 0
  giving_leaves task finished = IsLaterGiver task.giver finished.work × (place_left finished.work.ended ≡ []) × DidGiveAlone finished.work (loads_sent finished.receipts)

  -- the rows that a unit has kept are of the lanes' job
  of_job : (phase_job : Option g.row.J.Denot) (task : Keeping) (finished : Finished Taken RowKeeper) → phase_job ≡ Some (g.L.Receiver.LaneReceiver.job task.from) → keeping_leaves task finished
      → (job : g.row.J.Denot) → phase_job ≡ Some job → All (AreKeptOf g.J.LoadJob.suits job) finished.work.kept.items
  of_job phase_job task finished is leaves job is_job =
      let both : Some (g.L.Receiver.LaneReceiver.job task.from) ≡ Some job = sym is ∙ is_job in
      let same : g.L.Receiver.LaneReceiver.job task.from ≡ job = cc in
      subst (λ (j : g.row.J.Denot). All (AreKeptOf g.J.LoadJob.suits j) finished.work.kept.items) same leaves.1.all

  -- the marks of a unit are those of the rows that it has looked up in the same kept rows
  of_build : (phase_build : Option Build) (task : Probing) (finished : Finished Taken ProbeMaker) → phase_build ≡ Some (arc_value task.maker.build) → probing_leaves task finished
      → (build : Build) → phase_build ≡ Some build → HaveHit build finished.work.hits.seen.items (rows_looked_up finished.work.looked.items)
  of_build phase_build task finished is leaves build is_build =
      let both : Some (arc_value task.maker.build) ≡ Some build = sym is ∙ is_build in
      let same : arc_value task.maker.build ≡ build = cc in
      subst (λ (b : Build). HaveHit b finished.work.hits.seen.items (rows_looked_up finished.work.looked.items)) (leaves.0 ∙ same) leaves.1.0.hits

  -- and they are of the lanes' job
  of_asked_job : (phase_job : Option g.row.J.Denot) (task : Probing) (finished : Finished Taken ProbeMaker) → phase_job ≡ Some (g.L.Receiver.LaneReceiver.job task.from) → probing_leaves task finished
      → (job : g.row.J.Denot) → phase_job ≡ Some job → All (AreLookedUpOf g.J.LoadJob.suits job) finished.work.looked.items
  of_asked_job phase_job task finished is leaves job is_job =
      let both : Some (g.L.Receiver.LaneReceiver.job task.from) ≡ Some job = sym is ∙ is_job in
      let same : g.L.Receiver.LaneReceiver.job task.from ≡ job = cc in
      subst (λ (j : g.row.J.Denot). All (AreLookedUpOf g.J.LoadJob.suits j) finished.work.looked.items) same leaves.1.3

  abbrev JoinTask : Type 0
  JoinTask = OneOf (Stepping Keeping) (Stepping Probing) (Stepping Giving)

  abbrev End : Type 0
  End = OneOf (PipeOut (Finished Taken RowKeeper)) (PipeOut (Finished Taken ProbeMaker)) (PipeOut (Finished Taken LoneGiver))

  abbrev memory_out : {T : Type 0} → T → Fault → Type 0
  memory_out task fault = fault ≡ faults.OutOfMemory

  abbrev Ends : JoinTask → End → Type 0
  Ends = EndsJoin g.L.Receiver.LaneReceiver.receipt_home g.L.Receiver.LaneReceiver.receipt_lane g.L.Receiver.LaneReceiver.all_taken g.L.Sender.LaneSender.receipt_home g.L.Sender.LaneSender.receipt_lane g.L.Sender.LaneSender.all_sent
      keeping_seen memory_out keeping_leaves probing_seen memory_out probing_leaves giving_seen memory_out giving_leaves

  receipts_for : (unit : JoinTask) (out : End) → Ends unit out → IfEndedWhole (end_of_join out) (AreUnitReceipts g.L.Receiver.LaneReceiver.receipt_home g.L.Receiver.LaneReceiver.receipt_lane g.L.Sender.LaneSender.receipt_home g.L.Sender.LaneSender.receipt_lane (unit_lanes keeping_seen probing_seen giving_seen unit))
  receipts_for unit out ended = receipts_of g.L.Receiver.LaneReceiver.receipt_home g.L.Receiver.LaneReceiver.receipt_lane g.L.Receiver.LaneReceiver.all_taken g.L.Sender.LaneSender.receipt_home g.L.Sender.LaneSender.receipt_lane g.L.Sender.LaneSender.all_sent
      keeping_seen memory_out keeping_leaves probing_seen memory_out probing_leaves giving_seen memory_out giving_leaves unit out ended

  fault_for : (unit : JoinTask) (out : End) → Ends unit out → IfEndedBy (end_of_join out) (λ fault. fault ≡ faults.OutOfMemory)
  fault_for unit out ended = fault_of g.L.Receiver.LaneReceiver.receipt_home g.L.Receiver.LaneReceiver.receipt_lane g.L.Receiver.LaneReceiver.all_taken g.L.Sender.LaneSender.receipt_home g.L.Sender.LaneSender.receipt_lane g.L.Sender.LaneSender.all_sent
      keeping_seen memory_out keeping_leaves probing_seen memory_out probing_leaves giving_seen memory_out giving_leaves (λ t fault is. is) (λ t fault is. is) (λ t fault is. is) unit out ended

  made_for : (P : Keeping → Type 0) (Q : Probing → Type 0) (N : Giving → Type 0) (place : JoinAt) (unit : JoinTask) (out : End) → IsUnitAt place unit P Q N → Ends unit out → IfEndedWhole (end_of_join out) (MakesThere g.L.Receiver.LaneReceiver.all_taken g.L.Sender.LaneSender.all_sent place)
  made_for P Q N place unit out is ended = made_of g.L.Receiver.LaneReceiver.receipt_home g.L.Receiver.LaneReceiver.receipt_lane g.L.Receiver.LaneReceiver.all_taken g.L.Sender.LaneSender.receipt_home g.L.Sender.LaneSender.receipt_lane g.L.Sender.LaneSender.all_sent
      keeping_seen memory_out keeping_leaves probing_seen memory_out probing_leaves giving_seen memory_out giving_leaves (λ t. refl) (λ t. refl) (λ t. refl) P Q N place unit out is ended

pub keep-requires : goal.keep-requires
keep-requires g c =
    let phase = c.args.self.now.phase in
    let back = is_first _ _ _ _ _ _ (at_of phase) c.requires.unit.0.task c.args.out c.in-First.out c.in-First.is c.requires.unit.1 c.requires.unit.2 in
    record {
      kept_of = subst (λ (work : Option RowKeeper). IfSome work (λ keeper. (job : g.row.J.Denot) → kept_job_of phase ≡ Some job → All (AreKeptOf g.J.LoadJob.suits job) keeper.kept.items)) (sym c.split-keeper.ensures.work)
          (work_back _ _ _ (λ (task : Keeping g). kept_job_of phase ≡ Some (g.L.Receiver.LaneReceiver.job task.from)) (λ (keeper : RowKeeper). (job : g.row.J.Denot) → kept_job_of phase ≡ Some job → All (AreKeptOf g.J.LoadJob.suits job) keeper.kept.items)
          (λ task finished is leaves. of_job g (kept_job_of phase) task finished is leaves) back.task.task c.in-First.out back.is back.given);
    }

pub mark-requires : goal.mark-requires
mark-requires g c =
    let phase = c.args.self.now.phase in
    let back = is_second _ _ _ _ _ _ (at_of phase) c.requires.unit.0.task c.args.out c.in-Second.out c.in-Second.is c.requires.unit.1 c.requires.unit.2 in
    let of : Probing g → Type 0 = λ task. (build_of phase ≡ Some (arc_value task.maker.build)) × (asked_job_of phase ≡ Some (g.L.Receiver.LaneReceiver.job task.from)) in
    let hits : ProbeMaker → Type 0 = λ maker. (build : Build) → build_of phase ≡ Some build → HaveHit build maker.hits.seen.items (rows_looked_up maker.looked.items) in
    let suits : ProbeMaker → Type 0 = λ maker. (job : g.row.J.Denot) → asked_job_of phase ≡ Some job → All (AreLookedUpOf g.J.LoadJob.suits job) maker.looked.items in
    record {
      looked_of = subst (λ (work : Option ProbeMaker). IfSome work suits) (sym c.split-maker.ensures.work)
          (work_back _ _ _ of suits (λ task finished is leaves. of_asked_job g (asked_job_of phase) task finished is.1 leaves) back.task.task c.in-Second.out back.is back.given);
      hit = subst (λ (work : Option ProbeMaker). IfSome work hits) (sym c.split-maker.ensures.work)
          (work_back _ _ _ of hits (λ task finished is leaves. of_build g (build_of phase) task finished is.0 leaves) back.task.task c.in-Second.out back.is back.given);
    }

pub returns-in-First-clause-receipts : goal.returns-in-First-clause-receipts
returns-in-First-clause-receipts g c unit is gives = receipts_for g unit.task c.args.out gives

pub returns-in-First-clause-made : goal.returns-in-First-clause-made
returns-in-First-clause-made g c unit is gives = made_for g _ _ _ (at_of c.args.self.now.phase) unit.task c.args.out is gives

pub returns-in-First-clause-fault : goal.returns-in-First-clause-fault
returns-in-First-clause-fault g c unit is gives = fault_for g unit.task c.args.out gives

pub returns-in-First-clause-took : goal.returns-in-First-clause-took
returns-in-First-clause-took g c lists took = any_join c.args.out

pub returns-in-Second-clause-receipts : goal.returns-in-Second-clause-receipts
returns-in-Second-clause-receipts g c unit is gives = receipts_for g unit.task c.args.out gives

pub returns-in-Second-clause-made : goal.returns-in-Second-clause-made
returns-in-Second-clause-made g c unit is gives = made_for g _ _ _ (at_of c.args.self.now.phase) unit.task c.args.out is gives

pub returns-in-Second-clause-fault : goal.returns-in-Second-clause-fault
returns-in-Second-clause-fault g c unit is gives = fault_for g unit.task c.args.out gives

pub returns-in-Second-clause-took : goal.returns-in-Second-clause-took
returns-in-Second-clause-took g c lists took = any_join c.args.out

pub returns-in-Third-clause-receipts : goal.returns-in-Third-clause-receipts
returns-in-Third-clause-receipts g c unit is gives = receipts_for g unit.task c.args.out gives

pub returns-in-Third-clause-made : goal.returns-in-Third-clause-made
returns-in-Third-clause-made g c unit is gives = made_for g _ _ _ (at_of c.args.self.now.phase) unit.task c.args.out is gives

pub returns-in-Third-clause-fault : goal.returns-in-Third-clause-fault
returns-in-Third-clause-fault g c unit is gives = fault_for g unit.task c.args.out gives

pub returns-in-Third-clause-took : goal.returns-in-Third-clause-took
returns-in-Third-clause-took g c lists took = any_join c.args.out

pub returns-in-First-clause-out : goal.returns-in-First-clause-out
returns-in-First-clause-out g c = let some : 0 < c.args.self.now.units = c.requires.units in seen_same _ _ _ _ _ _ c.keep.ensures.same.0 (omega (arith, some))

pub returns-in-First-clause-others : goal.returns-in-First-clause-others
returns-in-First-clause-others g c unit is =
    let same = c.keep.ensures.same in
    unit_there _ (at_of c.args.self.now.phase) _ _ _ _ _ _ same.0 (λ task of. same.1 ∙ of) (λ task of. (same.3 ∙ of.0, same.2 ∙ of.1)) (λ task of. same.3 ∙ of) unit.task is

pub returns-in-First-clause-work : goal.returns-in-First-clause-work
returns-in-First-clause-work g c taken sent makes = subst (λ (place : JoinAt). MakesAt place taken sent) c.keep.ensures.same.0 makes

pub returns-in-Second-clause-out : goal.returns-in-Second-clause-out
returns-in-Second-clause-out g c = let some : 0 < c.args.self.now.units = c.requires.units in seen_same _ _ _ _ _ _ c.mark.ensures.same.0 (omega (arith, some))

pub returns-in-Second-clause-others : goal.returns-in-Second-clause-others
returns-in-Second-clause-others g c unit is =
    let same = c.mark.ensures.same in
    unit_there _ (at_of c.args.self.now.phase) _ _ _ _ _ _ same.0 (λ task of. same.1 ∙ of) (λ task of. (same.3 ∙ of.0, same.2 ∙ of.1)) (λ task of. same.3 ∙ of) unit.task is

pub returns-in-Second-clause-work : goal.returns-in-Second-clause-work
returns-in-Second-clause-work g c taken sent makes = subst (λ (place : JoinAt). MakesAt place taken sent) c.mark.ensures.same.0 makes

pub returns-in-Third-clause-out : goal.returns-in-Third-clause-out
returns-in-Third-clause-out g c = let some : 0 < c.args.self.now.units = c.requires.units in seen_same _ _ _ _ _ _ c.end.ensures.same.0 (omega (arith, some))

pub returns-in-Third-clause-others : goal.returns-in-Third-clause-others
returns-in-Third-clause-others g c unit is =
    let same = c.end.ensures.same in
    unit_there _ (at_of c.args.self.now.phase) _ _ _ _ _ _ same.0 (λ task of. same.1 ∙ of) (λ task of. (same.3 ∙ of.0, same.2 ∙ of.1)) (λ task of. same.3 ∙ of) unit.task is

pub returns-in-Third-clause-work : goal.returns-in-Third-clause-work
returns-in-Third-clause-work g c taken sent makes = subst (λ (place : JoinAt). MakesAt place taken sent) c.end.ensures.same.0 makes

pub returns-in-First-clause-stays : goal.returns-in-First-clause-stays
returns-in-First-clause-stays g c begun stays = (stays.0, stays_more begun.phase c.args.self.now.phase _ stays.1 c.keep.ensures.stays)

pub returns-in-Second-clause-stays : goal.returns-in-Second-clause-stays
returns-in-Second-clause-stays g c begun stays = (stays.0, stays_more begun.phase c.args.self.now.phase _ stays.1 c.mark.ensures.stays)

pub returns-in-Third-clause-stays : goal.returns-in-Third-clause-stays
returns-in-Third-clause-stays g c begun stays = (stays.0, stays_more begun.phase c.args.self.now.phase _ stays.1 c.end.ensures.stays)
