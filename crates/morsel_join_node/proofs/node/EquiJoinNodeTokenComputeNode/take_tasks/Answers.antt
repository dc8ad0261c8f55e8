use Rattle.std.proofs.Common.{rules, Option, Some, ◌≡◌, ◌++◌, ◌∷◌, [], ℕ, ◌<◌, All, List, length, map, refl, sym, ap, subst, ◌∙◌}
use Rattle.std.proofs.lemmas.List.{length-map}
use Rattle.std.proofs.lemmas.List.Elements.{All-cons, All-head, All-nil, All-tail, All-weaker}
use Rattle.std.specs.List.{slice_get}
use Rattle.std.specs.Option.{unwrap_or}
use Rattle.std.specs.Arc.{arc_value}
use Rattle.atomic_table.specs.Seated.{TableId}
use Rattle.morsel_merge.specs.Ends.{IsNewReceiver, IsNewSender}
use Rattle.morsel_lane_pipe.specs.Tasks.{GivesOwn, HoldsTokensOf, KeepsAll, MakesOthers, TaskSeen}
use Rattle.morsel_join.specs.declared.build_side.Build.{Build}
use Rattle.morsel_join.specs.BuildSides.{IsBuild, kept_side}
use Rattle.morsel_join_units.specs.LoneGivers.{GivesAloneFor}
use Rattle.morsel_join_units.specs.declared.lone_giver.LoneGiver.{LoneGiver}
use Rattle.morsel_join_units.specs.declared.probe_maker.ProbeMaker.{ProbeMaker}
use Rattle.morsel_join_units.specs.declared.row_keeper.RowKeeper.{RowKeeper}
use Rattle.morsel_flat_units.specs.declared.flat_unit.FlatUnit.{FlatUnit}
use Rattle.morsel_end_units.specs.declared.give_unit.GiveUnit.{GiveUnit}
use Rattle.morsel_end_units.specs.declared.keep_unit.KeepUnit.{KeepUnit}
use Rattle.morsel_ports.specs.declared.node.Ends.{Ends}
use Rattle.morsel_ports.specs.declared.node.Ends.TheVariants.{Absent, Parallel, Serial}
use Rattle.morsel_ports.specs.Nodes.{AreEndsOfKinds, AreUnitsBetween, UnitSeen, unit_between}
use Rattle.morsel_join_phases.specs.declared.places.JoinAt.{JoinAt}
use Rattle.morsel_join_phases.specs.declared.places.JoinAt.TheVariants as at
use Rattle.morsel_join_phases.specs.JoinPhases.{asked_job_of, at_of, build_of, kept_job_of}
use Rattle.morsel_join_phases.specs.JoinTables.{MakesAt, recv_kinds_at, send_kinds_at}
use Rattle.morsel_join_phases.proofs.StayLemmas.{stays_more}
use Rattle.morsel_join_node.specs.declared.join_unit.JoinUnit.{JoinUnit}
use Rattle.morsel_join_node.specs.JoinUnits.{CanLookUp, IsUnitAt, unit_lanes}
use Rattle.morsel_join_node.proofs.EndLemmas.{all_made, alone_polled, all_pairs, all_polled, as_many, lanes_made, one_made, unit_there}
use Rattle.morsel_join_node.proofs.MadeLemmas.{seen_of}
use Rattle.morsel_join_node.proofs.PortLemmas.{as_many_ends, asked_ports, asked_taken, kept_ports, kept_taken, no_port, no_ports, of_asked, of_kept, of_one, of_sent, one_port, one_taken, seen_same, sent_ports, sent_taken}
use Rattle.morsel_join_node.proofs.StayLemmas.{makes_done}
use Rattle.morsel_join_node.proofs.UnitLemmas.{asked_between, given_between, kept_between, none_between}
use Rattle.morsel_join_node.proofs.node.EquiJoinNodeTokenComputeNode.take_tasks.Given.{Over}
use Rattle.morsel_join_node.proofs.node.EquiJoinNodeTokenComputeNode.take_tasks.Goals as goal

-- the units of a join, and what is seen of them
module _ (g : Over) where
  abbrev Keeping : Type 0
  Keeping = KeepUnit g.row.L.Denot g.row.J.Denot RowKeeper g.row.L-Board.Denot g.row.L-Group.Denot g.row.L-Token.Denot g.row.L-Sender.Denot g.row.L-Receiver.Denot g.row.L-Sender-Receipt.Denot g.row.L-Receiver-Receipt.Denot

  abbrev Probing : Type 0
  Probing = FlatUnit g.row.L.Denot g.row.J.Denot ProbeMaker g.row.L-Board.Denot g.row.L-Group.Denot g.row.L-Token.Denot g.row.L-Sender.Denot g.row.L-Receiver.Denot g.row.L-Sender-Receipt.Denot g.row.L-Receiver-Receipt.Denot

  abbrev Giving : Type 0
  Giving = GiveUnit g.row.L.Denot g.row.J.Denot LoneGiver g.row.L-Board.Denot g.row.L-Group.Denot g.row.L-Token.Denot g.row.L-Sender.Denot g.row.L-Receiver.Denot g.row.L-Sender-Receipt.Denot g.row.L-Receiver-Receipt.Denot

  abbrev keeping_seen : Keeping → TaskSeen
  keeping_seen task = record { work = KeepsAll; home = g.L.Receiver.LaneReceiver.home task.from; from = g.L.Receiver.LaneReceiver.lane task.from ∷ []; to = []; places = g.L.Receiver.LaneReceiver.wait_places task.from }

  abbrev probing_seen : Probing → TaskSeen
  probing_seen task = record {
    work = MakesOthers;
    home = g.L.Receiver.LaneReceiver.home task.from;
    from = g.L.Receiver.LaneReceiver.lane task.from ∷ [];
    to = g.L.Sender.LaneSender.lane task.sending.to ∷ [];
    places = g.L.Receiver.LaneReceiver.wait_places task.from ++ g.L.Sender.LaneSender.wait_places task.sending.to;
  }

  abbrev giving_seen : Giving → TaskSeen
  giving_seen task = record { work = GivesOwn; home = g.L.Sender.LaneSender.home task.sending.to; from = []; to = g.L.Sender.LaneSender.lane task.sending.to ∷ []; places = g.L.Sender.LaneSender.wait_places task.sending.to }

  abbrev Unit : Type 0
  Unit = JoinUnit g.row.L.Denot g.row.J.Denot g.row.L-Board.Denot g.row.L-Group.Denot g.row.L-Token.Denot g.row.L-Sender.Denot g.row.L-Receiver.Denot g.row.L-Sender-Receipt.Denot g.row.L-Receiver-Receipt.Denot

  abbrev join_seen : Unit → UnitSeen
  join_seen unit = unit_lanes keeping_seen probing_seen giving_seen unit.task

  abbrev keeps_for : Option g.row.J.Denot → Keeping → Type 0
  keeps_for job task = job ≡ Some (g.L.Receiver.LaneReceiver.job task.from)

  abbrev probes_for : Option Build → Option g.row.J.Denot → Probing → Type 0
  probes_for build job task = (build ≡ Some (arc_value task.maker.build)) × (job ≡ Some (g.L.Receiver.LaneReceiver.job task.from))

  abbrev gives_for : Option Build → Giving → Type 0
  gives_for build task = build ≡ Some (arc_value task.giver.lone.build)

  abbrev is_there : JoinAt → Option g.row.J.Denot → Option g.row.J.Denot → Option Build → Unit → Type 0
  is_there place kept asked build unit = IsUnitAt place unit.task (keeps_for kept) (probes_for build asked) (gives_for build)

  -- a unit of one kind is one of the node's there
  there : (place now : JoinAt) (kept asked : Option g.row.J.Denot) (build : Option Build) (P : Keeping → Type 0) (Q : Probing → Type 0) (N : Giving → Type 0) → place ≡ now → ((t : Keeping) → P t → keeps_for kept t) → ((t : Probing) → Q t → probes_for build asked t) → ((t : Giving) → N t → gives_for build t)
      → (unit : Unit) → IsUnitAt now unit.task P Q N → is_there place kept asked build unit
  there place now kept asked build P Q N is p q n unit at = unit_there place now P (keeps_for kept) Q (probes_for build asked) N (gives_for build) is p q n unit.task at

-- what the ends of the node's ports are
module _ (g : Over) where
  abbrev new_from : TableId → g.row.J.Denot → g.row.L-Receiver.Denot → Type 0
  new_from = IsNewReceiver g.L.Receiver.LaneReceiver.home g.L.Receiver.LaneReceiver.job g.L.Receiver.LaneReceiver.taken g.L.Receiver.LaneReceiver.is_whole g.L.Receiver.LaneReceiver.is_cut

  abbrev new_to : TableId → g.row.J.Denot → g.row.L-Sender.Denot → Type 0
  new_to table job end = (room : ℕ) × IsNewSender g.L.Sender.LaneSender.home g.L.Sender.LaneSender.job g.L.Sender.LaneSender.room g.L.Sender.LaneSender.sent table job room end

  abbrev holds : TableId → g.row.J.Denot → Type 0
  holds table job = HoldsTokensOf g.J.LoadJob.holds g.L.Tokens.token_home job table

  -- the kinds of the ports there
  kinds_there : {E : Type 0} (kinds_of : JoinAt → List _) (place there : JoinAt) (pipelines : Option ℕ) (ports : List (Ends E)) → place ≡ there → AreEndsOfKinds (kinds_of place) pipelines ports → AreEndsOfKinds (kinds_of there) pipelines ports
  kinds_there kinds_of place there pipelines ports is are = subst (λ (o : JoinAt). AreEndsOfKinds (kinds_of o) pipelines ports) is are

-- while rows are kept
pub take_ends-ends-requires : goal.take_ends-ends-requires
take_ends-ends-requires g c =
    let port = kept_ports c.args.self.now.pipelines c.args.recv.now.items (kinds_there g recv_kinds_at (at_of c.args.self.now.phase) at.Build c.args.self.now.pipelines c.args.recv.now.items (ap at_of c.in-Build.is) c.requires.recv) in
    record { parallel = (port.0, subst (λ (ports : List (Ends g.row.L-Receiver.Denot)). slice_get ports 0 ≡ Some (Parallel port.0)) (sym port.1) refl) }

pub units_behind-requires : goal.units_behind-requires
units_behind-requires g c =
    let table = (g.L.Board.Board.id c.args._board.now).lane_table in
    let group = (g.L.Board.Board.id c.args._board.now).group_table in
    let kept : g.row.J.Denot = c.requires.jobs.2.0 in
    let ports_are = kept_taken c.args.self.now.pipelines c.args.recv.now.items c.take_ends-ends.result (kinds_there g recv_kinds_at (at_of c.args.self.now.phase) at.Build c.args.self.now.pipelines c.args.recv.now.items (ap at_of c.in-Build.is) c.requires.recv) c.take_ends-ends.ensures.ends in
    let all_new = of_kept (new_from g table) c.args.recv.now.items c.take_ends-ends.result c.requires.jobs.0 kept c.requires.jobs.2.1 ports_are.0 c.requires.jobs.2.3 c.requires.jobs.3 in
    let fits_there : (kept ≡ c.in-Build.field-0.job.value) × g.J.RowsJob.gives_rows kept c.in-Build.field-0.columns = rw c.in-Build.is at c.requires.jobs.2.5 in
    let holds_kept = All-head (holds g group) kept (c.requires.jobs.2.1 ∷ []) (subst (All (holds g group)) c.requires.jobs.2.3 c.requires.jobs.5) in
    record {
      fits = λ k d lt. let new = all_new k d lt in ((c.in-Build.field-0.columns, subst (λ (job : g.row.J.Denot). g.J.RowsJob.gives_rows job c.in-Build.field-0.columns) (sym new.1) fits_there.1), new.2);
    }

pub returns-in_ok-keeping-in-Build-clause-can_poll : goal.returns-in_ok-keeping-in-Build-clause-can_poll
returns-in_ok-keeping-in-Build-clause-can_poll g c =
    let table = (g.L.Board.Board.id c.args._board.now).lane_table in
    let group = (g.L.Board.Board.id c.args._board.now).group_table in
    let kept : g.row.J.Denot = c.requires.jobs.2.0 in
    let ports_are = kept_taken c.args.self.now.pipelines c.args.recv.now.items c.take_ends-ends.result (kinds_there g recv_kinds_at (at_of c.args.self.now.phase) at.Build c.args.self.now.pipelines c.args.recv.now.items (ap at_of c.in-Build.is) c.requires.recv) c.take_ends-ends.ensures.ends in
    let all_new = of_kept (new_from g table) c.args.recv.now.items c.take_ends-ends.result c.requires.jobs.0 kept c.requires.jobs.2.1 ports_are.0 c.requires.jobs.2.3 c.requires.jobs.3 in
    let fits_there : (kept ≡ c.in-Build.field-0.job.value) × g.J.RowsJob.gives_rows kept c.in-Build.field-0.columns = rw c.in-Build.is at c.requires.jobs.2.5 in
    let holds_kept = All-head (holds g group) kept (c.requires.jobs.2.1 ∷ []) (subst (All (holds g group)) c.requires.jobs.2.3 c.requires.jobs.5) in
    all_polled _ _ _ _ _ _ _ (g.L.Board.Board.id c.args._board.now) c.take_ends-ends.result.items c.in_ok-keeping-in-Build.keeping.items c.in_ok-keeping-in-Build.ensures.made
    (λ k d lt. let new = all_new k d lt in (new.0, subst (holds g group) (sym new.1) holds_kept))

pub returns-in_ok-keeping-in-Build-clause-are_units : goal.returns-in_ok-keeping-in-Build-clause-are_units
returns-in_ok-keeping-in-Build-clause-are_units g c =
    let table = (g.L.Board.Board.id c.args._board.now).lane_table in
    let group = (g.L.Board.Board.id c.args._board.now).group_table in
    let kept : g.row.J.Denot = c.requires.jobs.2.0 in
    let ports_are = kept_taken c.args.self.now.pipelines c.args.recv.now.items c.take_ends-ends.result (kinds_there g recv_kinds_at (at_of c.args.self.now.phase) at.Build c.args.self.now.pipelines c.args.recv.now.items (ap at_of c.in-Build.is) c.requires.recv) c.take_ends-ends.ensures.ends in
    let all_new = of_kept (new_from g table) c.args.recv.now.items c.take_ends-ends.result c.requires.jobs.0 kept c.requires.jobs.2.1 ports_are.0 c.requires.jobs.2.3 c.requires.jobs.3 in
    let fits_there : (kept ≡ c.in-Build.field-0.job.value) × g.J.RowsJob.gives_rows kept c.in-Build.field-0.columns = rw c.in-Build.is at c.requires.jobs.2.5 in
    let holds_kept = All-head (holds g group) kept (c.requires.jobs.2.1 ∷ []) (subst (All (holds g group)) c.requires.jobs.2.3 c.requires.jobs.5) in
    let phase = c.args.self.now.phase in
    all_made _ _ _ _ _ _ _ (λ from. g.L.Receiver.LaneReceiver.job from ≡ kept) (is_there g (at_of phase) (kept_job_of phase) (asked_job_of phase) (build_of phase))
    (λ from unit of is. there g (at_of phase) at.Build (kept_job_of phase) (asked_job_of phase) (build_of phase) (λ task. g.L.Receiver.LaneReceiver.job task.from ≡ g.L.Receiver.LaneReceiver.job from) (λ task. ⊥) (λ task. ⊥) (ap at_of c.in-Build.is)
    (λ task same. ap kept_job_of c.in-Build.is ∙ ap Some (sym fits_there.0 ∙ sym of ∙ sym same)) (λ task no. absurd no) (λ task no. absurd no) unit is)
    c.take_ends-ends.result.items c.in_ok-keeping-in-Build.keeping.items c.in_ok-keeping-in-Build.ensures.made (λ k d lt. (all_new k d lt).1)

pub returns-in_ok-keeping-in-Build-clause-between : goal.returns-in_ok-keeping-in-Build-clause-between
returns-in_ok-keeping-in-Build-clause-between g c =
    let table = (g.L.Board.Board.id c.args._board.now).lane_table in
    let group = (g.L.Board.Board.id c.args._board.now).group_table in
    let kept : g.row.J.Denot = c.requires.jobs.2.0 in
    let ports_are = kept_taken c.args.self.now.pipelines c.args.recv.now.items c.take_ends-ends.result (kinds_there g recv_kinds_at (at_of c.args.self.now.phase) at.Build c.args.self.now.pipelines c.args.recv.now.items (ap at_of c.in-Build.is) c.requires.recv) c.take_ends-ends.ensures.ends in
    let all_new = of_kept (new_from g table) c.args.recv.now.items c.take_ends-ends.result c.requires.jobs.0 kept c.requires.jobs.2.1 ports_are.0 c.requires.jobs.2.3 c.requires.jobs.3 in
    let fits_there : (kept ≡ c.in-Build.field-0.job.value) × g.J.RowsJob.gives_rows kept c.in-Build.field-0.columns = rw c.in-Build.is at c.requires.jobs.2.5 in
    let holds_kept = All-head (holds g group) kept (c.requires.jobs.2.1 ∷ []) (subst (All (holds g group)) c.requires.jobs.2.3 c.requires.jobs.5) in
    let send = no_port c.args.self.now.pipelines c.args.send.now.items (kinds_there g send_kinds_at (at_of c.args.self.now.phase) at.Build c.args.self.now.pipelines c.args.send.now.items (ap at_of c.in-Build.is) c.requires.send) in
    subst (λ (ports : List (Ends g.row.L-Receiver.Denot)). AreUnitsBetween {R = g.row.L-Receiver.Denot} {S = g.row.L-Sender.Denot} (join_seen g) (unit_between g.L.Receiver.LaneReceiver.lane g.L.Sender.LaneSender.lane table ports c.args.send.now.items) ports c.args.send.now.items c.in_ok-keeping-in-Build.keeping.items) (sym ports_are.0)
    (subst (λ (ports : List (Ends g.row.L-Sender.Denot)). AreUnitsBetween {R = g.row.L-Receiver.Denot} {S = g.row.L-Sender.Denot} (join_seen g) (unit_between g.L.Receiver.LaneReceiver.lane g.L.Sender.LaneSender.lane table (Parallel c.take_ends-ends.result ∷ Absent ∷ []) ports) (Parallel c.take_ends-ends.result ∷ Absent ∷ []) ports c.in_ok-keeping-in-Build.keeping.items) (sym send)
    (kept_between (join_seen g) g.L.Receiver.LaneReceiver.lane g.L.Sender.LaneSender.lane table c.take_ends-ends.result c.in_ok-keeping-in-Build.keeping.items
    (lanes_made _ _ _ _ _ _ _ table c.take_ends-ends.result.items c.in_ok-keeping-in-Build.keeping.items c.in_ok-keeping-in-Build.ensures.made (λ k d lt. (all_new k d lt).0))))

pub returns-in_ok-keeping-in-Build-clause-out : goal.returns-in_ok-keeping-in-Build-clause-out
returns-in_ok-keeping-in-Build-clause-out g c =
    let table = (g.L.Board.Board.id c.args._board.now).lane_table in
    let group = (g.L.Board.Board.id c.args._board.now).group_table in
    let kept : g.row.J.Denot = c.requires.jobs.2.0 in
    let ports_are = kept_taken c.args.self.now.pipelines c.args.recv.now.items c.take_ends-ends.result (kinds_there g recv_kinds_at (at_of c.args.self.now.phase) at.Build c.args.self.now.pipelines c.args.recv.now.items (ap at_of c.in-Build.is) c.requires.recv) c.take_ends-ends.ensures.ends in
    let all_new = of_kept (new_from g table) c.args.recv.now.items c.take_ends-ends.result c.requires.jobs.0 kept c.requires.jobs.2.1 ports_are.0 c.requires.jobs.2.3 c.requires.jobs.3 in
    let fits_there : (kept ≡ c.in-Build.field-0.job.value) × g.J.RowsJob.gives_rows kept c.in-Build.field-0.columns = rw c.in-Build.is at c.requires.jobs.2.5 in
    let holds_kept = All-head (holds g group) kept (c.requires.jobs.2.1 ∷ []) (subst (All (holds g group)) c.requires.jobs.2.3 c.requires.jobs.5) in
    let many = as_many _ c.take_ends-ends.result.items c.in_ok-keeping-in-Build.keeping.items c.in_ok-keeping-in-Build.ensures.made in
    let count : c.unwrap_or-self.result ≡ length c.in_ok-keeping-in-Build.keeping.items = c.unwrap_or-self.ensures ∙ ap (λ (pipelines : Option ℕ). unwrap_or pipelines 0) ports_are.1 ∙ sym many in
    seen_same _ c.args.self.now.pipelines (at_of c.args.self.now.phase) _ _ _ refl count

-- while rows are looked up
pub take_ends-froms-requires : goal.take_ends-froms-requires
take_ends-froms-requires g c =
    let port = asked_ports c.args.self.now.pipelines c.args.recv.now.items (kinds_there g recv_kinds_at (at_of c.args.self.now.phase) at.Probe c.args.self.now.pipelines c.args.recv.now.items (ap at_of c.in-Probe.is) c.requires.recv) in
    record { parallel = (port.0, subst (λ (ports : List (Ends g.row.L-Receiver.Denot)). slice_get ports 1 ≡ Some (Parallel port.0)) (sym port.1) refl) }

pub take_ends-tos-requires : goal.take_ends-tos-requires
take_ends-tos-requires g c =
    let port = sent_ports c.args.self.now.pipelines c.args.send.now.items (kinds_there g send_kinds_at (at_of c.args.self.now.phase) at.Probe c.args.self.now.pipelines c.args.send.now.items (ap at_of c.in-Probe.is) c.requires.send) in
    record { parallel = (port.0, subst (λ (ports : List (Ends g.row.L-Sender.Denot)). slice_get ports 0 ≡ Some (Parallel port.0)) (sym port.1) refl) }

pub paired-requires : goal.paired-requires
paired-requires g c =
    let asked_table = (g.L.Board.Board.id c.args._board.now).lane_table in
    let asked_group = (g.L.Board.Board.id c.args._board.now).group_table in
    let asked : g.row.J.Denot = c.requires.jobs.2.1 in
    let sent : g.row.J.Denot = c.requires.jobs.2.2 in
    let froms_are = asked_taken c.args.self.now.pipelines c.args.recv.now.items c.take_ends-froms.result (kinds_there g recv_kinds_at (at_of c.args.self.now.phase) at.Probe c.args.self.now.pipelines c.args.recv.now.items (ap at_of c.in-Probe.is) c.requires.recv) c.take_ends-froms.ensures.ends in
    let tos_are = sent_taken c.args.self.now.pipelines c.args.send.now.items c.take_ends-tos.result (kinds_there g send_kinds_at (at_of c.args.self.now.phase) at.Probe c.args.self.now.pipelines c.args.send.now.items (ap at_of c.in-Probe.is) c.requires.send) c.take_ends-tos.ensures.ends in
    record { len = as_many_ends c.args.self.now.pipelines (length c.take_ends-froms.result.items) (length c.take_ends-tos.result.items) froms_are.1 tos_are.1 }

module _ (g : Over) where
  abbrev Pair : Type 0
  Pair = g.row.L-Receiver.Denot × g.row.L-Sender.Denot

  -- both ends of each pair are new, and for the jobs
  pairs_new : (table : TableId) (asked sent : g.row.J.Denot) (pairs : List Pair) (froms : List g.row.L-Receiver.Denot) (tos : List g.row.L-Sender.Denot) → map (λ (pair : Pair). pair.0) pairs ≡ froms → map (λ (pair : Pair). pair.1) pairs ≡ tos
      → All (new_from g table asked) froms → All (new_to g table sent) tos → All (λ (pair : Pair). new_from g table asked pair.0 × new_to g table sent pair.1) pairs
  pairs_new table asked sent pairs froms tos firsts seconds of_froms of_tos =
      all_pairs (new_from g table asked) (new_to g table sent) (λ (pair : Pair). new_from g table asked pair.0 × new_to g table sent pair.1) (λ x y p q. (p, q)) pairs
      (subst (All (new_from g table asked)) (sym firsts) of_froms) (subst (All (new_to g table sent)) (sym seconds) of_tos)

pub units_behind-requires-in-Probe : goal.units_behind-requires-in-Probe
units_behind-requires-in-Probe g c =
    let asked_table = (g.L.Board.Board.id c.args._board.now).lane_table in
    let asked_group = (g.L.Board.Board.id c.args._board.now).group_table in
    let asked : g.row.J.Denot = c.requires.jobs.2.1 in
    let sent : g.row.J.Denot = c.requires.jobs.2.2 in
    let froms_are = asked_taken c.args.self.now.pipelines c.args.recv.now.items c.take_ends-froms.result (kinds_there g recv_kinds_at (at_of c.args.self.now.phase) at.Probe c.args.self.now.pipelines c.args.recv.now.items (ap at_of c.in-Probe.is) c.requires.recv) c.take_ends-froms.ensures.ends in
    let tos_are = sent_taken c.args.self.now.pipelines c.args.send.now.items c.take_ends-tos.result (kinds_there g send_kinds_at (at_of c.args.self.now.phase) at.Probe c.args.self.now.pipelines c.args.send.now.items (ap at_of c.in-Probe.is) c.requires.send) c.take_ends-tos.ensures.ends in
    let froms_new = of_asked (new_from g asked_table) c.args.recv.now.items c.take_ends-froms.result c.requires.jobs.0 c.requires.jobs.2.0 asked froms_are.0 c.requires.jobs.2.3 c.requires.jobs.3 in
    let tos_new = of_sent (new_to g asked_table) c.args.send.now.items c.take_ends-tos.result c.requires.jobs.1 sent tos_are.0 c.requires.jobs.2.4 c.requires.jobs.4 in
    let fits_asked : (asked ≡ c.in-Probe.probe.asked_job.value) × g.J.RowsJob.gives_rows asked (arc_value c.in-Probe.probe.build).asked × g.J.RowsJob.finds (kept_side (arc_value c.in-Probe.probe.build)) asked sent = rw c.in-Probe.is at c.requires.jobs.2.5 in
    let holds_asked = All-head (holds g asked_group) asked [] (All-tail (holds g asked_group) c.requires.jobs.2.0 (asked ∷ []) (subst (All (holds g asked_group)) c.requires.jobs.2.3 c.requires.jobs.5)) in
    let fits = fits_asked in
    let built : arc_value c.new-maker.result.build ≡ arc_value c.in-Probe.probe.build = ap arc_value c.new-maker.ensures.build ∙ c.in_ok-build-in-Probe.ensures.same in
    let fits_each : (pair : Pair g) → new_from g asked_table asked pair.0 × new_to g asked_table sent pair.1 → CanLookUp g.L.Receiver.LaneReceiver.home g.L.Receiver.LaneReceiver.job g.L.Receiver.LaneReceiver.taken g.L.Sender.LaneSender.home g.L.Sender.LaneSender.job g.L.Sender.LaneSender.sent (λ one other. g.J.RowsJob.gives_rows one (arc_value c.new-maker.result.build).asked × g.J.RowsJob.finds (kept_side (arc_value c.new-maker.result.build)) one other) pair.0 pair.1 =
    λ pair new.
    record {
      same_home = new.1.1.0 ∙ sym new.0.0;
      joined = (
        subst (λ (job : g.row.J.Denot). g.J.RowsJob.gives_rows job (arc_value c.new-maker.result.build).asked) (sym new.0.1) (rw built fits.1),
        subst (λ (job : g.row.J.Denot). g.J.RowsJob.finds (kept_side (arc_value c.new-maker.result.build)) job (g.L.Sender.LaneSender.job pair.1)) (sym new.0.1) (subst (λ (job : g.row.J.Denot). g.J.RowsJob.finds (kept_side (arc_value c.new-maker.result.build)) asked job) (sym new.1.1.1) (rw built fits.2)),
      );
      none_taken = new.0.2;
      none_sent = new.1.1.3;
    } in
    let built_is : IsBuild (arc_value c.new-maker.result.build) = search rules in
    let some : 0 < c.new-maker.result.rows = search rules in
    let Fits : Pair g → Type 0 = λ pair. IsBuild (arc_value c.new-maker.result.build) × (0 < c.new-maker.result.rows) × CanLookUp g.L.Receiver.LaneReceiver.home g.L.Receiver.LaneReceiver.job g.L.Receiver.LaneReceiver.taken g.L.Sender.LaneSender.home g.L.Sender.LaneSender.job g.L.Sender.LaneSender.sent (λ one other. g.J.RowsJob.gives_rows one (arc_value c.new-maker.result.build).asked × g.J.RowsJob.finds (kept_side (arc_value c.new-maker.result.build)) one other) pair.0 pair.1 in
    record {
      fits = All-weaker (λ (pair : Pair g). new_from g asked_table asked pair.0 × new_to g asked_table sent pair.1) Fits (λ pair new. (built_is, some, fits_each pair new)) c.in_ok-pairs-in-Probe.pairs.items
          (pairs_new g asked_table asked sent c.in_ok-pairs-in-Probe.pairs.items c.take_ends-froms.result.items c.take_ends-tos.result.items c.in_ok-pairs-in-Probe.ensures.firsts c.in_ok-pairs-in-Probe.ensures.seconds froms_new tos_new);
    }

pub returns-in_ok-probing-in-Probe-clause-can_poll : goal.returns-in_ok-probing-in-Probe-clause-can_poll
returns-in_ok-probing-in-Probe-clause-can_poll g c =
    let asked_table = (g.L.Board.Board.id c.args._board.now).lane_table in
    let asked_group = (g.L.Board.Board.id c.args._board.now).group_table in
    let asked : g.row.J.Denot = c.requires.jobs.2.1 in
    let sent : g.row.J.Denot = c.requires.jobs.2.2 in
    let froms_are = asked_taken c.args.self.now.pipelines c.args.recv.now.items c.take_ends-froms.result (kinds_there g recv_kinds_at (at_of c.args.self.now.phase) at.Probe c.args.self.now.pipelines c.args.recv.now.items (ap at_of c.in-Probe.is) c.requires.recv) c.take_ends-froms.ensures.ends in
    let tos_are = sent_taken c.args.self.now.pipelines c.args.send.now.items c.take_ends-tos.result (kinds_there g send_kinds_at (at_of c.args.self.now.phase) at.Probe c.args.self.now.pipelines c.args.send.now.items (ap at_of c.in-Probe.is) c.requires.send) c.take_ends-tos.ensures.ends in
    let froms_new = of_asked (new_from g asked_table) c.args.recv.now.items c.take_ends-froms.result c.requires.jobs.0 c.requires.jobs.2.0 asked froms_are.0 c.requires.jobs.2.3 c.requires.jobs.3 in
    let tos_new = of_sent (new_to g asked_table) c.args.send.now.items c.take_ends-tos.result c.requires.jobs.1 sent tos_are.0 c.requires.jobs.2.4 c.requires.jobs.4 in
    let fits_asked : (asked ≡ c.in-Probe.probe.asked_job.value) × g.J.RowsJob.gives_rows asked (arc_value c.in-Probe.probe.build).asked × g.J.RowsJob.finds (kept_side (arc_value c.in-Probe.probe.build)) asked sent = rw c.in-Probe.is at c.requires.jobs.2.5 in
    let holds_asked = All-head (holds g asked_group) asked [] (All-tail (holds g asked_group) c.requires.jobs.2.0 (asked ∷ []) (subst (All (holds g asked_group)) c.requires.jobs.2.3 c.requires.jobs.5)) in
    all_polled _ _ _ _ _ _ _ (g.L.Board.Board.id c.args._board.now) c.in_ok-pairs-in-Probe.pairs.items c.in_ok-probing-in-Probe.probing.items c.in_ok-probing-in-Probe.ensures.made
    (λ k d lt.
    let new = pairs_new g asked_table asked sent c.in_ok-pairs-in-Probe.pairs.items c.take_ends-froms.result.items c.take_ends-tos.result.items c.in_ok-pairs-in-Probe.ensures.firsts c.in_ok-pairs-in-Probe.ensures.seconds froms_new tos_new k d lt in
    (new.0.0, subst (holds g asked_group) (sym new.0.1) holds_asked))

pub returns-in_ok-probing-in-Probe-clause-are_units : goal.returns-in_ok-probing-in-Probe-clause-are_units
returns-in_ok-probing-in-Probe-clause-are_units g c =
    let asked_table = (g.L.Board.Board.id c.args._board.now).lane_table in
    let asked_group = (g.L.Board.Board.id c.args._board.now).group_table in
    let asked : g.row.J.Denot = c.requires.jobs.2.1 in
    let sent : g.row.J.Denot = c.requires.jobs.2.2 in
    let froms_are = asked_taken c.args.self.now.pipelines c.args.recv.now.items c.take_ends-froms.result (kinds_there g recv_kinds_at (at_of c.args.self.now.phase) at.Probe c.args.self.now.pipelines c.args.recv.now.items (ap at_of c.in-Probe.is) c.requires.recv) c.take_ends-froms.ensures.ends in
    let tos_are = sent_taken c.args.self.now.pipelines c.args.send.now.items c.take_ends-tos.result (kinds_there g send_kinds_at (at_of c.args.self.now.phase) at.Probe c.args.self.now.pipelines c.args.send.now.items (ap at_of c.in-Probe.is) c.requires.send) c.take_ends-tos.ensures.ends in
    let froms_new = of_asked (new_from g asked_table) c.args.recv.now.items c.take_ends-froms.result c.requires.jobs.0 c.requires.jobs.2.0 asked froms_are.0 c.requires.jobs.2.3 c.requires.jobs.3 in
    let tos_new = of_sent (new_to g asked_table) c.args.send.now.items c.take_ends-tos.result c.requires.jobs.1 sent tos_are.0 c.requires.jobs.2.4 c.requires.jobs.4 in
    let fits_asked : (asked ≡ c.in-Probe.probe.asked_job.value) × g.J.RowsJob.gives_rows asked (arc_value c.in-Probe.probe.build).asked × g.J.RowsJob.finds (kept_side (arc_value c.in-Probe.probe.build)) asked sent = rw c.in-Probe.is at c.requires.jobs.2.5 in
    let holds_asked = All-head (holds g asked_group) asked [] (All-tail (holds g asked_group) c.requires.jobs.2.0 (asked ∷ []) (subst (All (holds g asked_group)) c.requires.jobs.2.3 c.requires.jobs.5)) in
    let built : arc_value c.new-maker.result.build ≡ arc_value c.in-Probe.probe.build = ap arc_value c.new-maker.ensures.build ∙ c.in_ok-build-in-Probe.ensures.same in
    let phase = c.args.self.now.phase in
    all_made _ _ _ _ _ _ _ (λ pair. g.L.Receiver.LaneReceiver.job pair.0 ≡ asked) (is_there g (at_of phase) (kept_job_of phase) (asked_job_of phase) (build_of phase))
    (λ pair unit of is. there g (at_of phase) at.Probe (kept_job_of phase) (asked_job_of phase) (build_of phase) (λ task. ⊥) (λ task. (arc_value task.maker.build ≡ arc_value c.new-maker.result.build) × (g.L.Receiver.LaneReceiver.job task.from ≡ g.L.Receiver.LaneReceiver.job pair.0)) (λ task. ⊥) (ap at_of c.in-Probe.is)
    (λ task no. absurd no) (λ task same. (ap build_of c.in-Probe.is ∙ ap Some (sym built ∙ sym same.0), ap asked_job_of c.in-Probe.is ∙ ap Some (sym fits_asked.0 ∙ sym of ∙ sym same.1))) (λ task no. absurd no) unit is)
    c.in_ok-pairs-in-Probe.pairs.items c.in_ok-probing-in-Probe.probing.items c.in_ok-probing-in-Probe.ensures.made
    (λ k d lt. (pairs_new g asked_table asked sent c.in_ok-pairs-in-Probe.pairs.items c.take_ends-froms.result.items c.take_ends-tos.result.items c.in_ok-pairs-in-Probe.ensures.firsts c.in_ok-pairs-in-Probe.ensures.seconds froms_new tos_new k d lt).0.1)

pub returns-in_ok-probing-in-Probe-clause-between : goal.returns-in_ok-probing-in-Probe-clause-between
returns-in_ok-probing-in-Probe-clause-between g c =
    let asked_table = (g.L.Board.Board.id c.args._board.now).lane_table in
    let asked_group = (g.L.Board.Board.id c.args._board.now).group_table in
    let asked : g.row.J.Denot = c.requires.jobs.2.1 in
    let sent : g.row.J.Denot = c.requires.jobs.2.2 in
    let froms_are = asked_taken c.args.self.now.pipelines c.args.recv.now.items c.take_ends-froms.result (kinds_there g recv_kinds_at (at_of c.args.self.now.phase) at.Probe c.args.self.now.pipelines c.args.recv.now.items (ap at_of c.in-Probe.is) c.requires.recv) c.take_ends-froms.ensures.ends in
    let tos_are = sent_taken c.args.self.now.pipelines c.args.send.now.items c.take_ends-tos.result (kinds_there g send_kinds_at (at_of c.args.self.now.phase) at.Probe c.args.self.now.pipelines c.args.send.now.items (ap at_of c.in-Probe.is) c.requires.send) c.take_ends-tos.ensures.ends in
    let froms_new = of_asked (new_from g asked_table) c.args.recv.now.items c.take_ends-froms.result c.requires.jobs.0 c.requires.jobs.2.0 asked froms_are.0 c.requires.jobs.2.3 c.requires.jobs.3 in
    let tos_new = of_sent (new_to g asked_table) c.args.send.now.items c.take_ends-tos.result c.requires.jobs.1 sent tos_are.0 c.requires.jobs.2.4 c.requires.jobs.4 in
    let fits_asked : (asked ≡ c.in-Probe.probe.asked_job.value) × g.J.RowsJob.gives_rows asked (arc_value c.in-Probe.probe.build).asked × g.J.RowsJob.finds (kept_side (arc_value c.in-Probe.probe.build)) asked sent = rw c.in-Probe.is at c.requires.jobs.2.5 in
    let holds_asked = All-head (holds g asked_group) asked [] (All-tail (holds g asked_group) c.requires.jobs.2.0 (asked ∷ []) (subst (All (holds g asked_group)) c.requires.jobs.2.3 c.requires.jobs.5)) in
    subst (λ (ports : List (Ends g.row.L-Receiver.Denot)). AreUnitsBetween {R = g.row.L-Receiver.Denot} {S = g.row.L-Sender.Denot} (join_seen g) (unit_between g.L.Receiver.LaneReceiver.lane g.L.Sender.LaneSender.lane asked_table ports c.args.send.now.items) ports c.args.send.now.items c.in_ok-probing-in-Probe.probing.items) (sym froms_are.0)
    (subst (λ (ports : List (Ends g.row.L-Sender.Denot)). AreUnitsBetween {R = g.row.L-Receiver.Denot} {S = g.row.L-Sender.Denot} (join_seen g) (unit_between g.L.Receiver.LaneReceiver.lane g.L.Sender.LaneSender.lane asked_table (Absent ∷ Parallel c.take_ends-froms.result ∷ []) ports) (Absent ∷ Parallel c.take_ends-froms.result ∷ []) ports c.in_ok-probing-in-Probe.probing.items) (sym tos_are.0)
    (asked_between (join_seen g) g.L.Receiver.LaneReceiver.lane g.L.Sender.LaneSender.lane asked_table c.take_ends-froms.result c.take_ends-tos.result c.in_ok-pairs-in-Probe.pairs.items c.in_ok-probing-in-Probe.probing.items c.in_ok-pairs-in-Probe.ensures.firsts c.in_ok-pairs-in-Probe.ensures.seconds
    (lanes_made _ _ _ _ _ _ _ asked_table c.in_ok-pairs-in-Probe.pairs.items c.in_ok-probing-in-Probe.probing.items c.in_ok-probing-in-Probe.ensures.made
    (λ k d lt. (pairs_new g asked_table asked sent c.in_ok-pairs-in-Probe.pairs.items c.take_ends-froms.result.items c.take_ends-tos.result.items c.in_ok-pairs-in-Probe.ensures.firsts c.in_ok-pairs-in-Probe.ensures.seconds froms_new tos_new k d lt).0.0))))

pub returns-in_ok-probing-in-Probe-clause-out : goal.returns-in_ok-probing-in-Probe-clause-out
returns-in_ok-probing-in-Probe-clause-out g c =
    let asked_table = (g.L.Board.Board.id c.args._board.now).lane_table in
    let asked_group = (g.L.Board.Board.id c.args._board.now).group_table in
    let asked : g.row.J.Denot = c.requires.jobs.2.1 in
    let sent : g.row.J.Denot = c.requires.jobs.2.2 in
    let froms_are = asked_taken c.args.self.now.pipelines c.args.recv.now.items c.take_ends-froms.result (kinds_there g recv_kinds_at (at_of c.args.self.now.phase) at.Probe c.args.self.now.pipelines c.args.recv.now.items (ap at_of c.in-Probe.is) c.requires.recv) c.take_ends-froms.ensures.ends in
    let tos_are = sent_taken c.args.self.now.pipelines c.args.send.now.items c.take_ends-tos.result (kinds_there g send_kinds_at (at_of c.args.self.now.phase) at.Probe c.args.self.now.pipelines c.args.send.now.items (ap at_of c.in-Probe.is) c.requires.send) c.take_ends-tos.ensures.ends in
    let froms_new = of_asked (new_from g asked_table) c.args.recv.now.items c.take_ends-froms.result c.requires.jobs.0 c.requires.jobs.2.0 asked froms_are.0 c.requires.jobs.2.3 c.requires.jobs.3 in
    let tos_new = of_sent (new_to g asked_table) c.args.send.now.items c.take_ends-tos.result c.requires.jobs.1 sent tos_are.0 c.requires.jobs.2.4 c.requires.jobs.4 in
    let fits_asked : (asked ≡ c.in-Probe.probe.asked_job.value) × g.J.RowsJob.gives_rows asked (arc_value c.in-Probe.probe.build).asked × g.J.RowsJob.finds (kept_side (arc_value c.in-Probe.probe.build)) asked sent = rw c.in-Probe.is at c.requires.jobs.2.5 in
    let holds_asked = All-head (holds g asked_group) asked [] (All-tail (holds g asked_group) c.requires.jobs.2.0 (asked ∷ []) (subst (All (holds g asked_group)) c.requires.jobs.2.3 c.requires.jobs.5)) in
    let many = as_many _ c.in_ok-pairs-in-Probe.pairs.items c.in_ok-probing-in-Probe.probing.items c.in_ok-probing-in-Probe.ensures.made ∙ sym (length-map c.in_ok-pairs-in-Probe.pairs.items (λ (pair : Pair g). pair.0)) ∙ ap length c.in_ok-pairs-in-Probe.ensures.firsts in
    let count : c.unwrap_or-self-in-Probe.result ≡ length c.in_ok-probing-in-Probe.probing.items = c.unwrap_or-self-in-Probe.ensures ∙ ap (λ (pipelines : Option ℕ). unwrap_or pipelines 0) froms_are.1 ∙ sym many in
    seen_same _ c.args.self.now.pipelines (at_of c.args.self.now.phase) _ _ _ refl count

-- once all rows were looked up
pub take_end-to-requires : goal.take_end-to-requires
take_end-to-requires g c =
    let port = one_port c.args.self.now.pipelines c.args.send.now.items (kinds_there g send_kinds_at (at_of c.args.self.now.phase) at.Emit c.args.self.now.pipelines c.args.send.now.items (ap at_of c.in-Emit.is) c.requires.send) in
    record { serial = (port.0, subst (λ (ports : List (Ends g.row.L-Sender.Denot)). slice_get ports 0 ≡ Some (Serial port.0)) (sym port.1) refl) }

pub giving_unit-requires : goal.giving_unit-requires
giving_unit-requires g c =
    let given_table = (g.L.Board.Board.id c.args._board.now).lane_table in
    let alone : g.row.J.Denot = c.requires.jobs.2.2 in
    let to_is = one_taken c.args.self.now.pipelines c.args.send.now.items c.take_end-to.result (kinds_there g send_kinds_at (at_of c.args.self.now.phase) at.Emit c.args.self.now.pipelines c.args.send.now.items (ap at_of c.in-Emit.is) c.requires.send) c.take_end-to.ensures.end in
    let none_are = no_ports c.args.self.now.pipelines c.args.recv.now.items (kinds_there g recv_kinds_at (at_of c.args.self.now.phase) at.Emit c.args.self.now.pipelines c.args.recv.now.items (ap at_of c.in-Emit.is) c.requires.recv) in
    let to_new = of_one (new_to g given_table) c.args.send.now.items c.take_end-to.result c.requires.jobs.1 alone to_is c.requires.jobs.2.4 c.requires.jobs.4 in
    let to_home = All-cons (λ (to : g.row.L-Sender.Denot). g.L.Sender.LaneSender.home to ≡ given_table) c.take_end-to.result [] to_new.1.0 (All-nil (λ (to : g.row.L-Sender.Denot). g.L.Sender.LaneSender.home to ≡ given_table)) in
    record {
      gives_for = subst (λ (job : g.row.J.Denot). GivesAloneFor g.J.RowsJob.is_all g.J.RowsJob.is_alone job c.in_ok-giver-in-Emit.giver) (sym to_new.1.1) (c.in_ok-giver-in-Emit.ensures.gives_for c.requires.jobs.2.0 c.requires.jobs.2.1 alone c.requires.jobs.2.5);
      none = (to_new.1.3, c.in_ok-giver-in-Emit.ensures.none);
    }

pub returns-in_ok-push-in-Emit-clause-can_poll : goal.returns-in_ok-push-in-Emit-clause-can_poll
returns-in_ok-push-in-Emit-clause-can_poll g c =
    let given_table = (g.L.Board.Board.id c.args._board.now).lane_table in
    let alone : g.row.J.Denot = c.requires.jobs.2.2 in
    let to_is = one_taken c.args.self.now.pipelines c.args.send.now.items c.take_end-to.result (kinds_there g send_kinds_at (at_of c.args.self.now.phase) at.Emit c.args.self.now.pipelines c.args.send.now.items (ap at_of c.in-Emit.is) c.requires.send) c.take_end-to.ensures.end in
    let to_new = of_one (new_to g given_table) c.args.send.now.items c.take_end-to.result c.requires.jobs.1 alone to_is c.requires.jobs.2.4 c.requires.jobs.4 in
    let unit : Unit g = c.in_ok-giving-in-Emit.giving in
    let pushed : c.push.new.self.items ≡ c.in_ok-giving-in-Emit.giving ∷ [] = search rules in
    let made = c.in_ok-giving-in-Emit.ensures.made in
    alone_polled _ _ _ _ _ _ _ (g.L.Board.Board.id c.args._board.now) unit c.push.new.self.items made pushed to_new.1.0 tt

pub returns-in_ok-push-in-Emit-clause-are_units : goal.returns-in_ok-push-in-Emit-clause-are_units
returns-in_ok-push-in-Emit-clause-are_units g c =
    let given_table = (g.L.Board.Board.id c.args._board.now).lane_table in
    let alone : g.row.J.Denot = c.requires.jobs.2.2 in
    let to_is = one_taken c.args.self.now.pipelines c.args.send.now.items c.take_end-to.result (kinds_there g send_kinds_at (at_of c.args.self.now.phase) at.Emit c.args.self.now.pipelines c.args.send.now.items (ap at_of c.in-Emit.is) c.requires.send) c.take_end-to.ensures.end in
    let to_new = of_one (new_to g given_table) c.args.send.now.items c.take_end-to.result c.requires.jobs.1 alone to_is c.requires.jobs.2.4 c.requires.jobs.4 in
    let unit : Unit g = c.in_ok-giving-in-Emit.giving in
    let pushed : c.push.new.self.items ≡ c.in_ok-giving-in-Emit.giving ∷ [] = search rules in
    let made = c.in_ok-giving-in-Emit.ensures.made in
    let phase = c.take_giver.new.self in
    let same = c.in_ok-giver-in-Emit.ensures.same in
    let P : Unit g → Type 0 = is_there g (at_of phase) (kept_job_of phase) (asked_job_of phase) (build_of phase) in
    let is : P unit = there g (at_of phase) at.Emit (kept_job_of phase) (asked_job_of phase) (build_of phase) (λ task. ⊥) (λ task. ⊥) (λ task. arc_value task.giver.lone.build ≡ arc_value c.in_ok-giver-in-Emit.giver.lone.build) (same.0 ∙ ap at_of c.in-Emit.is)
    (λ task no. absurd no) (λ task no. absurd no) (λ task is_build. same.1 ∙ c.in_ok-giver-in-Emit.ensures.build ∙ ap Some (sym is_build)) unit made.made in
    subst (All P) (sym pushed) (All-cons P unit [] is (All-nil P))

pub returns-in_ok-push-in-Emit-clause-between : goal.returns-in_ok-push-in-Emit-clause-between
returns-in_ok-push-in-Emit-clause-between g c =
    let given_table = (g.L.Board.Board.id c.args._board.now).lane_table in
    let alone : g.row.J.Denot = c.requires.jobs.2.2 in
    let to_is = one_taken c.args.self.now.pipelines c.args.send.now.items c.take_end-to.result (kinds_there g send_kinds_at (at_of c.args.self.now.phase) at.Emit c.args.self.now.pipelines c.args.send.now.items (ap at_of c.in-Emit.is) c.requires.send) c.take_end-to.ensures.end in
    let to_new = of_one (new_to g given_table) c.args.send.now.items c.take_end-to.result c.requires.jobs.1 alone to_is c.requires.jobs.2.4 c.requires.jobs.4 in
    let unit : Unit g = c.in_ok-giving-in-Emit.giving in
    let pushed : c.push.new.self.items ≡ c.in_ok-giving-in-Emit.giving ∷ [] = search rules in
    let made = c.in_ok-giving-in-Emit.ensures.made in
    let none_are = no_ports c.args.self.now.pipelines c.args.recv.now.items (kinds_there g recv_kinds_at (at_of c.args.self.now.phase) at.Emit c.args.self.now.pipelines c.args.recv.now.items (ap at_of c.in-Emit.is) c.requires.recv) in
    let HasSent : g.row.L-Sender.Denot → Unit g → Type 0 = λ sender unit. join_seen g unit ≡ record { home = given_table; from = []; to = g.L.Sender.LaneSender.lane sender ∷ [] } in
    let lanes : HasSent c.take_end-to.result unit = made.lanes ∙ ap (λ (table : TableId). seen_of table [] (g.L.Sender.LaneSender.lane c.take_end-to.result ∷ [])) to_new.1.0 in
    subst (λ (ports : List (Ends g.row.L-Receiver.Denot)). AreUnitsBetween {R = g.row.L-Receiver.Denot} {S = g.row.L-Sender.Denot} (join_seen g) (unit_between g.L.Receiver.LaneReceiver.lane g.L.Sender.LaneSender.lane given_table ports c.args.send.now.items) ports c.args.send.now.items c.push.new.self.items) (sym none_are)
    (subst (λ (ports : List (Ends g.row.L-Sender.Denot)). AreUnitsBetween {R = g.row.L-Receiver.Denot} {S = g.row.L-Sender.Denot} (join_seen g) (unit_between g.L.Receiver.LaneReceiver.lane g.L.Sender.LaneSender.lane given_table (Absent ∷ Absent ∷ []) ports) (Absent ∷ Absent ∷ []) ports c.push.new.self.items) (sym to_is)
    (given_between (join_seen g) g.L.Receiver.LaneReceiver.lane g.L.Sender.LaneSender.lane given_table c.take_end-to.result c.push.new.self.items (one_made HasSent c.take_end-to.result unit c.push.new.self.items pushed lanes)))

pub returns-in_ok-push-in-Emit-clause-stays : goal.returns-in_ok-push-in-Emit-clause-stays
returns-in_ok-push-in-Emit-clause-stays g c begun stays = (stays.0, stays_more begun.phase c.args.self.now.phase _ stays.1 c.in_ok-giver-in-Emit.ensures.stays)

pub returns-in_err-push-in-Emit-clause-stays : goal.returns-in_err-push-in-Emit-clause-stays
returns-in_err-push-in-Emit-clause-stays g c begun stays = (stays.0, stays_more begun.phase c.args.self.now.phase _ stays.1 c.in_ok-giver-in-Emit.ensures.stays)

-- where there is no memory for what gives them, or for its unit
pub returns-in_err-giver-in-Emit-clause-work : goal.returns-in_err-giver-in-Emit-clause-work
returns-in_err-giver-in-Emit-clause-work g c taken sent makes = makes_done (at_of c.args.self.now.phase) _ taken sent (ap at_of c.in-Emit.is) c.in_err-giver-in-Emit.ensures.stays.at makes

pub returns-in_err-giver-in-Emit-clause-stays : goal.returns-in_err-giver-in-Emit-clause-stays
returns-in_err-giver-in-Emit-clause-stays g c begun stays = (stays.0, stays_more begun.phase c.args.self.now.phase _ stays.1 c.in_err-giver-in-Emit.ensures.stays)

pub returns-in_err-giving-in-Emit-clause-work : goal.returns-in_err-giving-in-Emit-clause-work
returns-in_err-giving-in-Emit-clause-work g c taken sent makes = subst (λ (place : JoinAt). MakesAt place taken sent) c.in_ok-giver-in-Emit.ensures.same.0 makes

pub returns-in_err-giving-in-Emit-clause-stays : goal.returns-in_err-giving-in-Emit-clause-stays
returns-in_err-giving-in-Emit-clause-stays g c begun stays = (stays.0, stays_more begun.phase c.args.self.now.phase _ stays.1 c.in_ok-giver-in-Emit.ensures.stays)

-- nothing is left to do
pub returns-in-Done-clause-between : goal.returns-in-Done-clause-between
returns-in-Done-clause-between g c =
    let recv = no_ports c.args.self.now.pipelines c.args.recv.now.items (kinds_there g recv_kinds_at (at_of c.args.self.now.phase) at.Done c.args.self.now.pipelines c.args.recv.now.items (ap at_of c.in-Done.is) c.requires.recv) in
    let send = no_port c.args.self.now.pipelines c.args.send.now.items (kinds_there g send_kinds_at (at_of c.args.self.now.phase) at.Done c.args.self.now.pipelines c.args.send.now.items (ap at_of c.in-Done.is) c.requires.send) in
    let table = (g.L.Board.Board.id c.args._board.now).lane_table in
    subst (λ (ports : List (Ends g.row.L-Receiver.Denot)). AreUnitsBetween {R = g.row.L-Receiver.Denot} {S = g.row.L-Sender.Denot} (join_seen g) (unit_between g.L.Receiver.LaneReceiver.lane g.L.Sender.LaneSender.lane table ports c.args.send.now.items) ports c.args.send.now.items c.new-in-Done.result.items) (sym recv)
    (subst (λ (ports : List (Ends g.row.L-Sender.Denot)). AreUnitsBetween {R = g.row.L-Receiver.Denot} {S = g.row.L-Sender.Denot} (join_seen g) (unit_between g.L.Receiver.LaneReceiver.lane g.L.Sender.LaneSender.lane table (Absent ∷ Absent ∷ []) ports) (Absent ∷ Absent ∷ []) ports c.new-in-Done.result.items) (sym send)
    (subst (λ (units : List (Unit g)). AreUnitsBetween {R = g.row.L-Receiver.Denot} {S = g.row.L-Sender.Denot} (join_seen g) (unit_between g.L.Receiver.LaneReceiver.lane g.L.Sender.LaneSender.lane table (Absent ∷ Absent ∷ []) (Absent ∷ [])) (Absent ∷ Absent ∷ []) (Absent ∷ []) units) (sym c.new-in-Done.ensures.items)
    (none_between (join_seen g) g.L.Receiver.LaneReceiver.lane g.L.Sender.LaneSender.lane table)))
