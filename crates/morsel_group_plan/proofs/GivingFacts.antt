-- A group-by once no more rows come.
use Rattle.std.proofs.Common.{◌≡◌, ◌⊎◌, inl, inr, ◌∷◌, [], Bool, false, ℕ, ◌+◌, ◌*◌, ◌≤◌, List, Some, Result, Err, IfErr, map, length, refl, sym, ap, subst, ◌∙◌, arith}
use Rattle.morsel_meaning.specs.declared.fault.Fault.{Fault}
use Rattle.morsel_meaning.specs.declared.fault.Fault.TheVariants as faults
use Rattle.morsel_meaning.specs.declared.value.Field.{Field}
use Rattle.morsel_meaning.specs.Values.{Row, Table}
use Rattle.morsel_outside.specs.Outside.{Outside}
use Rattle.morsel_ports.specs.declared.node.PortState.{PortState}
use Rattle.morsel_ports.specs.declared.node.PortState.TheVariants as states
use Rattle.morsel_load.specs.declared.load.LoadKind.TheVariants.{Morsels}
use Rattle.morsel_group.specs.Grouping.{Grouped}
use Rattle.morsel_group.specs.GroupCauses.{FitsGroups, GroupCause}
use Rattle.morsel_group_units.specs.GroupAsks.{GroupRulesSeen, rules_output, rules_shape}
use Rattle.morsel_group_phases.specs.declared.places.GroupAt.{GroupAt}
use Rattle.morsel_group_phases.specs.declared.places.GroupAt.TheVariants as at
use Rattle.morsel_group_phases.specs.declared.phase.GroupPhase.{GroupPhase}
use Rattle.morsel_group_phases.specs.declared.phase.GroupPhase.TheVariants as phases
use Rattle.morsel_group_phases.specs.declared.source_phase.SourcePhase.{SourcePhase}
use Rattle.morsel_group_phases.specs.LaneEnds.{lane_ended}
use Rattle.morsel_group_phases.specs.GroupTables.{MovesGroupAt, group_moved}
use Rattle.morsel_group_phases.specs.GroupPhases.{FitsGroup, GivesGroupsOf, IsFaultOfGroups, KeepsGroup, MovesGroup, ends_of_group, frame_of_group, group_at, group_rules, has_given_groups}
use Rattle.morsel_line.specs.RowStages.{GivenRows, StageSeen}
use Rattle.morsel_scan_units.specs.LaneJobs.{LaneFor}
use Rattle.morsel_scan_units.specs.LaneRows.{CarriesCuts, IsGivenLane, PlacesYield}
use Rattle.morsel_emit_run.specs.EmitRuns.{SweepsPlace, WritesPlace, WritesPlaceOrNot}
use Rattle.morsel_join_plan.specs.JoinRuns.{JoinScan}
use Rattle.morsel_join_plan.proofs.PhaseFacts.{some_same}
use Rattle.morsel_group_plan.specs.GroupRuns.{IsLastFault}
use Rattle.morsel_group_plan.specs.GroupLanes.{AreRowsTo, GivesGroups, GivesStage, HasCauseTo, SweepsGiving, TakesTo}

none_given : {K J : Type 0} {a b : _} (phase : GroupPhase K J a b) → group_at phase ≡ at.Sink → has_given_groups phase ≡ false
none_given (phases.Sink sink) is = refl
none_given (phases.Source source) is = absurd cc
none_given (phases.Giving frame) is = absurd cc
none_given (phases.Given frame) is = absurd cc
none_given phases.Done is = absurd cc

one_state : (x y : PortState) → x ∷ [] ≡ y ∷ [] → x ≡ y
one_state x y is = cc

-- where no more rows come it gives its own
pub moves_on : {K J : Type 0} {a b : _} (before now : GroupPhase K J a b) (recv_now send_now : List PortState) → group_at before ≡ at.Sink
    → MovesGroup before (states.Done ∷ []) (states.Ready ∷ []) now recv_now send_now → group_at now ≡ at.Source
moves_on before now recv_now send_now is moves =
    let told = moves.moves.told in
    moves.moves.moved
    ∙ ap (λ (state : PortState). group_moved (has_given_groups before) state told.sent (group_at before)) (sym (one_state _ _ moves.moves.recv_is))
    ∙ ap (λ (state : PortState). group_moved (has_given_groups before) states.Done state (group_at before)) (sym (one_state _ _ moves.moves.send_is))
    ∙ ap (λ (place : GroupAt). group_moved (has_given_groups before) states.Done states.Ready place) is
    ∙ ap (λ (given : Bool). group_moved given states.Done states.Ready at.Sink) (none_given before is)

-- a fault of a group-by is one of all rows of its lanes
pub has_cause : {K : Type 0} {a b : _} (phase : GroupPhase K LaneFor a b) (fault : Fault) → IsFaultOfGroups PlacesYield phase fault → (group : GroupRulesSeen) (ends : List (LaneFor × ℕ)) → TakesTo phase group ends → HasCauseTo group ends fault
has_cause (phases.Sink sink) fault (rows, are, cause) group ends takes = record {
  rows = rows;
  are = subst (λ (lanes : List (LaneFor × ℕ)). AreRowsTo lanes rows) (some_same _ _ takes.ends_are) are;
  cause = subst (λ (asked : GroupRulesSeen). GroupCause (rules_shape asked) rows fault) (some_same _ _ takes.rules_are) cause;
}
has_cause (phases.Source source) fault is group ends takes = absurd is
has_cause (phases.Giving frame) fault is group ends takes = absurd is
has_cause (phases.Given frame) fault is group ends takes = absurd is
has_cause phases.Done fault is group ends takes = absurd is

-- what a group-by gives is that of all rows of its lanes
pub gives_stage : {K : Type 0} {a b : _} (before now : GroupPhase K LaneFor a b) (source : SourcePhase K LaneFor a b) (frame : Table) (stage : StageSeen) → now ≡ phases.Source source → KeepsGroup before now
    → ((rules : GroupRulesSeen) → group_rules now ≡ Some rules → GivesGroupsOf PlacesYield now rules frame) → stage ≡ GivenRows frame.schema frame.rows → (group : GroupRulesSeen) (ends : List (LaneFor × ℕ)) → TakesTo before group ends → GivesStage group ends stage
gives_stage before now source frame stage is keeps gives stage_is group ends takes =
    let rules_is : group_rules now ≡ Some source.grouped.rules = ap group_rules is in
    let ends_are : ends_of_group now ≡ Some (map lane_ended source.ends.items) = ap ends_of_group is in
    let same : source.grouped.rules ≡ group = some_same _ _ (sym (keeps.rules _ rules_is) ∙ takes.rules_are) in
    let same_ends : map lane_ended source.ends.items ≡ ends = some_same _ _ (sym (keeps.ends _ ends_are) ∙ takes.ends_are) in
    let given = gives source.grouped.rules rules_is in record {
      rows = given.rows;
      are = subst (λ (lanes : List (LaneFor × ℕ)). AreRowsTo lanes given.rows) same_ends (given.took _ ends_are);
      groups = frame.rows;
      grouped = subst (λ (asked : GroupRulesSeen). Grouped (rules_shape asked) given.rows frame.rows) same given.grouped;
      fits = subst (λ (asked : GroupRulesSeen). FitsGroups (rules_shape asked) given.rows) same given.fits;
      few = given.few;
      stage_is = stage_is ∙ ap (λ (columns : List Field). GivenRows columns frame.rows) (given.columns ∙ ap rules_output same);
    }

-- a lane of these rows is one that it may have
pub fits_rows : {K : Type 0} {a b : _} (phase : GroupPhase K LaneFor a b) (source : SourcePhase K LaneFor a b) (frame : Table) (job rows kept : LaneFor) → phase ≡ phases.Source source → frame_of_group phase ≡ Some frame → rows.kind ≡ Morsels
    → kept ≡ record rows { stage = GivenRows frame.schema frame.rows } → FitsGroup CarriesCuts IsGivenLane phase job kept
fits_rows phase source frame job rows kept is has kind kept_is =
    let same : source.grouped.frame ≡ frame = some_same _ _ (sym (ap frame_of_group is) ∙ has) in
    subst (λ (p : GroupPhase _ LaneFor _ _). FitsGroup CarriesCuts IsGivenLane p job kept) (sym is)
    (subst (λ (table : Table). IsGivenLane table.schema table.rows kept) (sym same) (ap (λ (lane : LaneFor). lane.kind) kept_is ∙ kind, ap (λ (lane : LaneFor). lane.stage) kept_is))

-- where it had a fault, memory may be what was out
pub memory_out : (scan : JoinScan) (stage : StageSeen) (opened before : Outside) (fault : Fault) (after : Outside) → WritesPlaceOrNot scan.scan scan.reader opened stage before (Err fault) after → WritesPlaceOrNot scan.scan scan.reader opened stage before (Err faults.OutOfMemory) after
memory_out scan stage opened before fault after (inl left) = inl (refl, left.1)
memory_out scan stage opened before fault after (inr w) = inr (record {
  actions = w.actions;
  does = w.does;
  each = w.each;
  stops = inr tt;
  fine = tt;
  told = λ files has. (let told = w.told files has in record { answers = tt; due = tt; rest = told.rest; front = told.front });
})

-- its rows were written, or memory ran out before that
pub wrote : (scan : JoinScan) (group : GroupRulesSeen) (ends : List (LaneFor × ℕ)) (opened before : Outside) (result : Result ℕ Fault) (after : Outside) (stage : StageSeen) → (gives : GivesStage group ends stage) → IfErr result IsLastFault
    → WritesPlaceOrNot scan.scan scan.reader opened (GivenRows (rules_output group) gives.groups) before result after → GivesGroups scan group ends opened before result after
wrote scan group ends opened before result after stage gives last (inl left) = inl left
wrote scan group ends opened before result after stage gives last (inr writes) = inr (inr (gives.rows, gives.groups, gives.are, gives.grouped, gives.fits, gives.few, writes, last))

-- the same, where any fault but that of a write was taken for want of memory
pub wrote_last : (scan : JoinScan) (group : GroupRulesSeen) (ends : List (LaneFor × ℕ)) (opened before : Outside) (written result : Result ℕ Fault) (after : Outside) (stage : StageSeen) → (gives : GivesStage group ends stage) → IfErr result IsLastFault
    → (result ≡ written) ⊎ ((fault : Fault) × (written ≡ Err fault) × (result ≡ Err faults.OutOfMemory)) → WritesPlaceOrNot scan.scan scan.reader opened (GivenRows (rules_output group) gives.groups) before written after → GivesGroups scan group ends opened before result after
wrote_last scan group ends opened before written result after stage gives last (inl same) writes =
    wrote scan group ends opened before result after stage gives last (subst (λ (out : Result ℕ Fault). WritesPlaceOrNot scan.scan scan.reader opened (GivenRows (rules_output group) gives.groups) before out after) (sym same) writes)
wrote_last scan group ends opened before written result after stage gives last (inr (fault, failed, is)) writes =
    wrote scan group ends opened before result after stage gives last (subst (λ (out : Result ℕ Fault). WritesPlaceOrNot scan.scan scan.reader opened (GivenRows (rules_output group) gives.groups) before out after) (sym is)
    (memory_out scan (GivenRows (rules_output group) gives.groups) opened before fault after (subst (λ (out : Result ℕ Fault). WritesPlaceOrNot scan.scan scan.reader opened (GivenRows (rules_output group) gives.groups) before out after) failed writes)))

-- no rows were given, as memory ran out or as there are none
pub refused : (scan : JoinScan) (group : GroupRulesSeen) (ends : List (LaneFor × ℕ)) (opened before : Outside) (fault : Fault) → (fault ≡ faults.OutOfMemory) ⊎ HasCauseTo group ends fault → GivesGroups scan group ends opened before (Err fault) before
refused scan group ends opened before fault (inl is) = inl (ap Err is, refl)
refused scan group ends opened before fault (inr cause) = inr (inl (fault, refl, refl, cause))

pub unswept : (scan : JoinScan) (ends : List (LaneFor × ℕ)) (opened : Outside) (steps : ℕ) → SweepsGiving scan ends opened steps steps
unswept scan ends opened steps = record { groups = 0; few = omega arith; small = omega arith; within = λ files had. inl refl }

pub swept : (scan : JoinScan) (group : GroupRulesSeen) (ends : List (LaneFor × ℕ)) (opened : Outside) (stage : StageSeen) (before after : ℕ) → (gives : GivesStage group ends stage)
    → SweepsPlace scan.scan scan.reader opened (GivenRows (rules_output group) gives.groups) before after → SweepsGiving scan ends opened before after
swept scan group ends opened stage before after gives place = record {
  groups = place.rows;
  few = (let few : after ≤ before + 1024 * (1 + 1) + 512 * place.rows = place.few in omega (arith, few));
  small = place.small;
  within = λ files had. inr (gives.rows, gives.are, (let few : place.rows ≤ length gives.groups = place.within files had in let most = gives.few in omega (arith, few, most)));
}
