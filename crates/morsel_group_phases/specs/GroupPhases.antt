-- What a group-by has in its phases.
use Rattle.std.specs.Prelude.{◌≡◌, ◌≢◌, ◌⊎◌, ◌≤◌, ℕ, Bool, true, false, Option, None, Some, List, [], map, length}
use Rattle.morsel_meaning.specs.declared.fault.Fault.{Fault}
use Rattle.morsel_meaning.specs.declared.value.Field.{Field}
use Rattle.morsel_meaning.specs.Values.{Row, Table}
use Rattle.morsel_ports.specs.declared.node.PortState.{PortState}
use Rattle.morsel_group.specs.Grouping.{Grouped}
use Rattle.morsel_group.specs.GroupCauses.{FitsGroups}
use Rattle.morsel_group_units.specs.GroupAsks.{GroupRulesSeen, rules_output, rules_shape}
use Rattle.morsel_group_phases.specs.LaneEnds.{TookFrom, lane_ended}
use Rattle.morsel_group_phases.specs.SinkPhases.{HasCauseOfRows, sink_ends}
use Rattle.morsel_group_phases.specs.GroupTables.{MovesGroupAt}
use Rattle.morsel_group_phases.specs.declared.places.GroupAt.{GroupAt}
use Rattle.morsel_group_phases.specs.declared.places.GroupAt.TheVariants as at
use Rattle.morsel_group_phases.specs.declared.phase.GroupPhase.{GroupPhase}
use Rattle.morsel_group_phases.specs.declared.phase.GroupPhase.TheVariants as phases

-- where it is
abbrev pub group_at : {K J : Type 0} {a b : _} → GroupPhase K J a b → GroupAt
group_at (phases.Sink sink) = at.Sink
group_at (phases.Source source) = at.Source
group_at (phases.Giving frame) = at.Source
group_at (phases.Given frame) = at.Source
group_at phases.Done = at.Done

-- what it is asked for, until a unit has its rows
abbrev pub group_rules : {K J : Type 0} {a b : _} → GroupPhase K J a b → Option GroupRulesSeen
group_rules (phases.Sink sink) = Some sink.taken.rules
group_rules (phases.Source source) = Some source.grouped.rules
group_rules (phases.Giving frame) = None
group_rules (phases.Given frame) = None
group_rules phases.Done = None

-- what its present lanes are for
abbrev pub group_job : {K J : Type 0} {a b : _} → GroupPhase K J a b → Option J
group_job (phases.Sink sink) = Some sink.job.value
group_job (phases.Source source) = None
group_job (phases.Giving frame) = None
group_job (phases.Given frame) = None
group_job phases.Done = None

-- where the lanes ended before the present ones
abbrev pub past_ends : {K J : Type 0} {a b : _} → GroupPhase K J a b → List (J × ℕ)
past_ends (phases.Sink sink) = map lane_ended sink.ends.items
past_ends (phases.Source source) = map lane_ended source.ends.items
past_ends (phases.Giving frame) = []
past_ends (phases.Given frame) = []
past_ends phases.Done = []

-- where all of them end, until a unit has its rows
abbrev pub ends_of_group : {K J : Type 0} {a b : _} → GroupPhase K J a b → Option (List (J × ℕ))
ends_of_group (phases.Sink sink) = Some (sink_ends sink)
ends_of_group (phases.Source source) = Some (map lane_ended source.ends.items)
ends_of_group (phases.Giving frame) = None
ends_of_group (phases.Given frame) = None
ends_of_group phases.Done = None

-- its rows, once no more rows come
abbrev pub frame_of_group : {K J : Type 0} {a b : _} → GroupPhase K J a b → Option Table
frame_of_group (phases.Sink sink) = None
frame_of_group (phases.Source source) = Some source.grouped.frame
frame_of_group (phases.Giving frame) = Some frame.value
frame_of_group (phases.Given frame) = Some frame.value
frame_of_group phases.Done = None

-- whether a unit has them
abbrev pub are_groups_out : {K J : Type 0} {a b : _} → GroupPhase K J a b → Bool
are_groups_out (phases.Sink sink) = false
are_groups_out (phases.Source source) = false
are_groups_out (phases.Giving frame) = true
are_groups_out (phases.Given frame) = false
are_groups_out phases.Done = false

-- whether all of them were given
abbrev pub has_given_groups : {K J : Type 0} {a b : _} → GroupPhase K J a b → Bool
has_given_groups (phases.Sink sink) = false
has_given_groups (phases.Source source) = false
has_given_groups (phases.Giving frame) = false
has_given_groups (phases.Given frame) = true
has_given_groups phases.Done = false

-- of all rows of its lanes up to their ends the group-by has no answer
abbrev pub IsFaultOfGroups : {K J : Type 0} {a b : _} → (J → ℕ → List Row → Type 0) → GroupPhase K J a b → Fault → Type 0
IsFaultOfGroups yields (phases.Sink sink) fault = HasCauseOfRows yields sink fault
IsFaultOfGroups yields (phases.Source source) fault = ⊥
IsFaultOfGroups yields (phases.Giving frame) fault = ⊥
IsFaultOfGroups yields (phases.Given frame) fault = ⊥
IsFaultOfGroups yields phases.Done fault = ⊥

-- the frame has the rows of the group-by of all rows of its lanes up to their ends, which has an answer
pub record GivesGroupsOf {K J : Type 0} {a b : _} (yields : J → ℕ → List Row → Type 0) (phase : GroupPhase K J a b) (rules : GroupRulesSeen) (frame : Table) : Type 0 where
  pub rows : List Row
  pub took : (ends : List (J × ℕ)) → ends_of_group phase ≡ Some ends → ∥ TookFrom yields ends rows ∥₁
  pub columns : frame.schema ≡ rules_output rules
  pub grouped : Grouped (rules_shape rules) rows frame.rows
  pub fits : FitsGroups (rules_shape rules) rows
  pub few : length frame.rows ≤ length rows

-- what stays of a group-by while its units work: it is where it was, or done; what it still has it had before
pub record StaysGroup {K J : Type 0} {a b : _} (before now : GroupPhase K J a b) : Type 0 where
  pub at : (group_at now ≡ group_at before) ⊎ (group_at now ≡ at.Done)
  pub rules : (rules : GroupRulesSeen) → group_rules now ≡ Some rules → group_rules before ≡ Some rules
  pub job : (job : J) → group_job now ≡ Some job → (group_job before ≡ Some job) × (past_ends before ≡ past_ends now)
  pub frame : (frame : Table) → frame_of_group now ≡ Some frame → frame_of_group before ≡ Some frame

-- what it still has it had before
pub record HadGroup {K J : Type 0} {a b : _} (before now : GroupPhase K J a b) : Type 0 where
  pub rules : (rules : GroupRulesSeen) → group_rules now ≡ Some rules → group_rules before ≡ Some rules
  pub ends : (ends : List (J × ℕ)) → ends_of_group now ≡ Some ends → ends_of_group before ≡ Some ends
  pub frame : (frame : Table) → frame_of_group now ≡ Some frame → frame_of_group before ≡ Some frame

-- what stays of a group-by where it moves on: that, but for its rows, which it has once no more rows come
pub record KeepsGroup {K J : Type 0} {a b : _} (before now : GroupPhase K J a b) : Type 0 where
  pub rules : (rules : GroupRulesSeen) → group_rules now ≡ Some rules → group_rules before ≡ Some rules
  pub ends : (ends : List (J × ℕ)) → ends_of_group now ≡ Some ends → ends_of_group before ≡ Some ends
  pub frame : group_at before ≢ at.Sink → (frame : Table) → frame_of_group now ≡ Some frame → frame_of_group before ≡ Some frame

-- the table, and what stays of the group-by
pub record MovesGroup {K J : Type 0} {a b : _} (before : GroupPhase K J a b) (recv send : List PortState) (now : GroupPhase K J a b) (recv_now send_now : List PortState) : Type 0 where
  pub moves : MovesGroupAt (group_at before) (has_given_groups before) recv send (group_at now) recv_now send_now
  pub keeps : KeepsGroup before now

-- lanes may be those of its ports in this phase: of the rows that are taken, and of what it gives
abbrev pub FitsGroup : {K J : Type 0} {a b : _} (gives_cuts : J → List Field → Type 0) (is_given : List Field → List Row → J → Type 0) → GroupPhase K J a b → J → J → Type 0
FitsGroup gives_cuts is_given (phases.Sink sink) job sent = (job ≡ sink.job.value) × gives_cuts job sink.taken.rules.columns
FitsGroup gives_cuts is_given (phases.Source source) job sent = is_given source.grouped.frame.schema source.grouped.frame.rows sent
FitsGroup gives_cuts is_given (phases.Giving frame) job sent = Unit {0}
FitsGroup gives_cuts is_given (phases.Given frame) job sent = Unit {0}
FitsGroup gives_cuts is_given phases.Done job sent = Unit {0}
