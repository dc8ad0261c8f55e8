-- What a join has in its phases.
use Rattle.std.specs.Prelude.{◌≡◌, ◌≢◌, ◌⊎◌, ℕ, Bool, true, false, if◌then◌else◌, Option, None, Some, List, []}
use Rattle.std.specs.Arc.{arc_value}
use Rattle.morsel_meaning.specs.declared.value.Field.{Field}
use Rattle.morsel_meaning.specs.Values.{Row}
use Rattle.morsel_join.specs.BuildSides.{kept_side}
use Rattle.morsel_join.specs.declared.build_side.Build.{Build}
use Rattle.morsel_join.specs.declared.rules.JoinRules.{JoinRules}
use Rattle.morsel_join.specs.Hits.{HaveHit}
use Rattle.morsel_join.specs.Items.{wants_left, wants_right}
use Rattle.morsel_join.specs.Rows.{keeps_left}
use Rattle.morsel_join.specs.Sides.{KeptSide}
use Rattle.morsel_ports.specs.declared.node.PortState.{PortState}
use Rattle.morsel_join_units.specs.LookedUps.{rows_looked_up}
use Rattle.morsel_join_phases.specs.declared.places.JoinAt.{JoinAt}
use Rattle.morsel_join_phases.specs.declared.places.JoinAt.TheVariants as at
use Rattle.morsel_join_phases.specs.declared.phase.JoinPhase.{JoinPhase}
use Rattle.morsel_join_phases.specs.declared.phase.JoinPhase.TheVariants as phases
use Rattle.morsel_join_phases.specs.JoinTables.{MovesAt}

-- whether joins by these rules have kept rows that none finds
abbrev pub has_alone : JoinRules → Bool
has_alone rules = if keeps_left rules.how rules.maintain_order then wants_left rules.how else wants_right rules.how

-- where it is
abbrev pub at_of : {K J : Type 0} {a b : _} → JoinPhase K J a b → JoinAt
at_of (phases.Build build) = at.Build
at_of (phases.Probe probe) = at.Probe
at_of (phases.Emit emit) = at.Emit
at_of (phases.Giving build) = at.Emit
at_of (phases.Given build) = at.Emit
at_of phases.Done = at.Done

-- its rules
abbrev pub rules_of : {K J : Type 0} {a b : _} → JoinPhase K J a b → Option JoinRules
rules_of (phases.Build build) = Some build.rules
rules_of (phases.Probe probe) = Some (arc_value probe.build).rules
rules_of (phases.Emit emit) = Some (arc_value emit.build).rules
rules_of (phases.Giving build) = Some (arc_value build).rules
rules_of (phases.Given build) = Some (arc_value build).rules
rules_of phases.Done = None

-- the columns of the rows that are looked up
abbrev pub asked_of : {K J : Type 0} {a b : _} → JoinPhase K J a b → Option (List Field)
asked_of (phases.Build build) = Some build.asked
asked_of (phases.Probe probe) = Some (arc_value probe.build).asked
asked_of (phases.Emit emit) = Some (arc_value emit.build).asked
asked_of (phases.Giving build) = Some (arc_value build).asked
asked_of (phases.Given build) = Some (arc_value build).asked
asked_of phases.Done = None

-- what the lanes are for whose rows are kept
abbrev pub kept_job_of : {K J : Type 0} {a b : _} → JoinPhase K J a b → Option J
kept_job_of (phases.Build build) = Some build.job.value
kept_job_of (phases.Probe probe) = Some probe.job.value
kept_job_of (phases.Emit emit) = Some emit.job.value
kept_job_of (phases.Giving build) = None
kept_job_of (phases.Given build) = None
kept_job_of phases.Done = None

-- and those whose rows are looked up
abbrev pub asked_job_of : {K J : Type 0} {a b : _} → JoinPhase K J a b → Option J
asked_job_of (phases.Build build) = Some build.asked_job.value
asked_job_of (phases.Probe probe) = Some probe.asked_job.value
asked_job_of (phases.Emit emit) = Some emit.asked_job.value
asked_job_of (phases.Giving build) = None
asked_job_of (phases.Given build) = None
asked_job_of phases.Done = None

-- the kept rows by their keys
abbrev pub build_of : {K J : Type 0} {a b : _} → JoinPhase K J a b → Option Build
build_of (phases.Build build) = None
build_of (phases.Probe probe) = Some (arc_value probe.build)
build_of (phases.Emit emit) = Some (arc_value emit.build)
build_of (phases.Giving build) = Some (arc_value build)
build_of (phases.Given build) = Some (arc_value build)
build_of phases.Done = None

-- the marks of those that were found
abbrev pub marks_of : {K J : Type 0} {a b : _} → JoinPhase K J a b → Option (List Bool)
marks_of (phases.Build build) = None
marks_of (phases.Probe probe) = Some probe.hits.seen.items
marks_of (phases.Emit emit) = Some emit.hits.seen.items
marks_of (phases.Giving build) = None
marks_of (phases.Given build) = None
marks_of phases.Done = None

-- up to which place of their lanes rows were kept
abbrev pub kept_to_of : {K J : Type 0} {a b : _} → JoinPhase K J a b → Option ℕ
kept_to_of (phases.Build build) = None
kept_to_of (phases.Probe probe) = Some probe.kept_to
kept_to_of (phases.Emit emit) = Some emit.kept_to
kept_to_of (phases.Giving build) = None
kept_to_of (phases.Given build) = None
kept_to_of phases.Done = None

-- up to which place of theirs rows were looked up
abbrev pub asked_to_of : {K J : Type 0} {a b : _} → JoinPhase K J a b → Option ℕ
asked_to_of (phases.Build build) = None
asked_to_of (phases.Probe probe) = None
asked_to_of (phases.Emit emit) = Some emit.asked_to
asked_to_of (phases.Giving build) = None
asked_to_of (phases.Given build) = None
asked_to_of phases.Done = None

-- and these rows, once all were
abbrev pub asked_rows_of : {K J : Type 0} {a b : _} → JoinPhase K J a b → Option (List Row)
asked_rows_of (phases.Build build) = None
asked_rows_of (phases.Probe probe) = None
asked_rows_of (phases.Emit emit) = Some (rows_looked_up emit.looked.value.items)
asked_rows_of (phases.Giving build) = None
asked_rows_of (phases.Given build) = None
asked_rows_of phases.Done = None

-- whether it has kept rows that none finds
abbrev pub alone_in : {K J : Type 0} {a b : _} → JoinPhase K J a b → Bool
alone_in (phases.Build build) = has_alone build.rules
alone_in (phases.Probe probe) = has_alone (arc_value probe.build).rules
alone_in (phases.Emit emit) = has_alone (arc_value emit.build).rules
alone_in (phases.Giving build) = has_alone (arc_value build).rules
alone_in (phases.Given build) = has_alone (arc_value build).rules
alone_in phases.Done = false

-- whether all of those were given
abbrev pub given_in : {K J : Type 0} {a b : _} → JoinPhase K J a b → Bool
given_in (phases.Build build) = false
given_in (phases.Probe probe) = false
given_in (phases.Emit emit) = false
given_in (phases.Giving build) = false
given_in (phases.Given build) = true
given_in phases.Done = false

-- what it has then it had before
abbrev pub Had : {X : Type 0} → Option X → Option X → Type 0
Had before now = (x : _) → now ≡ Some x → before ≡ Some x

-- its rules, and what its lanes are for, stay while it has them
pub record HadRules {K J : Type 0} {a b : _} (before now : JoinPhase K J a b) : Type 0 where
  pub rules : Had (rules_of before) (rules_of now)
  pub asked : Had (asked_of before) (asked_of now)
  pub job : Had (kept_job_of before) (kept_job_of now)
  pub asked_job : Had (asked_job_of before) (asked_job_of now)

-- and so does what is known of the kept rows
pub record HadKept {K J : Type 0} {a b : _} (before now : JoinPhase K J a b) : Type 0 where
  pub build : Had (build_of before) (build_of now)
  pub marks : Had (marks_of before) (marks_of now)
  pub kept_to : Had (kept_to_of before) (kept_to_of now)

-- what stays of a join while its units work: it is where it was, or done; its rules stay, and the kept rows that it has it had before
pub record StaysJoin {K J : Type 0} {a b : _} (before now : JoinPhase K J a b) : Type 0 where
  pub at : (at_of now ≡ at_of before) ⊎ (at_of now ≡ at.Done)
  pub rules : HadRules before now
  pub build : Had (build_of before) (build_of now)

-- what stays of a join where it moves on; where the kept rows are put by their keys, no mark is set
pub record KeepsJoin {K J : Type 0} {a b : _} (before now : JoinPhase K J a b) : Type 0 where
  pub rules : HadRules before now
  pub kept : at_of before ≢ at.Build → HadKept before now
  pub none : at_of before ≡ at.Build → (build : Build) (marks : List Bool) → build_of now ≡ Some build → marks_of now ≡ Some marks → HaveHit build marks []

-- the table, and what stays of the join
pub record MovesJoin {K J : Type 0} {a b : _} (before : JoinPhase K J a b) (recv send : List PortState) (now : JoinPhase K J a b) (recv_now send_now : List PortState) : Type 0 where
  pub moves : MovesAt (at_of before) (alone_in before) (given_in before) recv send (at_of now) recv_now send_now
  pub keeps : KeepsJoin before now

-- lanes may be those of its ports in this phase: of the rows that are kept, of those that are looked up, and of what it gives; once all rows were looked up, the rows of the places up to which they were are all those of the lane
abbrev pub FitsJoin : {K J : Type 0} {a b : _} (gives_rows : J → List Field → Type 0) (gives : J → ℕ → ℕ → List Row → Type 0) (is_all : J → List Row → Type 0) (finds is_alone : KeptSide → J → J → Type 0) → JoinPhase K J a b → J → J → J → Type 0
FitsJoin gives_rows gives is_all finds is_alone (phases.Build build) kept asked sent = (kept ≡ build.job.value) × gives_rows kept build.columns
FitsJoin gives_rows gives is_all finds is_alone (phases.Probe probe) kept asked sent = (asked ≡ probe.asked_job.value) × gives_rows asked (arc_value probe.build).asked × finds (kept_side (arc_value probe.build)) asked sent
FitsJoin gives_rows gives is_all finds is_alone (phases.Emit emit) kept asked sent = ((rows : List Row) → ∥ gives emit.asked_job.value 0 emit.asked_to rows ∥₁ → is_all asked rows) × is_alone (kept_side (arc_value emit.build)) asked sent
FitsJoin gives_rows gives is_all finds is_alone (phases.Giving build) kept asked sent = Unit {0}
FitsJoin gives_rows gives is_all finds is_alone (phases.Given build) kept asked sent = Unit {0}
FitsJoin gives_rows gives is_all finds is_alone phases.Done kept asked sent = Unit {0}
