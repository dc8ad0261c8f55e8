use Rattle.std.proofs.Common.{◌≡◌, ℕ, Some, sym, subst, ◌∙◌}
use Rattle.morsel_join.specs.declared.build_side.Build.{Build}
use Rattle.morsel_join.specs.BuildSides.{IsBuild, kept_side}
use Rattle.morsel_scan_units.specs.LaneJobs.{LaneFor}
use Rattle.morsel_scan_units.specs.LaneRows.{PlacesGive}
use Rattle.morsel_join_phases.specs.declared.phase.JoinPhase.{JoinPhase}
use Rattle.morsel_join_phases.specs.JoinPhases.{build_of, kept_job_of, kept_to_of}
use Rattle.morsel_join_plan.specs.JoinLanes.{HasKeptTo}
use Rattle.morsel_join_plan.proofs.LaneFacts.{has_kept_to}
use Rattle.morsel_join_plan.proofs.keep.end_keeping.Goals as goal

has_kept_here : {K : Type 0} {a b : _} (phase : JoinPhase K LaneFor a b) (to given : ℕ) → to ≡ given → kept_to_of phase ≡ Some to → ((build : Build) → build_of phase ≡ Some build → IsBuild build)
    → ((build : Build) (lane : LaneFor) → build_of phase ≡ Some build → kept_job_of phase ≡ Some lane → ∥ PlacesGive lane 0 to (kept_side build).rows ∥₁) → HasKeptTo phase given
has_kept_here phase to given same is built gives = subst (HasKeptTo phase) same (has_kept_to phase to is built gives)

pub returns-clause-kept : goal.returns-clause-kept
returns-clause-kept g c =
    let to_is = sym c.kept_to.ensures.to ∙ c.in-Some.is in
    has_kept_here _ _ _ c.if-to-given.false to_is c.in-Some.ensures.built c.in-Some.ensures.gives
