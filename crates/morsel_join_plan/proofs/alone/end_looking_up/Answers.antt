use Rattle.std.proofs.Common.{◌≡◌, ℕ, Some, sym, subst, ◌∙◌}
use Rattle.morsel_join.specs.declared.build_side.Build.{Build}
use Rattle.morsel_scan_units.specs.LaneJobs.{LaneFor}
use Rattle.morsel_join_phases.specs.declared.phase.JoinPhase.{JoinPhase}
use Rattle.morsel_join_phases.specs.JoinPhases.{KeepsJoin, asked_to_of}
use Rattle.morsel_join_plan.specs.JoinLanes.{HasAskedTo, HasJust}
use Rattle.morsel_join_plan.proofs.LaneFacts.{has_asked_to}
use Rattle.morsel_join_plan.proofs.alone.end_looking_up.Goals as goal

has_asked_here : {K : Type 0} {a b : _} (before now : JoinPhase K LaneFor a b) (build : Build) (lane : LaneFor) (to given : ℕ) → to ≡ given → KeepsJoin before now → HasJust before build lane → asked_to_of now ≡ Some to → HasAskedTo now build lane given
has_asked_here before now build lane to given same keeps has is = subst (HasAskedTo now build lane) same (has_asked_to before now build lane to keeps has is)

pub returns-clause-has : goal.returns-clause-has
returns-clause-has g c build lane has =
    let to_is = sym c.asked_to.ensures.to ∙ c.in-Some.is in
    has_asked_here _ _ build lane _ _ c.if-to-given.false c.in_ok-update_state.ensures.moved.keeps has to_is
