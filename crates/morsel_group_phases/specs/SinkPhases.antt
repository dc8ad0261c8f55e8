-- What a group-by has while it takes rows.
use Rattle.std.specs.Prelude.{◌≡◌, ◌++◌, ◌∷◌, [], ℕ, List, map}
use Rattle.morsel_meaning.specs.declared.fault.Fault.{Fault}
use Rattle.morsel_meaning.specs.Values.{Row}
use Rattle.morsel_group.specs.GroupCauses.{GroupCause}
use Rattle.morsel_group_units.specs.GroupAsks.{rules_shape}
use Rattle.morsel_group_units.specs.TakenLoads.{greatest_place}
use Rattle.morsel_group_phases.specs.LaneEnds.{TookFrom, lane_ended}
use Rattle.morsel_group_phases.specs.declared.sink_phase.SinkPhase.{SinkPhase}

-- where its lanes end: the others, and then the present ones
abbrev pub sink_ends : {K J : Type 0} {a b : _} → SinkPhase K J a b → List (J × ℕ)
sink_ends sink = map lane_ended sink.ends.items ++ (sink.job.value, greatest_place sink.taken.taken) ∷ []

-- of all rows of its lanes up to their ends the group-by has no answer
abbrev pub HasCauseOfRows : {K J : Type 0} {a b : _} → (J → ℕ → List Row → Type 0) → SinkPhase K J a b → Fault → Type 0
HasCauseOfRows yields sink fault = (rows : List Row) × ∥ TookFrom yields (sink_ends sink) rows ∥₁ × GroupCause (rules_shape sink.taken.rules) rows fault
