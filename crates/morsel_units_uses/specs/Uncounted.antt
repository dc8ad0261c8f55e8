-- Loads that end no stretch, which what a unit promises does not count.
use Rattle.std.specs.Prelude.{◌≡◌, ◌↔◌, ◌≤◌, ℕ, All, Option, List, [], ◌++◌, length}
use Rattle.morsel_load.specs.Loads.{load_seen}
use Rattle.morsel_load.specs.declared.load.Load.{Load}
use Rattle.morsel_lane_pipe.specs.Stretches.{ends_of, KeepsStretches}

-- the load ends no stretch
abbrev pub EndsNone : {K J : Type 0} → Load K J → Type 0
EndsNone load = ends_of (load_seen load) ≡ []

-- loads that end no stretch may come anywhere among those that are sent, and be left out
abbrev pub AddsNoStretch : (K J : Type 0) → Type 0
AddsNoStretch K J = (taken before more after : List (Load K J)) (held : Option (Load K J)) (left : List (ℕ × ℕ)) → All EndsNone more
    → (KeepsStretches taken (before ++ after) held left ↔ KeepsStretches taken (before ++ (more ++ after)) held left)

-- where one load that suits the lane ends no stretch, the promise can be kept by as many loads that suit it as one likes
abbrev pub BoundsNoNumber : {K J : Type 0} → (J → Load K J → Type 0) → Type 0
BoundsNoNumber suits = (job : _) (one : Load _ _) → suits job one → EndsNone one
    → (taken sent : List (Load _ _)) (held : Option (Load _ _)) (left : List (ℕ × ℕ)) → All (suits job) sent → KeepsStretches taken sent held left
    → (n : ℕ) → (more : List (Load _ _)) × (n ≤ length more) × All (suits job) more × KeepsStretches taken more held left

-- there is such a load
abbrev pub SomeEndsNone : (K J : Type 0) → Type 0
SomeEndsNone K J = (load : Load K J) × EndsNone load
