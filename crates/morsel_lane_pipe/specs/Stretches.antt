-- Which stretches are ended by loads, and what a task that makes one load of another owes of what it took.
use Rattle.std.specs.Prelude.{◌≡◌, ℕ, if◌then◌else◌, Option, List, [], ◌∷◌, ◌++◌}
use Rattle.std.specs.List.{flat_map}
use Rattle.morsel_load.specs.Loads.{LoadSeen, SeenMorsel, SeenPiece, SeenPart, load_seen}
use Rattle.morsel_load.specs.declared.load.Load.{Load}
use Rattle.morsel_prims.specs.Polled.{held_list}

-- the stretch that a load ends, by its two places; one that has not the last rows of its stretch ends none
abbrev pub ends_of : LoadSeen → List (ℕ × ℕ)
ends_of (SeenMorsel frame seq source stretch) = if stretch.last then (stretch.from, stretch.to) ∷ [] else []
ends_of (SeenPiece piece) = (piece.from, piece.to) ∷ []
ends_of (SeenPart seq part) = if part.last then (part.from, part.to) ∷ [] else []

-- the stretches that these loads end, in their order
abbrev pub stretches : {K J : Type 0} → List (Load K J) → List (ℕ × ℕ)
stretches loads = flat_map (λ load. ends_of (load_seen load)) loads

-- each stretch that was taken was sent, is held, or is left, in order
pub record KeepsStretches {K J : Type 0} (taken sent : List (Load K J)) (holds : Option (Load K J)) (left : List (ℕ × ℕ)) : Type 0 where
  pub same : stretches taken ≡ stretches sent ++ (stretches (held_list holds) ++ left)
