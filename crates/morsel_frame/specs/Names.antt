-- Names that occur twice, and the places of names.
use Rattle.std.specs.Prelude.{ℕ, nat_eq, Bool, if◌then◌else◌, Option, Some, None, List, [], ◌∷◌}
use Rattle.std.specs.List.{list_any, IsDistinct}
use Rattle.std.specs.Str.{bytes_eq}

-- whether the name is one of these
abbrev pub stands_in : List ℕ → List (List ℕ) → Bool
stands_in name names = list_any (λ other. bytes_eq other name) names

-- the first of these names that occurs before it, where others come before them all
abbrev pub first_known : List (List ℕ) → List (List ℕ) → Option (List ℕ)
first_known before [] = None
first_known before (name ∷ names) = if stands_in name before then Some name else first_known (name ∷ before) names

-- the first name that occurs before it
abbrev pub first_repeated : List (List ℕ) → Option (List ℕ)
first_repeated names = first_known [] names

-- no name occurs twice
abbrev pub AreDistinct : List (List ℕ) → Type 0
AreDistinct names = IsDistinct bytes_eq names

-- no place occurs twice
abbrev pub AreDistinctPlaces : List ℕ → Type 0
AreDistinctPlaces places = IsDistinct nat_eq places
