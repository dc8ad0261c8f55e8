-- Lanes that are merged by the order of what they carry, the greatest value first.
use Rattle.std.specs.Prelude.{◌≡◌, ◌⊎◌, ◌<◌, ◌≤◌, ◌==◌, if◌then◌else◌, ℕ, Bool, true, false, List, [], ◌∷◌, ◌++◌, length, slice_index_or, All, Option, None, Some}
use Rattle.std.specs.List.{AllPairs}
use Rattle.std.specs.Ordering.{is_gt}
use Rattle.std.specs.declared.cmp.Ordering.{Ordering}
use Rattle.morsel_prims.specs.Polled.{held_list}

-- of these values, each with the number of its lane, those of lane i
abbrev pub values_of_lane : {T : Type 0} → ℕ → List ℕ → List T → List T
values_of_lane i [] values = []
values_of_lane i (lane ∷ lanes) [] = []
values_of_lane i (lane ∷ lanes) (value ∷ values) = if lane == i then value ∷ values_of_lane i lanes values else values_of_lane i lanes values

-- the lists of the lanes are these values: each value is of one lane, and each lane has its own in their order
abbrev pub AreSpread : {T : Type 0} → List (List T) → List T → Type 0
AreSpread lists values = (lanes : List ℕ) × (length lanes ≡ length values) × ((i : ℕ) → slice_index_or lists i [] ≡ values_of_lane i lanes values)

-- the list runs from greatest to least
abbrev pub IsFalling : {T : Type 0} → (T → T → Ordering) → List T → Type 0
IsFalling cmp values = AllPairs (λ earlier later. is_gt (cmp later earlier) ≡ false) values

-- each of these lists runs from greatest to least
abbrev pub AreFalling : {T : Type 0} → (T → T → Ordering) → List (List T) → Type 0
AreFalling cmp lists = (i : ℕ) → IsFalling cmp (slice_index_or lists i [])

-- these are all values of the lists; and where each list runs from greatest to least, so do they
abbrev pub IsMerged : {T : Type 0} → (T → T → Ordering) → List (List T) → List T → Type 0
IsMerged cmp lists values = AreSpread lists values × (AreFalling cmp lists → IsFalling cmp values)

-- the value was the last one of its lane, and was given last; or none was given
abbrev pub IsGivenLast : {T : Type 0} → List T → List T → Type 0
IsGivenLast taken given = (given ≡ []) ⊎ ((before : List _) × (others : List _) × (last : _) × (taken ≡ before ++ last ∷ []) × (given ≡ others ++ last ∷ []))

-- what was given of what was taken from the lanes, while one value of a lane may be held, and the lanes from one to another are to be asked
pub record IsMerging {T : Type 0} (cmp : T → T → Ordering) (suits : T → Type 0) (taken : List (List T)) (held : List (Option T)) (from to : ℕ) (given : List T) : Type 0 where
  -- what a lane gave, and then what is held of it, is what was taken from it
  pub spread : (lanes : List ℕ) × (length lanes ≡ length given) × ((i : ℕ) → slice_index_or taken i [] ≡ values_of_lane i lanes given ++ held_list (slice_index_or held i None))
  pub suited : (i : ℕ) (value : T) → slice_index_or held i None ≡ Some value → suits value
  pub falling : AreFalling cmp taken → IsFalling cmp given
  -- nothing that is held is greater than what was given
  pub below : AreFalling cmp taken → (i : ℕ) (value : T) → slice_index_or held i None ≡ Some value → All (λ earlier. is_gt (cmp value earlier) ≡ false) given
  pub next : (i : ℕ) → from ≤ i → i < to → (slice_index_or held i None ≡ None) × IsGivenLast (slice_index_or taken i []) given

-- nothing is held
abbrev pub AreNone : {T : Type 0} → List (Option T) → Type 0
AreNone held = (i : ℕ) → slice_index_or held i None ≡ None

-- lane i holds this value, and no lane holds a greater one
abbrev pub IsGreatest : {T : Type 0} → (T → T → Ordering) → List (Option T) → ℕ → T → Type 0
IsGreatest cmp held i value = (i < length held) × (slice_index_or held i None ≡ Some value) × ((j : ℕ) (other : _) → slice_index_or held j None ≡ Some other → is_gt (cmp other value) ≡ false)

-- each lane that is not to be asked holds a value, or has ended whole
abbrev pub AreHeldOrWhole : {R T : Type 0} → (R → Bool) → List R → List (Option T) → ℕ → ℕ → Type 0
AreHeldOrWhole whole receivers held from to = (i : ℕ) (d : _) → i < length receivers → (i < from) ⊎ (to ≤ i) → slice_index_or held i None ≡ None → whole (slice_index_or receivers i d) ≡ true

-- the lanes before one and from another on are as they were
abbrev pub SameOutside : {X : Type 0} → ℕ → ℕ → List X → List X → Type 0
SameOutside from to old new = (i : ℕ) (d : _) → (i < from) ⊎ (to ≤ i) → slice_index_or new i d ≡ slice_index_or old i d

-- a lane that was asked gave its next value, which is held; or it has ended whole
abbrev pub IsAnswered : {T : Type 0} → (T → Type 0) → List T → List T → Bool → Option T → Option T → Type 0
IsAnswered suits taken taken' whole held held' = ((value : _) × (held' ≡ Some value) × (taken' ≡ taken ++ value ∷ []) × suits value) ⊎ ((held' ≡ held) × (taken' ≡ taken) × (whole ≡ true))

-- the next lane to be asked was cut
abbrev pub IsNextCut : {R : Type 0} → (R → Bool) → List R → ℕ → ℕ → Type 0
IsNextCut cut receivers from to = (from < to) × ((d : _) → cut (slice_index_or receivers from d) ≡ true)
