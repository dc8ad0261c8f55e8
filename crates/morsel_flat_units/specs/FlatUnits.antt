-- What the unit of a node that makes several loads of one keeps.
use Rattle.std.specs.Prelude.{◌≡◌, ℕ, Bool, true, false, Option, None, Some, IfSome, List, [], ◌∷◌, ◌++◌, map}
use Rattle.std.specs.List.{flat_map}
use Rattle.atomic_table.specs.Seated.{TableId}
use Rattle.morsel_load.specs.Loads.{LoadSeen, load_seen}
use Rattle.morsel_load.specs.declared.load.Load.{Load}
use Rattle.morsel_lane_pipe.specs.Stretches.{KeepsStretches, ends_of}
use Rattle.morsel_lane_pipe.specs.Tasks.{token_of}

-- the load that was made, if one was, as a list
abbrev pub made_loads : {K J : Type 0} → Option (Load K J) → List LoadSeen
made_loads None = []
made_loads (Some load) = load_seen load ∷ []

-- the stretches that it ends
abbrev pub made_ends : {K J : Type 0} → Option (Load K J) → List (ℕ × ℕ)
made_ends None = []
made_ends (Some load) = ends_of (load_seen load)

-- what is seen of the loads of these receipts, one after the other
abbrev pub loads_of : {R K J : Type 0} → (R → List (Load K J)) → List R → List LoadSeen
loads_of all receipts = flat_map (λ receipt. map load_seen (all receipt)) receipts

-- the token that is kept is that of the load that was taken last, while loads are made of it; else there is none
abbrev pub KeepsLastToken : {K J : Type 0} → List (Load K J) → Bool → Option K → Type 0
KeepsLastToken taken false token = token ≡ None
KeepsLastToken taken true token = (before : List (Load _ _)) × (last : Load _ _) × (taken ≡ before ++ last ∷ []) × (token ≡ token_of (Some last))

-- unless a load was lost: the loads that were made are for the second job, each stretch that was taken was sent, is held, or is left to be made, and the maker has made what was sent and is held of what was taken; a load is held, and something is left, only between the first load that is made of one and the last
pub record KeepsMaking {K J M : Type 0} (makes_for : M → J → Type 0) (left : M → List (ℕ × ℕ)) (did : M → List LoadSeen → List LoadSeen → Type 0) (maker : M) (to_job : J) (taken sent : List (Load K J)) (held : Option (Load K J)) (begun : Bool) (token : Option K) : Type 0 where
  pub for_job : makes_for maker to_job
  pub kept : KeepsStretches taken sent held (left maker)
  pub made : did maker (map load_seen taken) (map load_seen sent ++ made_loads held)
  pub idle : begun ≡ false → (left maker ≡ []) × (held ≡ None)
  pub token_is : KeepsLastToken taken begun token

-- the unit's ends are of this board's table, and it makes loads of the second job of those of the first
pub record IsFlatUnit {K J M : Type 0} (suits : J → Load K J → Type 0) (joins : M → J → J → Type 0) (token_home : K → TableId) (table group_table from_home to_home : TableId) (maker : M) (from_job to_job : J) (held : Option (Load K J)) (token : Option K) (lost : Bool) (keeps : Type 0) : Type 0 where
  pub from_table : from_home ≡ table
  pub to_table : to_home ≡ table
  pub joined : joins maker from_job to_job
  pub suited : IfSome held (suits to_job)
  pub token_table : IfSome token (λ t. token_home t ≡ group_table)
  pub keeping : lost ≡ false → keeps

-- the last load was taken, and all loads of those before it were made and sent
pub record HasTakenNext {K J M : Type 0} (did : M → List LoadSeen → List LoadSeen → Type 0) (maker : M) (taken sent : List (Load K J)) (load : Load K J) : Type 0 where
  pub before : List (Load K J)
  pub last : taken ≡ before ++ load ∷ []
  pub kept : KeepsStretches before sent None []
  pub made : did maker (map load_seen before) (map load_seen sent)
