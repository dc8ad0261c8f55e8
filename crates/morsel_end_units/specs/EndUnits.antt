-- What the units of nodes keep that only take loads, or only give them.
use Rattle.std.specs.Prelude.{◌≡◌, ℕ, Bool, true, false, Option, IfSome, List, [], ◌∷◌, ◌++◌, map}
use Rattle.atomic_table.specs.Seated.{TableId}
use Rattle.morsel_load.specs.Loads.{LoadSeen, load_seen}
use Rattle.morsel_load.specs.declared.load.Load.{Load}
use Rattle.morsel_flat_units.specs.FlatUnits.{made_loads}

-- the unit's end is of this board's table; and unless a load was lost, its keeper keeps what was taken, which is of this job
pub record IsKeepUnit {K J M : Type 0} (keeps : M → J → Type 0) (took : M → List LoadSeen → Type 0) (table from_home : TableId) (keeper : M) (job : J) (taken : List (Load K J)) (lost : Bool) : Type 0 where
  pub from_table : from_home ≡ table
  pub kept : lost ≡ false → keeps keeper job × took keeper (map load_seen taken)

-- the last load was taken, and all before it are kept
pub record HasTakenMore {K J M : Type 0} (took : M → List LoadSeen → Type 0) (keeper : M) (taken : List (Load K J)) (load : Load K J) : Type 0 where
  pub before : List (Load K J)
  pub last : taken ≡ before ++ load ∷ []
  pub kept : took keeper (map load_seen before)

-- unless it had a fault: what is still to be given is for this job, its giver has given what was sent and what is held, and all stretches were sent, are held, or are left
pub record KeepsGiving {K J M : Type 0} (gives_for : M → J → Type 0) (left : M → List (ℕ × ℕ)) (did : M → List LoadSeen → Type 0) (giver : M) (job : J) (sent : List (Load K J)) (held : Option (Load K J)) (ended : Bool) : Type 0 where
  pub for_job : gives_for giver job
  pub given : did giver (map load_seen sent ++ made_loads held)
  pub none_left : ended ≡ true → left giver ≡ []

-- the unit's end is of this board's table, and what it holds is for this job
pub record IsGiveUnit {K J : Type 0} (suits : J → Load K J → Type 0) (table to_home : TableId) (job : J) (held : Option (Load K J)) (lost : Bool) (keeps : Type 0) : Type 0 where
  pub to_table : to_home ≡ table
  pub suited : IfSome held (suits job)
  pub keeping : lost ≡ false → keeps
