-- What the unit of a node keeps.
use Rattle.std.specs.Prelude.{◌≡◌, Bool, false, Option, None, IfSome, List, [], ◌∷◌, ◌++◌}
use Rattle.atomic_table.specs.Seated.{TableId}
use Rattle.morsel_load.specs.declared.load.Load.{Load}
use Rattle.morsel_lane_pipe.specs.Stretches.{KeepsStretches}

-- the unit's ends are of this board's table, it makes loads of the second job of those of the first, and each stretch that was taken was sent or is held, unless a load was lost
pub record IsUnit {K J M : Type 0} (suits : J → Load K J → Type 0) (joins : M → J → J → Type 0) (table from_home to_home : TableId) (maker : M) (from_job to_job : J) (taken sent : List (Load K J)) (held : Option (Load K J)) (lost : Bool) : Type 0 where
  pub from_table : from_home ≡ table
  pub to_table : to_home ≡ table
  pub joined : joins maker from_job to_job
  pub suited : IfSome held (suits to_job)
  pub kept : lost ≡ false → KeepsStretches taken sent held []

-- the last load was taken, and before it each stretch that was taken was sent
pub record HasTaken {K J : Type 0} (taken sent : List (Load K J)) (load : Load K J) : Type 0 where
  pub before : List (Load K J)
  pub last : taken ≡ before ++ load ∷ []
  pub kept : KeepsStretches before sent None []
