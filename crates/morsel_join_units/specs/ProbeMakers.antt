-- Loads of what rows find on the kept side of a join.
use Rattle.std.specs.Prelude.{◌≡◌, ◌<◌, ◌++◌, ℕ, Option, None, Some, List, [], ◌∷◌}
use Rattle.std.specs.Arc.{arc_value}
use Rattle.morsel_meaning.specs.Values.{Row, Table}
use Rattle.morsel_load.specs.Loads.{LoadSeen, SeenMorsel}
use Rattle.morsel_load.specs.Sources.{SourceSeen}
use Rattle.morsel_load.specs.declared.morsels.Stretch.{Stretch}
use Rattle.morsel_join.specs.declared.build_side.Build.{Build}
use Rattle.morsel_join.specs.declared.probing.Probing.{Probing}
use Rattle.morsel_join.specs.BuildSides.{IsBuild, kept_side}
use Rattle.morsel_join.specs.Hits.{HaveHit}
use Rattle.morsel_join.specs.Probings.{IsProbing, LooksUp}
use Rattle.morsel_join.specs.Sides.{KeptSide, rows_found}
use Rattle.morsel_join_units.specs.LookedUps.{rows_looked_up}
use Rattle.morsel_join_units.specs.RowCutters.{HasCut, rows_of_loads}
use Rattle.morsel_join_units.specs.declared.probe_maker.ProbeMaker.{ProbeMaker}
use Rattle.morsel_join_units.specs.declared.probe_maker.Probed.{Probed}

-- a maker has a kept side, and the marks of the rows that it has looked up
pub record IsProbeMaker (maker : ProbeMaker) : Type 0 where
  pub built : IsBuild (arc_value maker.build)
  pub some : 0 < maker.rows
  pub hits : HaveHit (arc_value maker.build) maker.hits.seen.items (rows_looked_up maker.looked.items)

-- the rows of this frame are looked up in this kept side, and nothing was given
pub record IsLookedUp (build : Build) (frame : Table) (probing : Probing) : Type 0 where
  pub build_is : arc_value probing.build ≡ build
  pub probing_is : IsProbing probing
  pub all : LooksUp probing (rows_found (kept_side build) frame.rows)

-- of all these rows so many were given, and the others are still to be given
abbrev pub HasGiven : List Row → Probed → Type 0
HasGiven all probed = HasCut (LooksUp probed.probing) all probed.cutter.given

-- what is looked up is of a load for lanes of a job, of which loads for another one are made
pub record FindsOf {J : Type 0} (suits : J → LoadSeen → Type 0) (finds : KeptSide → J → J → Type 0) (side : KeptSide) (to : J) (probed : Probed) : Type 0 where
  pub from : J
  pub frame : Table
  pub seq : ℕ
  pub source : SourceSeen
  pub stretch : Stretch
  pub found : finds side from to
  pub suited : suits from (SeenMorsel frame seq source stretch)
  pub seq_is : probed.cutter.seq ≡ seq
  pub source_is : probed.cutter.source.source ≡ source.source
  pub from_is : probed.cutter.from ≡ stretch.from
  pub to_is : probed.cutter.to ≡ stretch.to
  pub side_is : kept_side (arc_value probed.probing.build) ≡ side
  pub probing : IsProbing probed.probing
  pub given : HasGiven (rows_found side frame.rows) probed

abbrev pub FindsFor : {J : Type 0} → (J → LoadSeen → Type 0) → (KeptSide → J → J → Type 0) → KeptSide → J → Option Probed → Type 0
FindsFor suits finds side to None = Unit {0}
FindsFor suits finds side to (Some probed) = FindsOf suits finds side to probed

-- the stretch that is still to be ended
abbrev pub stretch_left : Option Probed → List (ℕ × ℕ)
stretch_left None = []
stretch_left (Some probed) = (probed.cutter.from, probed.cutter.to) ∷ []

-- these rows are still to be given of what is looked up, in this kept side
abbrev pub AreToGive : Build → Option Probed → List Row → Type 0
AreToGive build None rest = rest ≡ []
AreToGive build (Some probed) rest = (arc_value probed.probing.build ≡ build) × IsProbing probed.probing × LooksUp probed.probing rest

-- the rows of the loads that were made, and those that are still to be given, are what the rows of the loads that were taken find; and their marks are set
pub record DidProbe (maker : ProbeMaker) (taken made : List LoadSeen) : Type 0 where
  pub hits : HaveHit (arc_value maker.build) maker.hits.seen.items (rows_of_loads taken)
  pub rest : List Row
  pub left : AreToGive (arc_value maker.build) maker.probed rest
  pub all : rows_of_loads made ++ rest ≡ rows_found (kept_side (arc_value maker.build)) (rows_of_loads taken)
