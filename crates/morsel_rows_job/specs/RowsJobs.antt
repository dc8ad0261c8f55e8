-- Rows in whole stretches, and cuts of them.
use Rattle.std.specs.Prelude.{◌≡◌, ℕ, ◌+◌, ◌≤◌, Bool, true, false, List, [], ◌∷◌, length, take, drop}
use Rattle.std.specs.List.{flat_map}
use Rattle.morsel_meaning.specs.declared.value.Field.{Field}
use Rattle.morsel_meaning.specs.Values.{Row, Table}
use Rattle.morsel_load.specs.Sources.{SourceSeen}
use Rattle.morsel_load.specs.Loads.{LoadSeen, SeenMorsel, SeenPiece, SeenPart}
use Rattle.morsel_load.specs.declared.morsels.Stretch.{Stretch}

-- a load has all rows of its stretch, which have these columns
abbrev pub AreWholeRows : List Field → LoadSeen → Type 0
AreWholeRows columns (SeenMorsel frame seq source stretch) = (frame.schema ≡ columns) × (stretch.skip ≡ 0) × (stretch.last ≡ true)
AreWholeRows columns (SeenPiece piece) = ⊥
AreWholeRows columns (SeenPart seq part) = ⊥

-- these are some of all rows of a stretch: those after `skip` others; after the last ones no more follow
pub record IsCutOf {X : Type 0} (all : List X) (stretch : Stretch) (some : List X) (cut : Stretch) : Type 0 where
  pub from : cut.from ≡ stretch.from
  pub to : cut.to ≡ stretch.to
  pub within : cut.skip + length some ≤ length all
  pub are : some ≡ take (length some) (drop cut.skip all)
  pub ends : cut.last ≡ true → cut.skip + length some ≡ length all

-- the one place of the kept rows of a join that no row finds
abbrev pub alone_stretch : Stretch
alone_stretch = record { from = 0; to = 1; skip = 0; last = true }

-- a load has rows of these columns
abbrev pub AreRowsWith : List Field → LoadSeen → Type 0
AreRowsWith columns (SeenMorsel frame seq source stretch) = frame.schema ≡ columns
AreRowsWith columns (SeenPiece piece) = ⊥
AreRowsWith columns (SeenPart seq part) = ⊥

-- the rows of a load, with its number and its stretch
pub record RowsCut : Type 0 where
  pub seq : ℕ
  pub stretch : Stretch
  pub frame : Table

-- where a stretch goes on behind a load that has so many of its rows: after the last ones the next stretch begins, and else more rows of this one follow
abbrev pub GoesOnBehind : Bool → Stretch → ℕ → Stretch → Type 0
GoesOnBehind true stretch rows next = (next.from ≡ stretch.to) × (next.skip ≡ 0)
GoesOnBehind false stretch rows next = (next.from ≡ stretch.from) × (next.to ≡ stretch.to) × (next.skip ≡ stretch.skip + rows)

-- a cut goes on where the one before it ends
abbrev pub IsCutBehind : RowsCut → RowsCut → Type 0
IsCutBehind cut next = GoesOnBehind cut.stretch.last cut.stretch (length cut.frame.rows) next.stretch

-- after this cut the others go on, up to a place
abbrev pub GoOn : RowsCut → List RowsCut → ℕ → Type 0
GoOn cut [] to = (cut.stretch.last ≡ true) × (cut.stretch.to ≡ to)
GoOn cut (next ∷ more) to = IsCutBehind cut next × GoOn next more to

-- cuts follow one another from the first place up to another
abbrev pub FollowCuts : List RowsCut → ℕ → Type 0
FollowCuts [] to = to ≡ 0
FollowCuts (cut ∷ more) to = (cut.stretch.from ≡ 0) × (cut.stretch.skip ≡ 0) × GoOn cut more to

-- the rows of cuts, one after the other
abbrev pub rows_of_cuts : List RowsCut → List Row
rows_of_cuts cuts = flat_map (λ cut. cut.frame.rows) cuts

-- the rows are those of a load that suits the job
abbrev pub IsCutFor : {J : Type 0} → (J → LoadSeen → Type 0) → J → RowsCut → Type 0
IsCutFor suits job cut = (source : SourceSeen) × suits job (SeenMorsel cut.frame cut.seq source cut.stretch)
