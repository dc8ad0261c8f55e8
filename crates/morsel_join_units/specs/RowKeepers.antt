-- Rows of one side of a join that are kept, and put in order.
use Rattle.std.specs.Prelude.{◌≡◌, ℕ, List, [], ◌∷◌}
use Rattle.std.specs.List.{All}
use Rattle.morsel_meaning.specs.declared.value.Field.{Field}
use Rattle.morsel_load.specs.Loads.{LoadSeen, SeenMorsel, SeenPiece, SeenPart}
use Rattle.morsel_load.specs.Sources.{SourceSeen}
use Rattle.morsel_rows_job.specs.RowsJobs.{AreWholeRows}
use Rattle.morsel_join_units.specs.declared.row_keeper.KeptRows.{KeptRows}

-- a load has all rows of its stretch
abbrev pub AreAllRows : LoadSeen → Type 0
AreAllRows load = (columns : List Field) × AreWholeRows columns load

-- what is kept of a load
abbrev pub rows_kept_of : LoadSeen → List KeptRows
rows_kept_of (SeenMorsel frame seq source stretch) = record { seq = seq; stretch = stretch; frame = frame } ∷ []
rows_kept_of (SeenPiece piece) = []
rows_kept_of (SeenPart seq part) = []

-- kept rows are those of a load that suits a job
abbrev pub AreKeptOf : {J : Type 0} → (J → LoadSeen → Type 0) → J → KeptRows → Type 0
AreKeptOf suits job rows = (source : SourceSeen) × suits job (SeenMorsel rows.frame rows.seq source rows.stretch)

-- all kept rows are those of loads of a job, in whole stretches
pub record KeepsRowsOf {J : Type 0} (suits : J → LoadSeen → Type 0) (gives_rows : J → List Field → Type 0) (kept : List KeptRows) (job : J) : Type 0 where
  pub columns : List Field
  pub rows : gives_rows job columns
  pub all : All (AreKeptOf suits job) kept

-- the stretches of kept rows follow one another, from one place up to another
abbrev pub FollowUp : List KeptRows → ℕ → ℕ → Type 0
FollowUp [] from to = from ≡ to
FollowUp (rows ∷ more) from to = (rows.stretch.from ≡ from) × FollowUp more rows.stretch.to to
