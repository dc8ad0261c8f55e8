-- Rows of one stretch that are given some at a time.
use Rattle.std.specs.Prelude.{◌≡◌, ◌++◌, ℕ, Bool, true, List, [], length}
use Rattle.std.specs.List.{flat_map}
use Rattle.morsel_meaning.specs.Values.{Row}
use Rattle.morsel_load.specs.Loads.{LoadSeen, SeenMorsel, SeenPiece, SeenPart}
use Rattle.morsel_load.specs.declared.morsels.Stretch.{Stretch}
use Rattle.morsel_join_units.specs.declared.row_cutter.RowCutter.{RowCutter}

-- the whole stretch
abbrev pub stretch_of : RowCutter → Stretch
stretch_of cutter = record { from = cutter.from; to = cutter.to; skip = 0; last = true }

-- the rows of the stretch after those that were given
abbrev pub next_cut : RowCutter → Bool → Stretch
next_cut cutter last = record { from = cutter.from; to = cutter.to; skip = cutter.given; last = last }

-- of all these rows so many were given, and the others are left
pub record HasCut (Left : List Row → Type 0) (all : List Row) (given : ℕ) : Type 0 where
  pub front : List Row
  pub rest : List Row
  pub left : Left rest
  pub same : all ≡ front ++ rest
  pub many : length front ≡ given

-- these rows were given, and the others are left; none is left after the last ones
pub record GivesRest (Left : List Row → Type 0) (rest rows : List Row) (last : Bool) : Type 0 where
  pub later : List Row
  pub same : rest ≡ rows ++ later
  pub left : Left later
  pub none : last ≡ true → later ≡ []

-- the rows of loads, one load after the other
abbrev pub rows_of_load : LoadSeen → List Row
rows_of_load (SeenMorsel frame seq source stretch) = frame.rows
rows_of_load (SeenPiece piece) = []
rows_of_load (SeenPart seq part) = []

abbrev pub rows_of_loads : List LoadSeen → List Row
rows_of_loads loads = flat_map rows_of_load loads
