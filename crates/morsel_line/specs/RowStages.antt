-- What becomes of the rows of a scan on their way to a sink.
use Rattle.std.specs.Prelude.{Result, Ok, Err, List, [], ◌∷◌, map}
use Rattle.std.specs.Arc.{arc_value}
use Rattle.morsel_meaning.specs.declared.value.Field.{Field}
use Rattle.morsel_meaning.specs.declared.fault.Fault.{Fault}
use Rattle.morsel_meaning.specs.Values.{Row}
use Rattle.morsel_scan.specs.StretchRows.{before_fault}
use Rattle.morsel_join.specs.BuildSides.{kept_side}
use Rattle.morsel_join.specs.Sides.{KeptSide, rows_alone, rows_found}
use Rattle.morsel_line.specs.declared.row_stage.Rows.{Rows}
use Rattle.morsel_line.specs.declared.row_stage.Rows.TheVariants as stages

-- they are the rows of the scan; or what those find on the kept side of a join; or the kept rows that none of them finds; or these rows, of these columns
pub data StageSeen : Type 0 where
  ScannedRows : StageSeen
  FoundRows : KeptSide → StageSeen
  AloneRows : KeptSide → StageSeen
  GivenRows : List Field → List Row → StageSeen

-- a stage, as contracts see it
abbrev pub stage_seen : Rows → StageSeen
stage_seen stages.Scanned = ScannedRows
stage_seen (stages.Found build) = FoundRows (kept_side (arc_value build))
stage_seen (stages.Alone build) = AloneRows (kept_side (arc_value build))
stage_seen (stages.Given frame) = GivenRows frame.value.schema frame.value.rows

-- the columns of the rows, where the scan's are these
abbrev pub staged_columns : StageSeen → List Field → List Field
staged_columns ScannedRows columns = columns
staged_columns (FoundRows side) columns = side.rules.output
staged_columns (AloneRows side) columns = side.rules.output
staged_columns (GivenRows fields rows) columns = fields

-- what the rows of a place find, or its fault
abbrev pub given_found : KeptSide → Result (List Row) Fault → Result (List Row) Fault
given_found side (Ok rows) = Ok (rows_found side rows)
given_found side (Err fault) = Err fault

-- what each place gives, where the scan's places give this: the rows that no row finds are of one place of their own, and rows that are given too
abbrev pub staged_gives : StageSeen → List (Result (List Row) Fault) → List (Result (List Row) Fault)
staged_gives ScannedRows gives = gives
staged_gives (FoundRows side) gives = map (given_found side) gives
staged_gives (AloneRows side) gives = Ok (rows_alone side (before_fault gives)) ∷ []
staged_gives (GivenRows fields rows) gives = Ok rows ∷ []
