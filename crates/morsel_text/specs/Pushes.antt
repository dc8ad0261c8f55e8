-- What putting cells, and rows of them, into columns makes of the columns.
use Rattle.std.specs.Prelude.{◌≡◌, Bool, true, false, Option, Some, None, List, [], ◌∷◌, ◌++◌, length, IsUtf8}
use Rattle.morsel_meaning.specs.declared.value.ColType.{ColType}
use Rattle.morsel_meaning.specs.Values.{Row}
use Rattle.morsel_frame.specs.Columns.{Values}
use Rattle.morsel_grammar.specs.Dialect.{Dialect}
use Rattle.morsel_grammar.specs.Grammar.{CsvField}
use Rattle.morsel_grammar.specs.Cells.{CsvCell, Good, Bad, cell_of}
use Rattle.morsel_grammar.specs.Rows.{RowOf, NoRow, IsRow, Misfit}
use Rattle.morsel_grammar.specs.Reading.{chosen, used_values}
use Rattle.morsel_text.specs.declared.cells.Pushed.{Pushed}
use Rattle.morsel_text.specs.declared.cells.Pushed.TheVariants as pushes
use Rattle.morsel_text.specs.declared.rows.RowPushed.{RowPushed}
use Rattle.morsel_text.specs.declared.rows.RowPushed.TheVariants as rows

-- the column with the cell last, where the cell is a value
abbrev pub with_cell : CsvCell → Values → Option Values
with_cell (Good v) column = Some (record column { values = column.values ++ v ∷ [] })
with_cell Bad column = None

-- the cell was put last, where it is a value
abbrev pub PushesCell : CsvCell → Values → Pushed → Values → Type 0
PushesCell cell old pushes.Done new = with_cell cell old ≡ Some new
PushesCell cell old pushes.Bad new = with_cell cell old ≡ None

-- a column, and then the columns after it
abbrev pub in_front : Option Values → Option (List Values) → Option (List Values)
in_front None columns = None
in_front (Some column) None = None
in_front (Some column) (Some columns) = Some (column ∷ columns)

-- the columns with a row of fields last in those that are used, where none of their cells is bad
abbrev pub with_fields : Dialect → List Bool → List Values → List CsvField → Option (List Values)
with_fields o used [] fields = Some []
with_fields o [] (column ∷ columns) fields = Some (column ∷ columns)
with_fields o (u ∷ used) (column ∷ columns) [] = Some (column ∷ columns)
with_fields o (true ∷ used) (column ∷ columns) (f ∷ fields) =
    in_front (with_cell (cell_of o column.kind f) column) (with_fields o used columns fields)
with_fields o (false ∷ used) (column ∷ columns) (f ∷ fields) = in_front (Some column) (with_fields o used columns fields)

-- the columns are these, where there are some
abbrev pub PushesFields : Option (List Values) → Pushed → List Values → Type 0
PushesFields pushed pushes.Done new = pushed ≡ Some new
PushesFields pushed pushes.Bad new = pushed ≡ None

-- each field's content is text
abbrev pub AreTexts : List CsvField → Type 0
AreTexts [] = Unit {0}
AreTexts (f ∷ fields) = IsUtf8 f.bytes × AreTexts fields

-- the types of columns
abbrev pub column_kinds : List Values → List ColType
column_kinds [] = []
column_kinds (column ∷ columns) = column.kind ∷ column_kinds columns

-- the columns with a row last in those that are used
abbrev pub with_row : List Bool → List Values → Row → List Values
with_row used [] row = []
with_row [] (column ∷ columns) row = column ∷ columns
with_row (true ∷ used) (column ∷ columns) [] = column ∷ columns
with_row (true ∷ used) (column ∷ columns) (v ∷ row) = record column { values = column.values ++ v ∷ [] } ∷ with_row used columns row
with_row (false ∷ used) (column ∷ columns) row = column ∷ with_row used columns row

-- what a record's row makes of the columns
abbrev pub PushesRow : RowOf → List Bool → List Values → RowPushed → List Values → Type 0
PushesRow found used old rows.Row new = (cells : List CsvCell) × (row : Row) × (found ≡ IsRow cells) × (used_values used cells ≡ Some row)
    × (length row ≡ length (chosen used old)) × (new ≡ with_row used old row)
PushesRow found used old rows.NoRow new = (found ≡ NoRow) × (new ≡ old)
PushesRow found used old rows.Misfit new = found ≡ Misfit
PushesRow found used old rows.Bad new = (cells : List CsvCell) × (found ≡ IsRow cells) × (used_values used cells ≡ None)
