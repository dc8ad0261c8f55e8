-- The rows of a list of records, and the CSV texts that have rows.
use Rattle.std.specs.Prelude.{◌≡◌, ℕ, Bool, true, false, not, ◌&&◌, ◌==◌, if◌then◌else◌, Option, Some, None, List, [], ◌∷◌, length, drop, IsUtf8}
use Rattle.morsel_meaning.specs.declared.value.ColType.{ColType}
use Rattle.morsel_meaning.specs.declared.value.Value.TheVariants as values
use Rattle.morsel_grammar.specs.Dialect.{Dialect}
use Rattle.morsel_grammar.specs.Grammar.{CsvField, CsvRecord, Comment, Fields, Records}
use Rattle.morsel_grammar.specs.Cells.{CsvCell, Good, cell_of}

-- what a record is to the rows: none, a row, or none that fits the columns
pub data RowOf : Type 0 where
  NoRow : RowOf
  IsRow : List CsvCell → RowOf
  Misfit : RowOf

-- one field without quotes and without bytes
abbrev pub is_empty : List CsvField → Bool
is_empty [] = false
is_empty (f ∷ []) = not f.quoted && length f.bytes == 0
is_empty (f ∷ g ∷ fields) = false

-- a cell for each column, where there are as many fields
abbrev pub cells_of : Dialect → List ColType → List CsvField → Option (List CsvCell)
cells_of o [] [] = Some []
cells_of o [] (f ∷ fields) = None
cells_of o (kind ∷ kinds) [] = None
cells_of o (kind ∷ kinds) (f ∷ fields) = cell_first (cell_of o kind f) (cells_of o kinds fields)
  where
    cell_first : CsvCell → Option (List CsvCell) → Option (List CsvCell)
    cell_first cell None = None
    cell_first cell (Some cells) = Some (cell ∷ cells)

-- the row of these cells, where there are as many fields as columns
abbrev pub row_or_misfit : Option (List CsvCell) → RowOf
row_or_misfit None = Misfit
row_or_misfit (Some cells) = IsRow cells

-- an empty record is one null where there is one column, and no row else
abbrev pub row_of_nothing : List ColType → RowOf
row_of_nothing (kind ∷ []) = IsRow (Good values.Null ∷ [])
row_of_nothing kinds = NoRow

-- a comment is no row; fields are a row where there are as many as columns
abbrev pub row_of : Dialect → List ColType → CsvRecord → RowOf
row_of o kinds (Comment body) = NoRow
row_of o kinds (Fields fields) = if is_empty fields then row_of_nothing kinds else row_or_misfit (cells_of o kinds fields)

-- a header is neither comment nor empty
abbrev pub is_header : CsvRecord → Bool
is_header (Comment body) = false
is_header (Fields fields) = not (is_empty fields)

-- the records after the header, where it is still to come
abbrev pub behind_header : Bool → List CsvRecord → List CsvRecord
behind_header false records = records
behind_header true [] = []
behind_header true (r ∷ records) = if is_header r then records else behind_header true records

-- the row of a record, where it has one, and then the rows of those that follow
abbrev pub with_first_row : RowOf → Option (List (List CsvCell)) → Option (List (List CsvCell))
with_first_row NoRow rows = rows
with_first_row (IsRow cells) None = None
with_first_row (IsRow cells) (Some rows) = Some (cells ∷ rows)
with_first_row Misfit rows = None

-- the rows of the records, unless one does not fit the columns
abbrev pub rows_of_records : Dialect → List ColType → List CsvRecord → Option (List (List CsvCell))
rows_of_records o kinds [] = Some []
rows_of_records o kinds (r ∷ records) = with_first_row (row_of o kinds r) (rows_of_records o kinds records)

-- how many bytes the byte order mark takes, where the text begins with it
abbrev pub mark_len : List ℕ → ℕ
mark_len (a ∷ b ∷ c ∷ bytes) = if a == 239 && (b == 187 && c == 191) then 3 else 0
mark_len bytes = 0

-- the text after its byte order mark
abbrev pub unmarked : List ℕ → List ℕ
unmarked bytes = drop (mark_len bytes) bytes

-- the rows of a whole text after its mark
abbrev pub CsvRows : Dialect → List ColType → List ℕ → List (List CsvCell) → Type 0
CsvRows o kinds text rows = (records : List CsvRecord) × Records o text records
    × (rows_of_records o kinds (behind_header o.has_header records) ≡ Some rows)

-- a file that is UTF-8 and has rows
abbrev pub IsOfGrammar : Dialect → List ColType → List ℕ → Type 0
IsOfGrammar o kinds bytes = IsUtf8 bytes × (rows : List (List CsvCell)) × CsvRows o kinds (unmarked bytes) rows
