-- What reading one record more makes of what is left to read, and of the columns.
use Rattle.std.specs.Prelude.{◌≡◌, ℕ, suc, ◌+◌, ◌-◌, Bool, false, Option, Some, None, Result, Ok, Err, List, [], ◌∷◌, map, length}
use Rattle.morsel_meaning.specs.declared.value.ColType.{ColType}
use Rattle.morsel_meaning.specs.declared.fault.Fault.{Fault}
use Rattle.morsel_meaning.specs.declared.value.Field.{Field}
use Rattle.morsel_meaning.specs.Values.{Row}
use Rattle.morsel_frame.specs.Columns.{Values}
use Rattle.morsel_frame.specs.Frames.{rows_of, Fit}
use Rattle.morsel_grammar.specs.Dialect.{Dialect}
use Rattle.morsel_grammar.specs.Rows.{RowOf}
use Rattle.morsel_grammar.specs.Reading.{Reading, Read, reading_up_to, row_then, read_of, chosen}
use Rattle.morsel_grammar.specs.Results.{IsRefused}
use Rattle.morsel_text.specs.Pushes.{column_kinds, with_row}
use Rattle.morsel_text.specs.declared.reader.Step.{Step}
use Rattle.morsel_text.specs.declared.read.ColumnsRead.{ColumnsRead}

-- what at most `n` records more give
abbrev pub left : ℕ → Dialect → List ColType → List Bool → Bool → ℕ → List ℕ → Read
left n o kinds used head at text = read_of used (reading_up_to n o kinds head at text)

-- a row, where there is one, in front of those that are read later
abbrev pub row_first : ℕ → Option Row → Read → Read
row_first at None later = later
row_first at (Some row) later = record later { rows = (at, row) ∷ later.rows }

-- the columns with a row, where there is one, and how many rows there are more
abbrev pub GainsRow : List Bool → List Values → Option Row → ℕ → List Values → Type 0
GainsRow used old None rows new = (rows ≡ 0) × (new ≡ old)
GainsRow used old (Some row) rows new = (rows ≡ 1) × (length row ≡ length (chosen used old)) × (new ≡ with_row used old row)

-- the record at a place was read
abbrev pub StepsTo : Dialect → List Bool → ℕ → Bool → ℕ → List ℕ → List Values → Result Step Fault → List Values → Type 0
StepsTo o used file head at text old (Ok step) new = (row : Option Row) × GainsRow used old row step.rows new
    × ((n : ℕ) → left (suc n) o (column_kinds old) used head at text
    ≡ row_first at row (left n o (column_kinds old) used step.head (at + (length text - length step.rest.now)) step.rest.now))
StepsTo o used file head at text old (Err fault) new =
    (n : ℕ) → IsRefused file (left (suc n) o (column_kinds old) used head at text).refusal fault

-- a record that is text, and what its row made of the columns
abbrev pub RowStepsTo : RowOf → List Bool → ℕ → ℕ → List Values → Result ℕ Fault → List Values → Type 0
RowStepsTo found used file at old (Ok rows) new = (row : Option Row) × GainsRow used old row rows new
    × ((later : Reading) → read_of used (row_then false at found later) ≡ row_first at row (read_of used later))
RowStepsTo found used file at old (Err fault) new =
    (later : Reading) → IsRefused file (read_of used (row_then false at found later)).refusal fault

-- each column has this height
abbrev pub AreHigh : ℕ → List Values → Type 0
AreHigh height [] = Unit {0}
AreHigh height (column ∷ columns) = (length column.values ≡ height) × AreHigh height columns

-- all records were read into columns without values
abbrev pub ReadsAll : ℕ → List Bool → Read → List Values → Result (ℕ × Bool) Fault → List Values → Type 0
ReadsAll file used read old (Ok answer) new = (read.refusal ≡ None) × (map (λ r. r.1) read.rows ≡ rows_of answer.0 (chosen used new)) × (read.head ≡ answer.1)
    × AreHigh answer.0 (chosen used new) × (column_kinds new ≡ column_kinds old)
ReadsAll file used read old (Err fault) new = IsRefused file read.refusal fault

-- a column without values for each field
abbrev pub empty_columns : List Field → List Values
empty_columns [] = []
empty_columns (field ∷ fields) = record { kind = field.kind; values = [] } ∷ empty_columns fields

-- the used columns that were read
abbrev pub ReadsColumns : ℕ → List Field → List Bool → Read → Result ColumnsRead Fault → Type 0
ReadsColumns file schema used read (Ok answer) = (read.refusal ≡ None) × (rows_of answer.height answer.columns.items ≡ map (λ r. r.1) read.rows)
    × (answer.head ≡ read.head) × Fit (chosen used schema) answer.height answer.columns.items
ReadsColumns file schema used read (Err fault) = IsRefused file read.refusal fault
