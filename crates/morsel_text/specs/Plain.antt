-- What the plain reader's steps find.
use Rattle.std.specs.Prelude.{◌≡◌, ℕ, suc, ◌+◌, ◌-◌, Bool, false, Option, Some, None, Result, Ok, Err, List, [], ◌∷◌, ◌++◌, map, length, Vec}
use Rattle.std.specs.Borrow.{Bor}
use Rattle.std.specs.declared.alloc.Global.{Global}
use Rattle.morsel_meaning.specs.declared.value.ColType.{ColType}
use Rattle.morsel_meaning.specs.declared.value.Value.{Value}
use Rattle.morsel_meaning.specs.declared.fault.Fault.{Fault}
use Rattle.morsel_meaning.specs.Values.{Row}
use Rattle.morsel_frame.specs.Columns.{Values}
use Rattle.morsel_frame.specs.Frames.{rows_of}
use Rattle.morsel_grammar.specs.Dialect.{Dialect}
use Rattle.morsel_grammar.specs.Grammar.{CsvField, Comment, Fields}
use Rattle.morsel_grammar.specs.Cells.{CsvCell, Good, Bad, cell_of}
use Rattle.morsel_grammar.specs.Rows.{RowOf, NoRow, IsRow, Misfit}
use Rattle.morsel_grammar.specs.Split.{record_at}
use Rattle.morsel_grammar.specs.Reading.{Reading, Read, row_then, read_of, used_values}
use Rattle.morsel_grammar.specs.Results.{IsRefused}
use Rattle.morsel_text.specs.Pushes.{column_kinds}
use Rattle.morsel_text.specs.Steps.{left, row_first, AreHigh}
use Rattle.morsel_text.specs.declared.plain.records.PlainSplit.{PlainSplit}
use Rattle.morsel_text.specs.declared.plain.records.PlainSplit.TheVariants as splits
use Rattle.morsel_text.specs.declared.plain.rows.PlainRow.{PlainRow}
use Rattle.morsel_text.specs.declared.plain.rows.PlainRow.TheVariants as rows
use Rattle.morsel_text.specs.declared.reader.Step.{Step}

-- the field that was found, and what follows it
abbrev pub found_plainly : Option (CsvField × Bor (List ℕ)) → Option (CsvField × List ℕ)
found_plainly None = None
found_plainly (Some found) = Some (found.0, found.1.now)

-- the fields that a text begins with, and what follows them
abbrev pub AreFound : Option (List CsvField × List ℕ) → PlainSplit → Type 0
AreFound found (splits.Fields fields rest) = found ≡ Some (fields.items, rest.now)
AreFound found (splits.Comment rest) = ⊥
AreFound found splits.Broken = found ≡ None

-- the record that a text begins with, and what follows it
abbrev pub SplitsPlainly : Dialect → List ℕ → PlainSplit → Type 0
SplitsPlainly o text (splits.Fields fields rest) = record_at o text ≡ Some (Fields fields.items, rest.now)
SplitsPlainly o text (splits.Comment rest) = (body : List ℕ) × (record_at o text ≡ Some (Comment body, rest.now))
SplitsPlainly o text splits.Broken = record_at o text ≡ None

-- how many bytes follow the record
abbrev pub plain_split_len : PlainSplit → ℕ
plain_split_len (splits.Fields fields rest) = length rest.now
plain_split_len (splits.Comment rest) = length rest.now
plain_split_len splits.Broken = 0

-- the cell of a value, or of none that fits
abbrev pub cell_in : Option Value → CsvCell
cell_in None = Bad
cell_in (Some v) = Good v

-- the cells of fields under as many types
abbrev pub cells_with : Dialect → List ColType → List CsvField → List CsvCell
cells_with o [] fields = []
cells_with o (kind ∷ kinds) [] = []
cells_with o (kind ∷ kinds) (f ∷ fields) = cell_of o kind f ∷ cells_with o kinds fields

-- the values that were found
abbrev pub values_in : Option (Vec Value Global) → Option Row
values_in None = None
values_in (Some values) = Some values.items

-- what a record gives to the used columns
abbrev pub GivesRow : RowOf → List Bool → PlainRow → Type 0
GivesRow found used (rows.Row values) = (cells : List CsvCell) × (found ≡ IsRow cells) × (used_values used cells ≡ Some values.items)
GivesRow found used rows.NoRow = found ≡ NoRow
GivesRow found used rows.Misfit = found ≡ Misfit
GivesRow found used rows.Bad = (cells : List CsvCell) × (found ≡ IsRow cells) × (used_values used cells ≡ None)

-- the columns with a row of values last
abbrev pub with_values : List Values → Row → List Values
with_values [] row = []
with_values (column ∷ columns) [] = column ∷ columns
with_values (column ∷ columns) (v ∷ row) = record column { values = column.values ++ v ∷ [] } ∷ with_values columns row

-- the columns with a row of values, where there is one, and how many rows there are more
abbrev pub GainsValues : List Values → Option Row → ℕ → List Values → Type 0
GainsValues old None rows new = (rows ≡ 0) × (new ≡ old)
GainsValues old (Some row) rows new = (rows ≡ 1) × (length row ≡ length old) × (new ≡ with_values old row)

-- the record at a place was read
abbrev pub StepsPlainly : Dialect → List ColType → List Bool → ℕ → Bool → ℕ → List ℕ → List Values → Result Step Fault → List Values → Type 0
StepsPlainly o kinds used file head at text old (Ok step) new = (row : Option Row) × GainsValues old row step.rows new
    × ((n : ℕ) → left (suc n) o kinds used head at text
    ≡ row_first at row (left n o kinds used step.head (at + (length text - length step.rest.now)) step.rest.now))
StepsPlainly o kinds used file head at text old (Err fault) new =
    (n : ℕ) → IsRefused file (left (suc n) o kinds used head at text).refusal fault

-- a record that is text, and what its row made of the columns
abbrev pub RowStepsPlainly : RowOf → List Bool → ℕ → ℕ → List Values → Result ℕ Fault → List Values → Type 0
RowStepsPlainly found used file at old (Ok rows) new = (row : Option Row) × GainsValues old row rows new
    × ((later : Reading) → read_of used (row_then false at found later) ≡ row_first at row (read_of used later))
RowStepsPlainly found used file at old (Err fault) new =
    (later : Reading) → IsRefused file (read_of used (row_then false at found later)).refusal fault

-- all records were read into columns without values
abbrev pub ReadsAllPlainly : ℕ → Read → List Values → Result (ℕ × Bool) Fault → List Values → Type 0
ReadsAllPlainly file read old (Ok answer) new = (read.refusal ≡ None) × (map (λ r. r.1) read.rows ≡ rows_of answer.0 new) × (read.head ≡ answer.1)
    × AreHigh answer.0 new × (column_kinds new ≡ column_kinds old)
ReadsAllPlainly file read old (Err fault) new = IsRefused file read.refusal fault
