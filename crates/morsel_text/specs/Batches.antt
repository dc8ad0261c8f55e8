-- Many records at once: their fields column by column, and what the columns gain.
use Rattle.std.specs.Prelude.{◌≡◌, ◌⊎◌, ℕ, ◌<◌, Bool, true, false, Option, Some, None, Result, Ok, Err, IsUtf8, List, [], ◌∷◌, ◌++◌, map, length, replicate, Vec}
use Rattle.std.specs.Borrow.{Bor}
use Rattle.std.specs.declared.alloc.Global.{Global}
use Rattle.morsel_meaning.specs.declared.value.ColType.{ColType}
use Rattle.morsel_meaning.specs.declared.fault.Fault.{Fault}
use Rattle.morsel_frame.specs.Columns.{Values}
use Rattle.morsel_grammar.specs.Dialect.{Dialect}
use Rattle.morsel_grammar.specs.Grammar.{Fields}
use Rattle.morsel_meaning.specs.declared.value.Value.TheVariants as values
use Rattle.morsel_grammar.specs.Cells.{CsvCell, Good, cell_of}
use Rattle.morsel_grammar.specs.Rows.{is_empty}
use Rattle.morsel_grammar.specs.Split.{record_at}
use Rattle.morsel_text.specs.RawFields.{shown}
use Rattle.morsel_text.specs.Pushes.{AreTexts, column_kinds}
use Rattle.morsel_text.specs.Steps.{StepsTo}
use Rattle.morsel_text.specs.declared.raw_field.RawField.{RawField}
use Rattle.morsel_text.specs.declared.reader.Step.{Step}
use Rattle.morsel_text.specs.declared.ints.IntCell.{IntCell}
use Rattle.morsel_text.specs.declared.ints.IntCell.TheVariants as ints

-- each column with its entry of the row last
abbrev pub spread : {A : Type 0} → List (List A) → List A → List (List A)
spread [] row = []
spread (column ∷ columns) [] = column ∷ columns
spread (column ∷ columns) (x ∷ row) = (column ++ x ∷ []) ∷ spread columns row

-- the columns with row after row
abbrev pub spread_all : {A : Type 0} → List (List A) → List (List A) → List (List A)
spread_all columns [] = columns
spread_all columns (row ∷ rows) = spread_all (spread columns row) rows

-- the text begins with these records, each with bytes and so many fields, and this follows them
abbrev pub SplitsRows : Dialect → ℕ → List ℕ → List (List RawField) → List ℕ → Type 0
SplitsRows o width text [] rest = rest ≡ text
SplitsRows o width text (fields ∷ rows) rest = (after : List ℕ) × (record_at o text ≡ Some (Fields (map shown fields), after)) × (length after < length text)
    × (length fields ≡ width) × (is_empty (map shown fields) ≡ false) × SplitsRows o width after rows rest

-- the columns of fields gained those of so many records, which the text begins with
abbrev pub SplitsBatch : Dialect → List ℕ → List (List RawField) → List ℕ × ℕ → List (List RawField) → Type 0
SplitsBatch o text old found new = (lines : List (List RawField)) × (length lines ≡ found.1) × SplitsRows o (length old) text lines found.0 × (new ≡ spread_all old lines)

-- the fields of each column are texts
abbrev pub AreTextColumns : List (List RawField) → Type 0
AreTextColumns [] = Unit {0}
AreTextColumns (fields ∷ columns) = AreTexts (map shown fields) × AreTextColumns columns

-- the column of these fields' values
abbrev pub IsColumnOf : Dialect → ColType → List RawField → Values → Type 0
IsColumnOf o kind fields column = (column.kind ≡ kind) × (map Good column.values ≡ map (λ f. cell_of o kind (shown f)) fields)

-- a column of values for each that is used, and one without values for each other
abbrev pub AreMade : Dialect → List Bool → List ColType → List (List RawField) → List Values → Type 0
AreMade o [] [] [] [] = Unit {0}
AreMade o (true ∷ used) (kind ∷ kinds) (fields ∷ batch) (column ∷ made) = IsColumnOf o kind fields column × AreMade o used kinds batch made
AreMade o (false ∷ used) (kind ∷ kinds) (fields ∷ batch) (column ∷ made) = (column.kind ≡ kind) × (column.values ≡ []) × AreMade o used kinds batch made
AreMade o used kinds batch made = ⊥

-- what a field says in a column of numbers
abbrev pub IsIntCell : CsvCell → IntCell → Type 0
IsIntCell cell (ints.Number n) = cell ≡ Good (values.Int n)
IsIntCell cell ints.Null = cell ≡ Good values.Null
IsIntCell cell ints.Bad = Unit {0}

-- the column of these fields' values, where one is made
abbrev pub MakesColumn : Dialect → ColType → List RawField → Option Values → Type 0
MakesColumn o kind fields None = Unit {0}
MakesColumn o kind fields (Some column) = IsColumnOf o kind fields column

-- the columns of all fields' values, where they are made
abbrev pub MakesAll : Dialect → List Bool → List ColType → List (List RawField) → Option (Vec Values Global) → Type 0
MakesAll o used kinds batch None = Unit {0}
MakesAll o used kinds batch (Some made) = AreMade o used kinds batch made.items

-- the columns with the values of those that were made last
abbrev pub appended : List Values → List Values → List Values
appended [] made = []
appended (column ∷ columns) [] = column ∷ columns
appended (column ∷ columns) (new ∷ made) = record column { values = column.values ++ new.values } ∷ appended columns made

-- the rows of so many records, which the text begins with, were put into the columns
abbrev pub PutsRows : Dialect → List Bool → List ℕ → List Values → List ℕ → ℕ → List Values → Type 0
PutsRows o used text old rest rows new = (lines : List (List RawField)) × (made : List Values) × (length lines ≡ rows) × (0 < rows)
    × SplitsRows o (length old) text lines rest × AreMade o used (column_kinds old) (spread_all (replicate (length old) []) lines) made
    × (new ≡ appended old made)

-- the rows of the first records of a text were put into the columns, or nothing was changed
abbrev pub ReadsBatch : Dialect → List Bool → List ℕ → List Values → Option (Bor (List ℕ) × ℕ) → List Values → Type 0
ReadsBatch o used text old None new = new ≡ old
ReadsBatch o used text old (Some found) new = PutsRows o used text old found.0.now found.1 new

-- one record was read, or a batch of rows after the header
abbrev pub TurnsTo : Dialect → List Bool → ℕ → Bool → ℕ → List ℕ → List Values → Result Step Fault → List Values → Type 0
TurnsTo o used file head at text old (Ok step) new = StepsTo o used file head at text old (Ok step) new
    ⊎ ((head ≡ false) × (step.head ≡ false) × IsUtf8 text × PutsRows o used text old step.rest.now step.rows new)
TurnsTo o used file head at text old (Err fault) new = StepsTo o used file head at text old (Err fault) new
