-- The columns of a text of rows: their fields by the marks that end them, and what is made of these.
use Rattle.std.specs.Prelude.{◌≡◌, ◌<◌, ℕ, ℤ, zero, suc, ◌+◌, ◌*◌, Bool, false, if◌then◌else◌, Option, Some, None, IsUtf8, List, [], ◌∷◌, ◌++◌, map}
use Rattle.morsel_meaning.specs.declared.value.ColType.{ColType}
use Rattle.morsel_meaning.specs.declared.value.Value.TheVariants as values
use Rattle.morsel_frame.specs.Columns.{Values}
use Rattle.morsel_grammar.specs.Dialect.{Dialect}
use Rattle.morsel_grammar.specs.Grammar.{CsvField}
use Rattle.morsel_grammar.specs.Cells.{CsvCell, Good, cell_of}
use Rattle.morsel_marks.specs.ByMarks.{marked_field}
use Rattle.morsel_text.specs.RawFields.{shown}
use Rattle.morsel_text.specs.declared.raw_field.RawField.{RawField}

-- what a field says, where there is one
abbrev pub shown_field : Option RawField → Option CsvField
shown_field None = None
shown_field (Some f) = Some (shown f)

-- the field, and one without bytes where there is none
abbrev pub field_or_empty : Option CsvField → CsvField
field_or_empty None = record { quoted = false; bytes = [] }
field_or_empty (Some f) = f

-- the field before mark number `j`
abbrev pub field_before : Dialect → Bool → List ℕ → List ℕ → ℕ → CsvField
field_before o is_last text marks j = field_or_empty (marked_field o is_last text marks j)

-- there is a field before mark number `j`, and it is text
pub record IsTextField (o : Dialect) (is_last : Bool) (text marks : List ℕ) (j : ℕ) : Type 0 where
  pub found : marked_field o is_last text marks j ≡ Some (field_before o is_last text marks j)
  pub utf8 : IsUtf8 (field_before o is_last text marks j).bytes

-- the fields of a column in the first `n` rows of so many fields, of which the first is before mark number `first`
abbrev pub column_fields : Dialect → Bool → List ℕ → List ℕ → ℕ → ℕ → ℕ → List CsvField
column_fields o is_last text marks first width zero = []
column_fields o is_last text marks first width (suc n) =
    column_fields o is_last text marks first width n ++ field_before o is_last text marks (n * width + first) ∷ []

-- each row's field of a column is there, and is text
abbrev pub AreTextFields : Dialect → Bool → List ℕ → List ℕ → ℕ → ℕ → ℕ → Type 0
AreTextFields o is_last text marks first width n = (i : ℕ) → i < n → IsTextField o is_last text marks (i * width + first)

-- the column of these fields' values, where one is made
abbrev pub MakesValues : Dialect → ColType → List CsvField → Option Values → Type 0
MakesValues o kind fields None = Unit {0}
MakesValues o kind fields (Some column) = (column.kind ≡ kind) × (map Good column.values ≡ map (cell_of o kind) fields)

-- the number that a cell has, and whether it has one, where the cell is good
abbrev pub IsNumberCell : CsvCell → Option (Bool × ℤ) → Type 0
IsNumberCell cell None = Unit {0}
IsNumberCell cell (Some found) = cell ≡ Good (if found.0 then values.Int found.1 else values.Null)

-- the text of a cell was put last, and some text for a null
abbrev pub PutsText : CsvCell → List (List ℕ) → Bool → List (List ℕ) → Type 0
PutsText cell old is_text new = (text : List ℕ) × (new ≡ old ++ text ∷ []) × (cell ≡ Good (if is_text then values.Text text else values.Null))
