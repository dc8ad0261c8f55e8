-- A text of rows whose fields are all there, and what reading it by its marks makes of the columns.
use Rattle.std.specs.Prelude.{◌≡◌, ◌<◌, ℕ, zero, suc, ◌+◌, Bool, true, false, not, ◌==◌, Option, Some, None, List, [], ◌∷◌, length, map, get_or}
use Rattle.std.specs.List.{range_with_len}
use Rattle.morsel_frame.specs.Columns.{Values}
use Rattle.morsel_grammar.specs.Dialect.{Dialect}
use Rattle.morsel_grammar.specs.Grammar.{CsvField}
use Rattle.morsel_grammar.specs.Rows.{is_empty}
use Rattle.morsel_marks.specs.ByMarks.{marked_field}
use Rattle.morsel_text.specs.declared.raw_field.RawField.{RawField}
use Rattle.morsel_text.specs.declared.raw_field.RawField.TheVariants as raws
use Rattle.morsel_text.specs.Batches.{PutsRows}
use Rattle.morsel_text.specs.MarkedColumns.{field_before}

-- whether a record ends at mark number `j`
abbrev pub ends_record : Dialect → List ℕ → List ℕ → ℕ → Bool
ends_record o text marks j = not (get_or text (get_or marks j 0) 0 == o.separator)

-- the field before mark number `j`
abbrev pub field_of_mark : Dialect → List ℕ → List ℕ → ℕ → CsvField
field_of_mark o text marks j = field_before o (ends_record o text marks j) text marks j

-- each mark has a field before it, and where each record has one field, none is without bytes
pub record AreWholeFields (o : Dialect) (width : ℕ) (text marks : List ℕ) : Type 0 where
  pub found : (j : ℕ) → j < length marks → marked_field o (ends_record o text marks j) text marks j ≡ Some (field_of_mark o text marks j)
  pub filled : width ≡ 1 → (j : ℕ) → j < length marks → is_empty (field_of_mark o text marks j ∷ []) ≡ false

-- a field as if it were written in a text
abbrev pub raw_of : CsvField → RawField
raw_of f = written f.quoted f.bytes
  where
    written : Bool → List ℕ → RawField
    written true bytes = raws.Quoted (record { ref_ptr = (0, 0); now = bytes })
    written false bytes = raws.Plain (record { ref_ptr = (0, 0); now = bytes })

-- the fields of a column in rows of `w + 1` fields, of which the first is before mark number `first`
abbrev pub raw_column : (ℕ → RawField) → ℕ → ℕ → ℕ → List RawField
raw_column raw w first zero = []
raw_column raw w first (suc n) = raw first ∷ raw_column raw w (first + w + 1) n

-- the fields of each column in `n` rows of `w + 1` fields
abbrev pub raw_columns : (ℕ → RawField) → ℕ → ℕ → List (List RawField)
raw_columns raw w n = map (λ c. raw_column raw w c n) (range_with_len 0 (w + 1))

-- all rows of the text were put into the columns, or nothing was changed
abbrev pub ReadsMarked : Dialect → List Bool → List ℕ → List Values → Option ℕ → List Values → Type 0
ReadsMarked o used text old None new = new ≡ old
ReadsMarked o used text old (Some rows) new = PutsRows o used text old [] rows new
