-- A text whose marks are those of rows, and what is read of it.
use Rattle.std.specs.Prelude.{◌≡◌, ◌<◌, ◌≤◌, ℕ, zero, suc, ◌+◌, ◌*◌, Bool, true, false, not, if◌then◌else◌, Option, Some, None, List, [], ◌∷◌, length, map, drop, IsUtf8}
use Rattle.std.specs.List.{range_with_len}
use Rattle.morsel_meaning.specs.declared.value.ColType.{ColType}
use Rattle.morsel_grammar.specs.Dialect.{Dialect, IsWithout}
use Rattle.morsel_grammar.specs.Grammar.{CsvField, Fields, BeginsUnquoted}
use Rattle.morsel_grammar.specs.Rows.{row_of, is_header}
use Rattle.morsel_grammar.specs.Split.{fields_record, record_at, last_field}
use Rattle.morsel_grammar.specs.Reading.{Malformed, Reading, ends, refuses, row_then, reading}
use Rattle.morsel_marks.specs.Marks.{field_ends, is_well_quoted}
use Rattle.morsel_marks.specs.ByMarks.{begin_after, AreRowMarks, AreMarksWithin, row_fields, with_rest, record_by_marks, field_bytes, marked_field}

-- the marks are those of `n` rows of `w + 1` fields, and the last of them ends the text
pub record AreRows (separator : ℕ) (text marks : List ℕ) (w n : ℕ) : Type 0 where
  pub count : length marks ≡ n * (w + 1)
  pub rows : (i : ℕ) → i < n → AreRowMarks separator text marks (i * (w + 1)) w
  pub whole : begin_after marks (n * (w + 1)) ≡ length text

-- the text is `n` rows of `w + 1` fields, as its marks tell: there are no comments, and each quote is well placed
pub record IsRowText (o : Dialect) (text : List ℕ) (w n : ℕ) : Type 0 where
  pub no_comment : o.comment ≡ None
  pub quoted : is_well_quoted o text ≡ true
  pub rows : AreRows o.separator text (field_ends o text) w n

-- the row of the fields of a record at a place, where each is whole, and then what is read later
abbrev pub fields_row_then : Dialect → List ColType → Bool → ℕ → Option (List CsvField) → (Bool → Reading) → Reading
fields_row_then o kinds head at None later = refuses head at Malformed
fields_row_then o kinds head at (Some fields) later =
    if head then later (not (is_header (Fields fields))) else row_then false at (row_of o kinds (Fields fields)) (later false)

-- what is read of `n` rows of `w + 1` fields, of which the first has the marks from number `j` on
abbrev pub marked_reading : Dialect → List ColType → Bool → ℕ → List ℕ → List ℕ → ℕ → ℕ → ℕ → Reading
marked_reading o kinds head at text marks w j zero = ends head
marked_reading o kinds head at text marks w j (suc n) = fields_row_then o kinds head (at + begin_after marks j) (row_fields o text marks j w)
    (λ awaits_header. marked_reading o kinds awaits_header at text marks w (j + w + 1) n)

-- a text whose quotes are well placed begins with the record that is split at its marks
abbrev pub SplitsAtMarks : Dialect → Type 0
SplitsAtMarks o = (text : List ℕ) → is_well_quoted o text ≡ true → record_at o text ≡ fields_record (record_by_marks o 0 text (field_ends o text))

-- after some marks, the record of a row is that of the fields between its marks
abbrev pub SplitsMarkedRows : Dialect → Type 0
SplitsMarkedRows o = (text : List ℕ) (j w : ℕ) → is_well_quoted o text ≡ true → (let marks = field_ends o text in
    j ≤ length marks → AreRowMarks o.separator text marks j w
    → record_at o (drop (begin_after marks j) text) ≡ fields_record (with_rest (drop (begin_after marks (j + w + 1)) text) (row_fields o text marks j w)))

-- the marks of a text whose quotes are well placed lie in it
abbrev pub KeepsMarksWithin : Dialect → Type 0
KeepsMarksWithin o = (text : List ℕ) → is_well_quoted o text ≡ true → AreMarksWithin text (field_ends o text)

-- a text of rows is read row by row, each field between its marks
abbrev pub ReadsAtMarks : Dialect → Type 0
ReadsAtMarks o = (kinds : List ColType) (head : Bool) (at : ℕ) (text : List ℕ) (w n : ℕ) → IsUtf8 text → IsRowText o text w n
    → reading o kinds head at text ≡ marked_reading o kinds head at text (field_ends o text) w 0 n

-- a field that does not begin with the quote is the bytes before its mark; the last of a record is so without a byte 13 at its end, where eol is 10
abbrev pub KeepsPlainFields : Dialect → Type 0
KeepsPlainFields o = (text : List ℕ) (j : ℕ) → is_well_quoted o text ≡ true → (let marks = field_ends o text in
    let f : CsvField = record { quoted = false; bytes = field_bytes text marks j } in
    j < length marks → BeginsUnquoted o.quote (field_bytes text marks j)
    → (marked_field o false text marks j ≡ Some f) × (marked_field o true text marks j ≡ Some (last_field o f)))

-- each mark of the rows has a field before it, the one of its number
pub record HasFields (o : Dialect) (text marks : List ℕ) (w n : ℕ) (field : ℕ → CsvField) : Type 0 where
  pub inner : (i c : ℕ) → i < n → c < w → marked_field o false text marks (i * (w + 1) + c) ≡ Some (field (i * (w + 1) + c))
  pub last : (i : ℕ) → i < n → marked_field o true text marks (i * (w + 1) + w) ≡ Some (field (i * (w + 1) + w))

-- `n` rows of `w + 1` fields, by the numbers of their marks, of which the first is `j`
abbrev pub rows_from : (ℕ → CsvField) → ℕ → ℕ → ℕ → List (List CsvField)
rows_from field w j zero = []
rows_from field w j (suc n) = map field (range_with_len j (w + 1)) ∷ rows_from field w (j + w + 1) n

-- the text is records of these fields, each of at least one byte
abbrev pub AreRecordsOf : Dialect → List ℕ → List (List CsvField) → Type 0
AreRecordsOf o text [] = text ≡ []
AreRecordsOf o text (fields ∷ rows) = (rest : List ℕ) × (record_at o text ≡ Some (Fields fields, rest)) × (length rest < length text) × AreRecordsOf o rest rows

-- a text of rows whose marks each have a field before them is records of these fields
abbrev pub HasMarkedRecords : Dialect → Type 0
HasMarkedRecords o = (text : List ℕ) (w n : ℕ) (field : ℕ → CsvField) → IsRowText o text w n → HasFields o text (field_ends o text) w n field
    → AreRecordsOf o text (rows_from field w 0 n)

-- without a byte 13 in such a text, each mark has a field before it
abbrev pub HasWholeFields : Dialect → Type 0
HasWholeFields o = (text : List ℕ) (j : ℕ) (is_last : Bool) → is_well_quoted o text ≡ true → IsWithout 13 text → j < length (field_ends o text)
    → (f : CsvField) × (marked_field o is_last text (field_ends o text) j ≡ Some f)
