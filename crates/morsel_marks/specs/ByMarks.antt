-- A record split at the ends of its fields.
use Rattle.std.specs.Prelude.{◌≡◌, ◌<◌, length, ℕ, zero, suc, ◌+◌, ◌-◌, Bool, true, false, ◌&&◌, ◌==◌, if◌then◌else◌, Option, Some, None, List, [], ◌∷◌, take, drop, get_or}
use Rattle.morsel_grammar.specs.Dialect.{Dialect}
use Rattle.morsel_grammar.specs.Grammar.{CsvField}
use Rattle.morsel_grammar.specs.Split.{field_at, last_field, with_field}

-- the field that is the whole of these bytes, but for a byte 13 that belongs to the end of the record
abbrev pub whole_field : Dialect → Bool → Option (CsvField × List ℕ) → Option CsvField
whole_field o is_last None = None
whole_field o is_last (Some found) = only found.0 found.1
  where
    only : CsvField → List ℕ → Option CsvField
    only f [] = if is_last then Some (last_field o f) else Some f
    only f (b ∷ []) = if is_last && (b == 13 && o.eol == 10) then Some (last_field o f) else None
    only f (b ∷ c ∷ bs) = None

-- the field that stands between two marks
abbrev pub field_between : Dialect → Bool → List ℕ → Option CsvField
field_between o is_last raw = whole_field o is_last (field_at o raw)

-- the record ends after this field, where there is one
abbrev pub last_then : Option CsvField → List ℕ → Option (List CsvField × List ℕ)
last_then None rest = None
last_then (Some f) rest = Some (f ∷ [], rest)

-- this field, where there is one, and then the fields that were found
abbrev pub field_then : Option CsvField → Option (List CsvField × List ℕ) → Option (List CsvField × List ℕ)
field_then None later = None
field_then (Some f) later = with_field f later

-- the record that a text begins with, which begins at `at` and whose marks these are, and the rest
abbrev pub record_by_marks : Dialect → ℕ → List ℕ → List ℕ → Option (List CsvField × List ℕ)
record_by_marks o at text [] = last_then (field_between o true text) []
record_by_marks o at text (m ∷ marks) =
    if get_or text (m - at) 0 == o.separator
    then field_then (field_between o false (take (m - at) text)) (record_by_marks o (m + 1) (drop (m - at + 1) text) marks)
    else last_then (field_between o true (take (m - at) text)) (drop (m - at + 1) text)

-- the place where the field after so many marks begins
abbrev pub begin_after : List ℕ → ℕ → ℕ
begin_after marks zero = 0
begin_after marks (suc j) = get_or marks j 0 + 1

-- the marks from number `j` on are those of a row of `w + 1` fields
pub record AreRowMarks (separator : ℕ) (text marks : List ℕ) (j w : ℕ) : Type 0 where
  pub enough : j + w < length marks
  pub separated : (i : ℕ) → i < w → (get_or text (get_or marks (j + i) 0) 0 == separator) ≡ true
  pub ended : (get_or text (get_or marks (j + w) 0) 0 == separator) ≡ false

-- the bytes of the field before mark number `j`
abbrev pub field_bytes : List ℕ → List ℕ → ℕ → List ℕ
field_bytes text marks j = take (get_or marks j 0 - begin_after marks j) (drop (begin_after marks j) text)

-- the field before mark number `j`
abbrev pub marked_field : Dialect → Bool → List ℕ → List ℕ → ℕ → Option CsvField
marked_field o is_last text marks j = field_between o is_last (field_bytes text marks j)

-- the fields before so many marks from number `j` on, and the last field after them
abbrev pub row_fields : Dialect → List ℕ → List ℕ → ℕ → ℕ → Option (List CsvField)
row_fields o text marks j zero = listed (marked_field o true text marks j)
  where
    listed : Option CsvField → Option (List CsvField)
    listed None = None
    listed (Some f) = Some (f ∷ [])
row_fields o text marks j (suc w) = before (marked_field o false text marks j) (row_fields o text marks (j + 1) w)
  where
    before : Option CsvField → Option (List CsvField) → Option (List CsvField)
    before None fields = None
    before (Some f) None = None
    before (Some f) (Some fields) = Some (f ∷ fields)

-- the fields, where there are any, and the rest of the text
abbrev pub with_rest : List ℕ → Option (List CsvField) → Option (List CsvField × List ℕ)
with_rest rest None = None
with_rest rest (Some fields) = Some (fields, rest)

-- each mark lies in the text
abbrev pub AreMarksWithin : List ℕ → List ℕ → Type 0
AreMarksWithin text marks = (k : ℕ) → k < length marks → get_or marks k 0 < length text
