-- A text of rows, by its marks: its records, and the columns of their fields.
use Rattle.std.proofs.Common.{◌≡◌, ◌≢◌, refl, ℕ, zero, suc, ◌+◌, ◌*◌, ◌<◌, ◌≤◌, ◌∙◌, sym, ap, subst, arith, Bool, true, false, not, ◌==◌, List, [], ◌∷◌, ◌++◌, length, get_or, map, replicate, Option, Some, None}
use Rattle.std.specs.Prelude.{IsUtf8}
use Rattle.std.specs.List.{range_with_len}
use Rattle.std.specs.Option.{is_some}
use Rattle.memchr.specs.Find.{IsFirstByte, is_byte}
use Rattle.std.proofs.lemmas.Bool.{eqb-true, eqb-false}
use Rattle.std.proofs.lemmas.List.{map-append}
use Rattle.std.proofs.lemmas.List.FromFn.{length-map-range_with_len, get_or-map-range_with_len}
use Rattle.std.proofs.lemmas.Str.{IsUtf8-from_is_utf8}
use Rattle.morsel_meaning.specs.declared.value.ColType.{ColType}
use Rattle.morsel_frame.specs.Columns.{Values}
use Rattle.morsel_grammar.specs.Dialect.{Dialect, IsDialect, IsWithout}
use Rattle.morsel_grammar.specs.Grammar.{CsvField, Fields}
use Rattle.morsel_grammar.specs.Cells.{CsvCell, cell_of}
use Rattle.morsel_grammar.specs.Rows.{is_empty}
use Rattle.morsel_grammar.specs.Split.{record_at}
use Rattle.morsel_marks.specs.Marks.{is_well_quoted, field_ends}
use Rattle.morsel_marks.specs.ByMarks.{AreRowMarks, marked_field}
use Rattle.morsel_marks.specs.MarkedRows.{AreRows, IsRowText, HasFields, rows_from, AreRecordsOf}
use Rattle.morsel_marks.proofs.RecordsLemmas.{has_marked_records}
use Rattle.morsel_marks.proofs.WholeLemmas.{has_whole_fields}
use Rattle.morsel_text.specs.declared.raw_field.RawField.{RawField}
use Rattle.morsel_text.specs.RawFields.{shown}
use Rattle.morsel_text.specs.Pushes.{AreTexts, column_kinds}
use Rattle.morsel_text.specs.Batches.{spread_all, SplitsRows, IsColumnOf, AreMade, appended, PutsRows}
use Rattle.morsel_text.specs.MarkedColumns.{field_or_empty, field_before, IsTextField, column_fields, AreTextFields, MakesValues}
use Rattle.morsel_text.specs.MarkedReads.{ends_record, field_of_mark, AreWholeFields, raw_of, raw_column, raw_columns}
use Rattle.morsel_text.proofs.TextLemmas.{record_texts}
use Rattle.morsel_text.proofs.BatchLemmas.{text_behind, some_bytes, with_first, columns_by, columns_spread}

-- ---- the fields before the marks

found_field : (x : Option CsvField) (f : CsvField) → x ≡ Some f → x ≡ Some (field_or_empty x)
found_field None f is = absurd (cc)
found_field (Some g) f is = refl

-- a byte that is found nowhere
pub is_without : (byte : ℕ) (text : List ℕ) → ((k : ℕ) → k < length text → (get_or text k 0 == byte) ≡ true → ⊥) → IsWithout byte text
is_without byte [] none = tt
is_without byte (b ∷ bs) none = (λ is. none 0 (omega arith) (eqb-same b byte is), is_without byte bs (λ k below. none (suc k) (omega (arith, below))))
  where
    eqb-same : (a c : ℕ) → a ≡ c → (a == c) ≡ true
    eqb-same a c same = by (a == c) refl
      where
        by : (t : Bool) → (a == c) ≡ t → (a == c) ≡ true
        by true is = is
        by false is = absurd (eqb-false a c is same)

pub found_nowhere : (byte : ℕ) (text : List ℕ) (found : Option ℕ) → IsFirstByte (is_byte byte) text found → is_some found ≡ false → IsWithout byte text
found_nowhere byte text None is none = is_without byte text (λ k below same. is k (omega arith) below same)
found_nowhere byte text (Some k) is none = absurd (cc)

-- without a byte 13 each mark has a field before it
pub whole_without : (o : Dialect) (width : ℕ) (text : List ℕ) → IsDialect o → width ≢ 1 → is_well_quoted o text ≡ true → IsWithout 13 text
    → AreWholeFields o width text (field_ends o text)
whole_without o width text fit several quoted without = record {
  found = λ j below. (let field = has_whole_fields o fit text j (ends_record o text (field_ends o text) j) quoted without below in found_field _ field.0 field.1);
  filled = λ one. absurd (several one);
}

-- the marks up to number `j` have fields before them
pub record WholeSoFar (o : Dialect) (width : ℕ) (text marks : List ℕ) (j : ℕ) : Type 0 where
  pub found : (k : ℕ) → k < j → marked_field o (ends_record o text marks k) text marks k ≡ Some (field_of_mark o text marks k)
  pub filled : width ≡ 1 → (k : ℕ) → k < j → is_empty (field_of_mark o text marks k ∷ []) ≡ false

pub none_found : (o : Dialect) (width : ℕ) (text marks : List ℕ) → WholeSoFar o width text marks 0
none_found o width text marks = record {
  found = λ k below. absurd (omega arith);
  filled = λ one k below. absurd (omega arith);
}

-- what holds of numbers below `j`, and of `j`, holds of those below the next
below_next : (P : ℕ → Type 0) (j : ℕ) → ((k : ℕ) → k < j → P k) → P j → (k : ℕ) → k < j + 1 → P k
below_next P j before at k below = by (k == j) refl
  where
    by : (b : Bool) → (k == j) ≡ b → P k
    by true is = subst P (sym (eqb-true k j is)) at
    by false is = before k (omega (arith, eqb-false k j is))

pub whole_more : (o : Dialect) (width : ℕ) (text marks : List ℕ) (j : ℕ) (f : CsvField) → WholeSoFar o width text marks j
    → marked_field o (ends_record o text marks j) text marks j ≡ Some f → (width ≡ 1 → is_empty (f ∷ []) ≡ false) → WholeSoFar o width text marks (j + 1)
whole_more o width text marks j f so_far found filled =
    let is : field_of_mark o text marks j ≡ f = ap field_or_empty found in record {
      found = below_next (λ k. marked_field o (ends_record o text marks k) text marks k ≡ Some (field_of_mark o text marks k)) j so_far.found (found_field _ f found);
      filled = λ one. below_next (λ k. is_empty (field_of_mark o text marks k ∷ []) ≡ false) j (so_far.filled one)
          (ap (λ (g : CsvField). is_empty (g ∷ [])) is ∙ filled one);
    }

pub whole_all : (o : Dialect) (width : ℕ) (text marks : List ℕ) (j : ℕ) → WholeSoFar o width text marks j → length marks ≤ j → AreWholeFields o width text marks
whole_all o width text marks j so_far all = record {
  found = λ k below. so_far.found k (omega (arith, below, all));
  filled = λ one k below. so_far.filled one k (omega (arith, below, all));
}

-- the fields of rows, by the numbers of their marks
pub has_fields : (o : Dialect) (text marks : List ℕ) (w n : ℕ) → AreRows o.separator text marks w n → AreWholeFields o (w + 1) text marks
    → HasFields o text marks w n (field_of_mark o text marks)
has_fields o text marks w n rows whole = record {
  inner = λ i c below less. (
      let row = rows.rows i below in
      let j = i * (w + 1) + c in
      let is : ends_record o text marks j ≡ false = ap not (row.separated c less) in
      subst (λ (b : Bool). marked_field o b text marks j ≡ Some (field_of_mark o text marks j)) is (whole.found j (omega (arith, row.enough, less))));
  last = λ i below. (
      let row = rows.rows i below in
      let j = i * (w + 1) + w in
      let is : ends_record o text marks j ≡ true = ap not row.ended in
      subst (λ (b : Bool). marked_field o b text marks j ≡ Some (field_of_mark o text marks j)) is (whole.found j (omega (arith, row.enough))));
}

-- ---- the records

shown_written : (quoted : Bool) (bytes : List ℕ) → (let f : CsvField = record { quoted = quoted; bytes = bytes } in shown (raw_of f) ≡ f)
shown_written true bytes = refl
shown_written false bytes = refl

pub shown_raw : (f : CsvField) → shown (raw_of f) ≡ f
shown_raw f = shown_written f.quoted f.bytes

shown_row : (field : ℕ → CsvField) (js : List ℕ) → map shown (map (λ j. raw_of (field j)) js) ≡ map field js
shown_row field [] = refl
shown_row field (j ∷ js) = ap (λ (f : CsvField). f ∷ map shown (map (λ k. raw_of (field k)) js)) (shown_raw (field j)) ∙ ap (λ (fs : List CsvField). field j ∷ fs) (shown_row field js)

-- `n` rows of `w + 1` fields, of which the first is before mark number `j`
abbrev pub raw_rows : (ℕ → RawField) → ℕ → ℕ → ℕ → List (List RawField)
raw_rows raw w j zero = []
raw_rows raw w j (suc n) = map raw (range_with_len j (w + 1)) ∷ raw_rows raw w (j + w + 1) n

pub length-raw_rows : (raw : ℕ → RawField) (w j n : ℕ) → length (raw_rows raw w j n) ≡ n
length-raw_rows raw w j zero = refl
length-raw_rows raw w j (suc n) = ap suc (length-raw_rows raw w (j + w + 1) n)

-- no field up to a mark is a record without bytes
abbrev pub AreFilled : (ℕ → CsvField) → ℕ → ℕ → Type 0
AreFilled field w to = w ≡ 0 → (k : ℕ) → k < to → is_empty (field k ∷ []) ≡ false

row_filled : (w : ℕ) (field : ℕ → CsvField) (j to : ℕ) → AreFilled field w to → j < to → is_empty (map field (range_with_len j (w + 1))) ≡ false
row_filled zero field j to filled below = filled refl j below
row_filled (suc w) field j to filled below =
    let more : suc w + 1 ≡ suc (suc w) = omega arith in ap (λ (m : ℕ). is_empty (map field (range_with_len j m))) more

raw_splits : (n : ℕ) (o : Dialect) (text : List ℕ) (field : ℕ → CsvField) (w j : ℕ) → AreRecordsOf o text (rows_from field w j n) → AreFilled field w (j + n * (w + 1))
    → SplitsRows o (w + 1) text (raw_rows (λ k. raw_of (field k)) w j n) []
raw_splits zero o text field w j is filled = sym is
raw_splits (suc n) o text field w j (rest, found, shorter, later) filled =
    let fields = map field (range_with_len j (w + 1)) in
    let raws = map (λ k. raw_of (field k)) (range_with_len j (w + 1)) in
    let same : map shown raws ≡ fields = shown_row field (range_with_len j (w + 1)) in
    let end : j + suc n * (w + 1) ≡ j + w + 1 + n * (w + 1) = omega arith in (
      rest,
      subst (λ (fs : List CsvField). record_at o text ≡ Some (Fields fs, rest)) (sym same) found,
      shorter,
      length-map-range_with_len (λ k. raw_of (field k)) j (w + 1),
      ap is_empty same ∙ row_filled w field j (j + suc n * (w + 1)) filled (omega arith),
      raw_splits n o rest field w (j + w + 1) later (subst (λ (to : ℕ). AreFilled field w to) end filled),
    )

entry_text : (m : ℕ) (field : ℕ → CsvField) (j c : ℕ) → AreTexts (map field (range_with_len j m)) → c < m → IsUtf8 (field (j + c)).bytes
entry_text zero field j c texts less = absurd (omega arith)
entry_text (suc m) field j zero texts less = let same : j ≡ j + 0 = omega arith in subst (λ (k : ℕ). IsUtf8 (field k).bytes) same texts.0
entry_text (suc m) field j (suc c) texts less =
    let same : j + 1 + c ≡ j + suc c = omega arith in subst (λ (k : ℕ). IsUtf8 (field k).bytes) same (entry_text m field (j + 1) c texts.1 (omega arith))

row_texts : (n : ℕ) (o : Dialect) (field : ℕ → CsvField) (w j : ℕ) (text : List ℕ) → IsDialect o → AreRecordsOf o text (rows_from field w j n) → IsUtf8 text
    → (i c : ℕ) → i < n → c < w + 1 → IsUtf8 (field (j + i * (w + 1) + c)).bytes
row_texts zero o field w j text fit is utf8 i c below less = absurd (omega arith)
row_texts (suc n) o field w j text fit (rest, found, shorter, later) utf8 zero c below less =
    let fields = map field (range_with_len j (w + 1)) in
    let cut = text_behind o text rest (Fields fields) fit (some_bytes text (length rest) shorter) found utf8 in
    let same : j + c ≡ j + 0 * (w + 1) + c = omega arith in
    subst (λ (k : ℕ). IsUtf8 (field k).bytes) same (entry_text (w + 1) field j c (record_texts o text rest fields fit found (IsUtf8-from_is_utf8 _ cut.0)) less)
row_texts (suc n) o field w j text fit (rest, found, shorter, later) utf8 (suc i) c below less =
    let cut = text_behind o text rest (Fields (map field (range_with_len j (w + 1)))) fit (some_bytes text (length rest) shorter) found utf8 in
    let same : j + w + 1 + i * (w + 1) + c ≡ j + suc i * (w + 1) + c = omega arith in
    subst (λ (k : ℕ). IsUtf8 (field k).bytes) same (row_texts n o field w (j + w + 1) rest fit later cut.1 i c (omega arith) less)

-- ---- the columns of the rows

no_fields : (m j : ℕ) → (let none : List (List RawField) = replicate m [] in none ≡ map (λ c. []) (range_with_len j m))
no_fields zero j = refl
no_fields (suc m) j = ap (λ (fields : List (List RawField)). [] ∷ fields) (no_fields m (j + 1))

first_fields : (m : ℕ) (raw : ℕ → RawField) (w n j : ℕ)
    → with_first (map raw (range_with_len j m)) (map (λ c. raw_column raw w c n) (range_with_len (j + w + 1) m)) ≡ map (λ c. raw_column raw w c (suc n)) (range_with_len j m)
first_fields zero raw w n j = refl
first_fields (suc m) raw w n j =
    let same : j + w + 1 + 1 ≡ j + 1 + w + 1 = omega arith in
    ap (λ (k : ℕ). raw_column raw w j (suc n) ∷ with_first (map raw (range_with_len (j + 1) m)) (map (λ c. raw_column raw w c n) (range_with_len k m))) same
    ∙ ap (λ (fields : List (List RawField)). raw_column raw w j (suc n) ∷ fields) (first_fields m raw w n (j + 1))

turned : (n : ℕ) (raw : ℕ → RawField) (w j : ℕ) → columns_by (w + 1) (raw_rows raw w j n) ≡ map (λ c. raw_column raw w c n) (range_with_len j (w + 1))
turned zero raw w j = no_fields (w + 1) j
turned (suc n) raw w j =
    ap (λ (fields : List (List RawField)). with_first (map raw (range_with_len j (w + 1))) fields) (turned n raw w (j + w + 1)) ∙ first_fields (w + 1) raw w n j

pub columns_turned : (raw : ℕ → RawField) (w n : ℕ) → spread_all (replicate (w + 1) []) (raw_rows raw w 0 n) ≡ raw_columns raw w n
columns_turned raw w n = columns_spread (w + 1) (raw_rows raw w 0 n) ∙ turned n raw w 0

pub length-raw_columns : (raw : ℕ → RawField) (w n : ℕ) → length (raw_columns raw w n) ≡ w + 1
length-raw_columns raw w n = length-map-range_with_len (λ c. raw_column raw w c n) 0 (w + 1)

pub raw_column_at : (raw : ℕ → RawField) (w n c : ℕ) (d : List RawField) → c < w + 1 → get_or (raw_columns raw w n) c d ≡ raw_column raw w c n
raw_column_at raw w n c d less = get_or-map-range_with_len (λ k. raw_column raw w k n) 0 (w + 1) c c d less (omega arith)

-- ---- one column

raw_more : (n : ℕ) (raw : ℕ → RawField) (w first : ℕ) → raw_column raw w first (suc n) ≡ raw_column raw w first n ++ raw (n * (w + 1) + first) ∷ []
raw_more zero raw w first = let same : first ≡ 0 * (w + 1) + first = omega arith in ap (λ (k : ℕ). raw k ∷ []) same
raw_more (suc n) raw w first =
    let same : n * (w + 1) + (first + w + 1) ≡ suc n * (w + 1) + first = omega arith in
    ap (λ (fields : List RawField). raw first ∷ fields) (raw_more n raw w (first + w + 1))
    ∙ ap (λ (k : ℕ). raw first ∷ (raw_column raw w (first + w + 1) n ++ raw k ∷ [])) same

-- whether the field of a row is its last
pub end_at : (o : Dialect) (text marks : List ℕ) (w n i c : ℕ) → AreRows o.separator text marks w n → i < n → c < w + 1
    → ends_record o text marks (i * (w + 1) + c) ≡ (c + 1 == w + 1)
end_at o text marks w n i c rows below less = by (c + 1 == w + 1) refl
  where
    row : AreRowMarks o.separator text marks (i * (w + 1)) w
    row = rows.rows i below

    by : (b : Bool) → (c + 1 == w + 1) ≡ b → ends_record o text marks (i * (w + 1) + c) ≡ (c + 1 == w + 1)
    by true is = (let same : c ≡ w = omega (arith, eqb-true (c + 1) (w + 1) is) in subst (λ (k : ℕ). ends_record o text marks (i * (w + 1) + k) ≡ true) (sym same) (ap not row.ended)) ∙ sym is
    by false is = ap not (row.separated c (omega (arith, eqb-false (c + 1) (w + 1) is))) ∙ sym is

-- the fields of a column, in the order of rows
shown_column : (n : ℕ) (o : Dialect) (text marks : List ℕ) (w all c : ℕ) → AreRows o.separator text marks w all → n ≤ all → c < w + 1
    → map shown (raw_column (λ j. raw_of (field_of_mark o text marks j)) w c n) ≡ column_fields o (c + 1 == w + 1) text marks c (w + 1) n
shown_column zero o text marks w all c rows within less = refl
shown_column (suc n) o text marks w all c rows within less =
    let raw : ℕ → RawField = λ j. raw_of (field_of_mark o text marks j) in
    let j = n * (w + 1) + c in
    ap (map shown) (raw_more n raw w c)
    ∙ map-append shown (raw_column raw w c n) (raw j ∷ [])
    ∙ ap (λ (fields : List CsvField). fields ++ shown (raw j) ∷ []) (shown_column n o text marks w all c rows (omega arith) less)
    ∙ ap (λ (f : CsvField). column_fields o (c + 1 == w + 1) text marks c (w + 1) n ++ f ∷ []) (shown_raw (field_of_mark o text marks j))
    ∙ ap (λ (b : Bool). column_fields o (c + 1 == w + 1) text marks c (w + 1) n ++ field_before o b text marks j ∷ []) (end_at o text marks w all n c rows (omega arith) less)

cells_shown : (o : Dialect) (kind : ColType) (fields : List RawField) → map (λ f. cell_of o kind (shown f)) fields ≡ map (cell_of o kind) (map shown fields)
cells_shown o kind [] = refl
cells_shown o kind (f ∷ fields) = ap (λ (cells : List CsvCell). cell_of o kind (shown f) ∷ cells) (cells_shown o kind fields)

-- the column that was made of its fields
pub column_made : (o : Dialect) (kind : ColType) (text marks : List ℕ) (w n c : ℕ) (column : Values) → AreRows o.separator text marks w n → c < w + 1
    → MakesValues o kind (column_fields o (c + 1 == w + 1) text marks c (w + 1) n) (Some column)
    → IsColumnOf o kind (raw_column (λ j. raw_of (field_of_mark o text marks j)) w c n) column
column_made o kind text marks w n c column rows less made = (
  made.0,
  made.1 ∙ sym (cells_shown o kind (raw_column (λ j. raw_of (field_of_mark o text marks j)) w c n)
      ∙ ap (map (cell_of o kind)) (shown_column n o text marks w n c rows (omega arith) less)),
)

-- ---- the whole text

-- what is known of a text of rows that are whole
pub record IsWholeText (o : Dialect) (text marks : List ℕ) (w n : ℕ) : Type 0 where
  pub fit : IsDialect o
  pub utf8 : IsUtf8 text
  pub text_is : IsRowText o text w n
  pub marks_are : marks ≡ field_ends o text
  pub whole : AreWholeFields o (w + 1) text marks

pub rows_of_text : (o : Dialect) (text marks : List ℕ) (w n : ℕ) → IsWholeText o text marks w n → AreRows o.separator text marks w n
rows_of_text o text marks w n is = subst (λ (ms : List ℕ). AreRows o.separator text ms w n) (sym is.marks_are) is.text_is.rows

records_of_text : (o : Dialect) (text marks : List ℕ) (w n : ℕ) → IsWholeText o text marks w n → AreRecordsOf o text (rows_from (field_of_mark o text marks) w 0 n)
records_of_text o text marks w n is =
    has_marked_records o is.fit text w n (field_of_mark o text marks) is.text_is
    (subst (λ (ms : List ℕ). HasFields o text ms w n (field_of_mark o text marks)) is.marks_are (has_fields o text marks w n (rows_of_text o text marks w n is) is.whole))

pub text_fields : (o : Dialect) (text marks : List ℕ) (w n c : ℕ) → IsWholeText o text marks w n → c < w + 1 → AreTextFields o (c + 1 == w + 1) text marks c (w + 1) n
text_fields o text marks w n c is less = λ i below.
    (let rows = rows_of_text o text marks w n is in
    let j = i * (w + 1) + c in
    let row = rows.rows i below in
    let same = end_at o text marks w n i c rows below less in
    let zero_on : 0 + i * (w + 1) + c ≡ j = omega arith in
    let utf8 = subst (λ (k : ℕ). IsUtf8 (field_of_mark o text marks k).bytes) zero_on
    (row_texts n o (field_of_mark o text marks) w 0 text is.fit (records_of_text o text marks w n is) is.utf8 i c below less) in
    let field : IsTextField o (ends_record o text marks j) text marks j = record { found = is.whole.found j (omega (arith, row.enough)); utf8 = utf8 } in
    subst (λ (b : Bool). IsTextField o b text marks j) same field)

-- all its rows were put into the columns
pub puts_marked : (o : Dialect) (used : List Bool) (text marks : List ℕ) (w n : ℕ) (old made : List Values) → IsWholeText o text marks w n → length old ≡ w + 1 → 0 < n
    → AreMade o used (column_kinds old) (raw_columns (λ j. raw_of (field_of_mark o text marks j)) w n) made
    → PutsRows o used text old [] n (appended old made)
puts_marked o used text marks w n old made is wide some are =
    let field = field_of_mark o text marks in
    let raw : ℕ → RawField = λ j. raw_of (field j) in
    let lines = raw_rows raw w 0 n in
    let rows = rows_of_text o text marks w n is in
    let end : n * (w + 1) ≡ 0 + n * (w + 1) = omega arith in
    let filled : AreFilled field w (0 + n * (w + 1)) =
    λ one k below. (let same : w + 1 ≡ 1 = ap (λ (x : ℕ). x + 1) one in is.whole.filled same k (omega (arith, below, rows.count))) in (
      lines,
      made,
      length-raw_rows raw w 0 n,
      some,
      subst (λ (width : ℕ). SplitsRows o width text lines []) (sym wide) (raw_splits n o text field w 0 (records_of_text o text marks w n is) filled),
      subst (λ (width : ℕ). AreMade o used (column_kinds old) (spread_all (replicate width []) lines) made) (sym wide)
          (subst (λ (fields : List (List RawField)). AreMade o used (column_kinds old) fields made) (sym (columns_turned raw w n)) are),
      refl,
    )
