-- Many records at once: their rows, and the columns that hold these.
use Rattle.std.proofs.Common.{◌≡◌, ◌≢◌, ℕ, zero, suc, ◌+◌, ◌-◌, ◌<◌, ◌≤◌, ◌∙◌, sym, ap, refl, arith, subst, Bool, true, false, List, [], ◌∷◌, ◌++◌, length, take, map, replicate, append_assoc}
use Rattle.std.proofs.lemmas.List.{append-nil, length-replicate}
use Rattle.std.proofs.lemmas.Str.{is_utf8-from_IsUtf8}
use Rattle.std.specs.Prelude.{Option, Some, IsUtf8}
use Rattle.std.specs.Str.{is_utf8}
use Rattle.morsel_meaning.specs.declared.value.ColType.{ColType}
use Rattle.morsel_meaning.specs.declared.value.Value.{Value}
use Rattle.morsel_meaning.specs.Values.{Row}
use Rattle.morsel_frame.specs.Columns.{Values}
use Rattle.morsel_grammar.specs.Dialect.{Dialect, IsDialect}
use Rattle.morsel_grammar.specs.Grammar.{CsvField, CsvRecord, Fields, IsRecord}
use Rattle.morsel_grammar.specs.Cells.{CsvCell, Good, cell_of}
use Rattle.morsel_grammar.specs.Rows.{IsRow, is_empty, cells_of, row_of, row_or_misfit}
use Rattle.morsel_grammar.specs.Split.{record_at}
use Rattle.morsel_grammar.specs.Reading.{Read, used_values, chosen}
use Rattle.morsel_text.specs.RawFields.{shown}
use Rattle.morsel_text.specs.Pushes.{AreTexts, column_kinds, with_row}
use Rattle.morsel_text.specs.Steps.{left}
use Rattle.morsel_text.specs.Batches.{spread, spread_all, SplitsRows, AreTextColumns, IsColumnOf, AreMade, appended}
use Rattle.morsel_text.specs.declared.raw_field.RawField.{RawField}
use Rattle.morsel_grammar.proofs.RecordLemmas.{IsFound, record_at-read}
use Rattle.morsel_grammar.proofs.FirstRecordLemmas.{record_taken, bytes_taken, utf8_parts}
use Rattle.morsel_text.proofs.StepLemmas.{ReadSo, read_more, row_steps, row_read, length-with_row}

-- ---- one row more

pub splits_more : (o : Dialect) (width : ℕ) (text rest behind : List ℕ) (lines : List (List RawField)) (fields : List RawField) → SplitsRows o width text lines rest
    → record_at o rest ≡ Some (Fields (map shown fields), behind) → length behind < length rest → length fields ≡ width → is_empty (map shown fields) ≡ false
    → SplitsRows o width text (lines ++ fields ∷ []) behind
splits_more o width text rest behind [] fields is found shorter wide filled = (
  behind,
  subst (λ (t : List ℕ). record_at o t ≡ Some (Fields (map shown fields), behind)) is found,
  subst (λ (t : List ℕ). length behind < length t) is shorter,
  wide,
  filled,
  refl,
)
splits_more o width text rest behind (line ∷ lines) fields is found shorter wide filled =
    (is.0, is.1, is.2, is.3, is.4, splits_more o width is.0 rest behind lines fields is.5 found shorter wide filled)

pub splits_len : (o : Dialect) (width : ℕ) (text rest : List ℕ) (lines : List (List RawField)) → SplitsRows o width text lines rest → length rest + length lines ≤ length text
splits_len o width text rest [] is = omega (arith, ap length is)
splits_len o width text rest (line ∷ lines) is = omega (arith, is.2, splits_len o width is.0 rest lines is.5)

pub spread_more : {A : Type 0} (columns rows : List (List A)) (row : List A) → spread_all columns (rows ++ row ∷ []) ≡ spread (spread_all columns rows) row
spread_more columns [] row = refl
spread_more columns (r ∷ rows) row = spread_more (spread columns r) rows row

texts_more : (fields : List RawField) (f : RawField) → AreTexts (map shown fields) → IsUtf8 (shown f).bytes → AreTexts (map shown (fields ++ f ∷ []))
texts_more [] f texts text = (text, tt)
texts_more (g ∷ fields) f texts text = (texts.0, texts_more fields f texts.1 text)

pub spread_texts : (columns : List (List RawField)) (row : List RawField) → AreTextColumns columns → AreTexts (map shown row) → AreTextColumns (spread columns row)
spread_texts [] row texts text = tt
spread_texts (column ∷ columns) [] texts text = texts
spread_texts (column ∷ columns) (f ∷ row) texts text = (texts_more column f texts.0 text.0, spread_texts columns row texts.1 text.1)

pub length-spread : {A : Type 0} (columns : List (List A)) (row : List A) → length (spread columns row) ≡ length columns
length-spread [] row = refl
length-spread (column ∷ columns) [] = refl
length-spread (column ∷ columns) (x ∷ row) = ap suc (length-spread columns row)

pub no_texts : (width : ℕ) → AreTextColumns (replicate width [])
no_texts zero = tt
no_texts (suc width) = (tt, no_texts width)

-- what follows a record, where the text is UTF-8
pub text_behind : (o : Dialect) (text behind : List ℕ) (r : CsvRecord) → IsDialect o → text ≢ [] → record_at o text ≡ Some (r, behind) → IsUtf8 text
    → (is_utf8 (take (length text - length behind) text) ≡ true) × IsUtf8 behind × (length behind < length text)
text_behind o text behind r fit some found utf8 =
    let P : Option (CsvRecord × List ℕ) → Type 0 = λ x. IsFound o text x in
    let is : IsRecord o r text behind = subst P found (record_at-read o text) in
    let taken = record_taken o r text behind fit is some in
    let parts = utf8_parts o r text behind taken.0 fit taken.1 utf8 in
    (ap is_utf8 (bytes_taken o r text behind taken.0 taken.1) ∙ is_utf8-from_IsUtf8 taken.0 parts.0, parts.1, taken.1.shorter)

-- ---- columns by their rows

-- each column with its entry of the row first
abbrev pub with_first : {A : Type 0} → List A → List (List A) → List (List A)
with_first row [] = []
with_first [] (column ∷ columns) = column ∷ columns
with_first (x ∷ row) (column ∷ columns) = (x ∷ column) ∷ with_first row columns

-- so many columns of these rows
abbrev pub columns_by : {A : Type 0} → ℕ → List (List A) → List (List A)
columns_by width [] = replicate width []
columns_by width (row ∷ rows) = with_first row (columns_by width rows)

abbrev pub joined : {A : Type 0} → List (List A) → List (List A) → List (List A)
joined [] others = []
joined (column ∷ columns) [] = column ∷ columns
joined (column ∷ columns) (other ∷ others) = (column ++ other) ∷ joined columns others

length-with_first : {A : Type 0} (row : List A) (columns : List (List A)) → length (with_first row columns) ≡ length columns
length-with_first row [] = refl
length-with_first [] (column ∷ columns) = refl
length-with_first (x ∷ row) (column ∷ columns) = ap suc (length-with_first row columns)

pub length-columns_by : {A : Type 0} (width : ℕ) (rows : List (List A)) → length (columns_by width rows) ≡ width
length-columns_by width [] = length-replicate width []
length-columns_by width (row ∷ rows) = length-with_first row (columns_by width rows) ∙ length-columns_by width rows

joined_none : {A : Type 0} (columns : List (List A)) → joined columns (replicate (length columns) []) ≡ columns
joined_none [] = refl
joined_none (column ∷ columns) =
    ap (λ c. c ∷ joined columns (replicate (length columns) [])) (append-nil column) ∙ ap (λ cs. column ∷ cs) (joined_none columns)

joined_spread : {A : Type 0} (columns others : List (List A)) (row : List A) → length others ≡ length columns → joined (spread columns row) others ≡ joined columns (with_first row others)
joined_spread [] others row same = refl
joined_spread (column ∷ columns) [] row same = absurd (omega arith)
joined_spread (column ∷ columns) (other ∷ others) [] same = refl
joined_spread (column ∷ columns) (other ∷ others) (x ∷ row) same =
    ap (λ c. c ∷ joined (spread columns row) others) (append_assoc column (x ∷ []) other) ∙ ap (λ cs. (column ++ x ∷ other) ∷ cs) (joined_spread columns others row (omega arith))

spread_joined : {A : Type 0} (columns rows : List (List A)) → spread_all columns rows ≡ joined columns (columns_by (length columns) rows)
spread_joined columns [] = sym (joined_none columns)
spread_joined columns (row ∷ rows) =
    spread_joined (spread columns row) rows
    ∙ ap (λ n. joined (spread columns row) (columns_by n rows)) (length-spread columns row)
    ∙ joined_spread columns (columns_by (length columns) rows) row (length-columns_by (length columns) rows)

nothing_joined : {A : Type 0} (others : List (List A)) → joined (replicate (length others) []) others ≡ others
nothing_joined [] = refl
nothing_joined (other ∷ others) = ap (λ cs. other ∷ cs) (nothing_joined others)

pub columns_spread : {A : Type 0} (width : ℕ) (rows : List (List A)) → spread_all (replicate width []) rows ≡ columns_by width rows
columns_spread width rows =
    let same = length-columns_by width rows in
    spread_joined (replicate width []) rows
    ∙ ap (λ n. joined (replicate width []) (columns_by n rows)) (length-replicate width [])
    ∙ ap (λ n. joined (replicate n []) (columns_by width rows)) (sym same)
    ∙ nothing_joined (columns_by width rows)

-- ---- the first row of columns that were made

-- the values and cells of a row of fields, and the columns after it
pub record FirstRow (o : Dialect) (used : List Bool) (columns : List Values) (fields : List RawField) (batch : List (List RawField)) (made : List Values) : Type 0 where
  pub cells : List CsvCell
  pub row : Row
  pub later : List Values
  pub cells_are : cells_of o (column_kinds columns) (map shown fields) ≡ Some cells
  pub values_are : used_values used cells ≡ Some row
  pub width : length row ≡ length (chosen used columns)
  pub later_made : AreMade o used (column_kinds columns) batch later
  pub same : appended columns made ≡ appended (with_row used columns row) later

held_first : (v : Value) (vs : List Value) (cell : CsvCell) (cells : List CsvCell) → map Good (v ∷ vs) ≡ cell ∷ cells → (cell ≡ Good v) × (map Good vs ≡ cells)
held_first v vs cell cells is = (cc, cc)

cells_first : (o : Dialect) (kind : ColType) (kinds : List ColType) (f : CsvField) (fields : List CsvField) (cells : List CsvCell) → cells_of o kinds fields ≡ Some cells
    → cells_of o (kind ∷ kinds) (f ∷ fields) ≡ Some (cell_of o kind f ∷ cells)
cells_first o kind kinds f fields cells is = rw is refl

values_first : (used : List Bool) (cell : CsvCell) (v : Value) (cells : List CsvCell) (row : Row) → cell ≡ Good v → used_values used cells ≡ Some row
    → used_values (true ∷ used) (cell ∷ cells) ≡ Some (v ∷ row)
values_first used cell v cells row is later = rw is (rw later refl)

used_first : (o : Dialect) (used : List Bool) (c : Values) (columns : List Values) (f : RawField) (fields : List RawField) (more : List RawField) (batch : List (List RawField))
    (new : Values) (made : List Values) → IsColumnOf o c.kind (f ∷ more) new → FirstRow o used columns fields batch made
    → FirstRow o (true ∷ used) (c ∷ columns) (f ∷ fields) (more ∷ batch) (new ∷ made)
used_first o used c columns f fields more batch new made is later = by new.values refl
  where
    by : (vals : List Value) → new.values ≡ vals → FirstRow o (true ∷ used) (c ∷ columns) (f ∷ fields) (more ∷ batch) (new ∷ made)
    by [] none = absurd (let empty : [] ≡ cell_of o c.kind (shown f) ∷ map (λ g. cell_of o c.kind (shown g)) more = ap (map Good) (sym none) ∙ is.1 in cc)
    by (v ∷ vs) some =
        let parts = held_first v vs (cell_of o c.kind (shown f)) (map (λ g. cell_of o c.kind (shown g)) more) (ap (map Good) (sym some) ∙ is.1) in
        record {
          cells = cell_of o c.kind (shown f) ∷ later.cells;
          row = v ∷ later.row;
          later = record { kind = new.kind; values = vs } ∷ later.later;
          cells_are = cells_first o c.kind (column_kinds columns) (shown f) (map shown fields) later.cells later.cells_are;
          values_are = values_first used (cell_of o c.kind (shown f)) v later.cells later.row parts.0 later.values_are;
          width = ap suc later.width;
          later_made = ((is.0, parts.1), later.later_made);
          same = ap (λ (vals : List Value). let all : Values = record c { values = c.values ++ vals } in all ∷ appended columns made) some
              ∙ ap (λ (vals : List Value). let all : Values = record c { values = vals } in all ∷ appended columns made) (sym (append_assoc c.values (v ∷ []) vs))
              ∙ ap (λ (cs : List Values). let all : Values = record c { values = (c.values ++ v ∷ []) ++ vs } in all ∷ cs) later.same;
        }

unused_first : (o : Dialect) (used : List Bool) (c : Values) (columns : List Values) (f : RawField) (fields : List RawField) (more : List RawField) (batch : List (List RawField))
    (new : Values) (made : List Values) → new.kind ≡ c.kind → new.values ≡ [] → FirstRow o used columns fields batch made
    → FirstRow o (false ∷ used) (c ∷ columns) (f ∷ fields) (more ∷ batch) (new ∷ made)
unused_first o used c columns f fields more batch new made kind none later = record {
  cells = cell_of o c.kind (shown f) ∷ later.cells;
  row = later.row;
  later = new ∷ later.later;
  cells_are = cells_first o c.kind (column_kinds columns) (shown f) (map shown fields) later.cells later.cells_are;
  values_are = later.values_are;
  width = later.width;
  later_made = (kind, none, later.later_made);
  same = ap (λ (cs : List Values). let more : Values = record c { values = c.values ++ new.values } in more ∷ cs) later.same;
}

first_row : (o : Dialect) (used : List Bool) (columns : List Values) (fields : List RawField) (batch : List (List RawField)) (made : List Values)
    → length fields ≡ length columns → length batch ≡ length columns → AreMade o used (column_kinds columns) (with_first fields batch) made
    → FirstRow o used columns fields batch made
first_row o [] [] [] [] [] same wide is = record {
  cells = [];
  row = [];
  later = [];
  cells_are = refl;
  values_are = refl;
  width = refl;
  later_made = tt;
  same = refl;
}
first_row o [] [] [] [] (new ∷ made) same wide is = absurd is
first_row o (true ∷ used) [] [] [] made same wide is = absurd is
first_row o (false ∷ used) [] [] [] made same wide is = absurd is
first_row o used [] [] (more ∷ batch) made same wide is = absurd (omega arith)
first_row o used [] (f ∷ fields) batch made same wide is = absurd (omega arith)
first_row o used (c ∷ columns) [] batch made same wide is = absurd (omega arith)
first_row o used (c ∷ columns) (f ∷ fields) [] made same wide is = absurd (omega arith)
first_row o [] (c ∷ columns) (f ∷ fields) (more ∷ batch) made same wide is = absurd is
first_row o (true ∷ used) (c ∷ columns) (f ∷ fields) (more ∷ batch) [] same wide is = absurd is
first_row o (false ∷ used) (c ∷ columns) (f ∷ fields) (more ∷ batch) [] same wide is = absurd is
first_row o (true ∷ used) (c ∷ columns) (f ∷ fields) (more ∷ batch) (new ∷ made) same wide is =
    used_first o used c columns f fields more batch new made is.0 (first_row o used columns fields batch made (omega arith) (omega arith) is.1)
first_row o (false ∷ used) (c ∷ columns) (f ∷ fields) (more ∷ batch) (new ∷ made) same wide is =
    unused_first o used c columns f fields more batch new made is.0 is.1 (first_row o used columns fields batch made (omega arith) (omega arith) is.2)

no_values : (vs : List Value) → map Good vs ≡ [] → vs ≡ []
no_values [] is = refl
no_values (v ∷ vs) is = absurd (cc)

nothing_appended : (o : Dialect) (used : List Bool) (columns : List Values) (width : ℕ) (made : List Values) → width ≡ length columns
    → AreMade o used (column_kinds columns) (replicate width []) made → appended columns made ≡ columns
nothing_appended o used [] width made same is = refl
nothing_appended o used (c ∷ columns) width [] same is = refl
nothing_appended o [] (c ∷ columns) zero (new ∷ made) same is = absurd (omega arith)
nothing_appended o (u ∷ used) (c ∷ columns) zero (new ∷ made) same is = absurd (omega arith)
nothing_appended o [] (c ∷ columns) (suc width) (new ∷ made) same is = absurd is
nothing_appended o (true ∷ used) (c ∷ columns) (suc width) (new ∷ made) same is =
    ap (λ (vs : List Value). let all : Values = record c { values = c.values ++ vs } in all ∷ appended columns made) (no_values new.values is.0.1)
    ∙ ap (λ (vs : List Value). let all : Values = record c { values = vs } in all ∷ appended columns made) (append-nil c.values)
    ∙ ap (λ (cs : List Values). c ∷ cs) (nothing_appended o used columns width made (omega arith) is.1)
nothing_appended o (false ∷ used) (c ∷ columns) (suc width) (new ∷ made) same is =
    ap (λ (vs : List Value). let all : Values = record c { values = c.values ++ vs } in all ∷ appended columns made) is.1
    ∙ ap (λ (vs : List Value). let all : Values = record c { values = vs } in all ∷ appended columns made) (append-nil c.values)
    ∙ ap (λ (cs : List Values). c ∷ cs) (nothing_appended o used columns width made (omega arith) is.2)

-- ---- the rows of a batch are read

filled_row : (o : Dialect) (kinds : List ColType) (fields : List CsvField) (cells : List CsvCell) → is_empty fields ≡ false → cells_of o kinds fields ≡ Some cells
    → row_of o kinds (Fields fields) ≡ IsRow cells
filled_row o kinds fields cells filled is = rw filled (ap row_or_misfit is)

pub some_bytes : (text : List ℕ) (n : ℕ) → n < length text → text ≢ []
some_bytes [] n less = absurd (omega arith)
some_bytes (b ∷ bs) n less = λ is. cc

pub rows_read : (lines : List (List RawField)) (n : ℕ) (o : Dialect) (ks : List ColType) (used : List Bool) (total : Read) (width height at : ℕ) (text rest : List ℕ) (columns made : List Values)
    → IsDialect o → IsUtf8 text → width ≡ length columns → SplitsRows o width text lines rest → AreMade o used ks (columns_by width lines) made
    → ReadSo total used ks height columns (left (length lines + n) o ks used false at text)
    → ReadSo total used ks (height + length lines) (appended columns made) (left n o ks used false (at + (length text - length rest)) rest)
rows_read [] n o ks used total width height at text rest columns made fit utf8 wide is are so_far =
    let kinds : column_kinds columns ≡ ks = so_far.kinds in
    let same : appended columns made ≡ columns = nothing_appended o used columns width made wide (subst (λ (k : List ColType). AreMade o used k (replicate width []) made) (sym kinds) are) in
    let here : at + (length text - length rest) ≡ at = omega (arith, ap length is) in
    subst (λ (cs : List Values). ReadSo total used ks (height + 0) cs (left n o ks used false (at + (length text - length rest)) rest)) (sym same)
    (subst (λ (h : ℕ). ReadSo total used ks h columns (left n o ks used false (at + (length text - length rest)) rest)) (let none : height ≡ height + 0 = omega arith in none)
    (subst (λ (place : ℕ). ReadSo total used ks height columns (left n o ks used false place rest)) (sym here)
    (subst (λ (t : List ℕ). ReadSo total used ks height columns (left n o ks used false at t)) (sym is)
    (subst (λ (k : ℕ). ReadSo total used ks height columns (left k o ks used false at text)) (let none : 0 + n ≡ n = omega arith in none) so_far))))
rows_read (fields ∷ lines) n o ks used total width height at text rest columns made fit utf8 wide is are so_far =
    let kinds : column_kinds columns ≡ ks = so_far.kinds in
    let behind = is.0 in
    let r : CsvRecord = Fields (map shown fields) in
    let found : record_at o text ≡ Some (r, behind) = is.1 in
    let place : ℕ = at + (length text - length behind) in
    let cut = text_behind o text behind r fit (some_bytes text (length behind) is.2) found utf8 in
    let first = first_row o used columns fields (columns_by width lines) made (is.3 ∙ wide) (length-columns_by width lines ∙ wide)
    (subst (λ (k : List ColType). AreMade o used k (with_first fields (columns_by width lines)) made) (sym kinds) are) in
    let row_is : row_of o ks r ≡ IsRow first.cells =
    filled_row o ks (map shown fields) first.cells is.4 (ap (λ k. cells_of o k (map shown fields)) (sym kinds) ∙ first.cells_are) in
    let next = with_row used columns first.row in
    let more = read_more total (left (suc (length lines + n)) o ks used false at text) (left (length lines + n) o ks used false place behind) used ks height 1 at columns next (Some first.row)
    (subst (λ (k : ℕ). ReadSo total used ks height columns (left k o ks used false at text)) (let one : suc (length lines) + n ≡ suc (length lines + n) = omega arith in one) so_far)
    (refl, first.width, refl)
    (row_steps (length lines + n) o ks used false at text behind r (Some first.row) (omega (arith, is.2)) found cut.0 refl (row_read used at (row_of o ks r) first.cells first.row row_is first.values_are)) in
    let last = rows_read lines n o ks used total width (height + 1) place behind rest next first.later fit cut.1 (wide ∙ sym (length-with_row used columns first.row)) is.5
    (subst (λ (k : List ColType). AreMade o used k (columns_by width lines) first.later) kinds first.later_made) more in
    let less = splits_len o width behind rest lines is.5 in
    subst (λ (cs : List Values). ReadSo total used ks (height + suc (length lines)) cs (left n o ks used false (at + (length text - length rest)) rest)) (sym first.same)
    (subst (λ (h : ℕ). ReadSo total used ks h (appended next first.later) (left n o ks used false (at + (length text - length rest)) rest)) (let one : (height + 1) + length lines ≡ height + suc (length lines) = omega arith in one)
    (subst (λ (p : ℕ). ReadSo total used ks ((height + 1) + length lines) (appended next first.later) (left n o ks used false p rest))
    (let all : place + (length behind - length rest) ≡ at + (length text - length rest) = omega (arith, is.2, less) in all) last))
