-- What one record more makes of reading.
use Rattle.std.proofs.Common.{◌≡◌, ℕ, suc, ◌+◌, ◌-◌, ◌<◌, ◌≤◌, ◌∙◌, sym, ap, refl, arith, subst, Bool, true, false, not, List, [], ◌∷◌, ◌++◌, length, take, map, append_assoc, length-append}
use Rattle.std.proofs.lemmas.List.{replicate_more, length-replicate, nil_from_length}
use Rattle.std.specs.Prelude.{Option, Some, None, if◌then◌else◌}
use Rattle.std.specs.Str.{is_utf8}
use Rattle.morsel_meaning.specs.declared.value.ColType.{ColType}
use Rattle.morsel_meaning.specs.declared.fault.Fault.{Fault}
use Rattle.morsel_meaning.specs.declared.value.Value.{Value}
use Rattle.morsel_meaning.specs.declared.value.Field.{Field}
use Rattle.morsel_meaning.specs.Values.{Row, kinds_of}
use Rattle.morsel_frame.specs.Columns.{Values}
use Rattle.morsel_frame.specs.Frames.{with_column, rows_of, Fit}
use Rattle.morsel_grammar.specs.Dialect.{Dialect}
use Rattle.morsel_grammar.specs.Grammar.{CsvRecord}
use Rattle.morsel_grammar.specs.Cells.{CsvCell}
use Rattle.morsel_grammar.specs.Rows.{RowOf, IsRow, row_of, is_header}
use Rattle.morsel_grammar.specs.Split.{record_at}
use Rattle.morsel_grammar.specs.Reading.{Reading, Read, Refusal, NotUtf8, refuses, row_then, record_then, split_then, reading_up_to, read_of, used_values, chosen}
use Rattle.morsel_grammar.specs.Results.{IsRefused}
use Rattle.morsel_text.specs.Pushes.{column_kinds, with_row}
use Rattle.morsel_text.specs.Steps.{left, row_first, GainsRow, AreHigh, empty_columns}

-- a record's row
pub row_read : (used : List Bool) (at : ℕ) (found : RowOf) (cells : List CsvCell) (row : Row) → found ≡ IsRow cells → used_values used cells ≡ Some row
    → (later : Reading) → read_of used (row_then false at found later) ≡ row_first at (Some row) (read_of used later)
row_read used at found cells row is values = λ later. rw (is, values)

-- the first record of what is left
pub left_some : (n : ℕ) (o : Dialect) (ks : List ColType) (head : Bool) (at : ℕ) (text : List ℕ) → 0 < length text
    → reading_up_to (suc n) o ks head at text ≡ split_then o ks head at text (record_at o text) (λ awaits_header next rest. reading_up_to n o ks awaits_header next rest)
left_some n o ks head at [] some = absurd (omega arith)
left_some n o ks head at (b ∷ bs) some = refl

pub left_record : (n : ℕ) (o : Dialect) (ks : List ColType) (head : Bool) (at : ℕ) (text rest : List ℕ) (r : CsvRecord) → 0 < length text → record_at o text ≡ Some (r, rest)
    → reading_up_to (suc n) o ks head at text
    ≡ record_then o ks head at (take (length text - length rest) text) r (λ awaits_header. reading_up_to n o ks awaits_header (at + (length text - length rest)) rest)
left_record n o ks head at text rest r some is =
    left_some n o ks head at text some ∙ ap (λ found. split_then o ks head at text found (λ awaits_header next rest. reading_up_to n o ks awaits_header next rest)) is

-- a header, or what comes before it
pub head_reading : (n : ℕ) (o : Dialect) (ks : List ColType) (at : ℕ) (text rest : List ℕ) (r : CsvRecord) → 0 < length text → record_at o text ≡ Some (r, rest)
    → is_utf8 (take (length text - length rest) text) ≡ true
    → reading_up_to (suc n) o ks true at text ≡ reading_up_to n o ks (not (is_header r)) (at + (length text - length rest)) rest
head_reading n o ks at text rest r some is utf8 =
    left_record n o ks true at text rest r some is
    ∙ ap (λ t. if t then reading_up_to n o ks (not (is_header r)) (at + (length text - length rest)) rest else refuses true at NotUtf8) utf8

-- a record after the header
pub row_reading : (n : ℕ) (o : Dialect) (ks : List ColType) (at : ℕ) (text rest : List ℕ) (r : CsvRecord) → 0 < length text → record_at o text ≡ Some (r, rest)
    → is_utf8 (take (length text - length rest) text) ≡ true
    → reading_up_to (suc n) o ks false at text ≡ row_then false at (row_of o ks r) (reading_up_to n o ks false (at + (length text - length rest)) rest)
row_reading n o ks at text rest r some is utf8 =
    left_record n o ks false at text rest r some is
    ∙ ap (λ t. if t then row_then false at (row_of o ks r) (reading_up_to n o ks false (at + (length text - length rest)) rest) else refuses false at NotUtf8) utf8

pub row_step : (n : ℕ) (o : Dialect) (ks : List ColType) (used : List Bool) (at : ℕ) (text rest : List ℕ) (r : CsvRecord) → 0 < length text
    → record_at o text ≡ Some (r, rest) → is_utf8 (take (length text - length rest) text) ≡ true
    → left (suc n) o ks used false at text ≡ read_of used (row_then false at (row_of o ks r) (reading_up_to n o ks false (at + (length text - length rest)) rest))
row_step n o ks used at text rest r some is utf8 = ap (read_of used) (row_reading n o ks at text rest r some is utf8)

pub row_steps : (n : ℕ) (o : Dialect) (ks : List ColType) (used : List Bool) (head : Bool) (at : ℕ) (text rest : List ℕ) (r : CsvRecord) (row : Option Row) → 0 < length text
    → record_at o text ≡ Some (r, rest) → is_utf8 (take (length text - length rest) text) ≡ true → head ≡ false
    → ((later : Reading) → read_of used (row_then false at (row_of o ks r) later) ≡ row_first at row (read_of used later))
    → left (suc n) o ks used head at text ≡ row_first at row (left n o ks used false (at + (length text - length rest)) rest)
row_steps n o ks used head at text rest r row some is utf8 behind gives =
    ap (λ h. left (suc n) o ks used h at text) behind ∙ row_step n o ks used at text rest r some is utf8
    ∙ gives (reading_up_to n o ks false (at + (length text - length rest)) rest)

pub row_refused : (n : ℕ) (o : Dialect) (ks : List ColType) (used : List Bool) (head : Bool) (at file : ℕ) (text rest : List ℕ) (r : CsvRecord) (fault : Fault) → 0 < length text
    → record_at o text ≡ Some (r, rest) → is_utf8 (take (length text - length rest) text) ≡ true → head ≡ false
    → ((later : Reading) → IsRefused file (read_of used (row_then false at (row_of o ks r) later)).refusal fault)
    → IsRefused file (left (suc n) o ks used head at text).refusal fault
row_refused n o ks used head at file text rest r fault some is utf8 behind gives =
    let P : Read → Type 0 = λ read. IsRefused file read.refusal fault in
    subst P (sym (ap (λ h. left (suc n) o ks used h at text) behind ∙ row_step n o ks used at text rest r some is utf8))
    (gives (reading_up_to n o ks false (at + (length text - length rest)) rest))

-- the columns with one row more
with_column-push : (vs : List Value) (rows : List Row) (v : Value) (row : Row) → length vs ≡ length rows
    → with_column (vs ++ v ∷ []) (rows ++ row ∷ []) ≡ with_column vs rows ++ (v ∷ row) ∷ []
with_column-push [] [] v row same = refl
with_column-push [] (r ∷ rows) v row same = absurd (omega arith)
with_column-push (w ∷ vs) [] v row same = absurd (omega arith)
with_column-push (w ∷ vs) (r ∷ rows) v row same = ap (λ (x : List Row). (w ∷ r) ∷ x) (with_column-push vs rows v row (omega arith))

length-with_column : (vs : List Value) (rows : List Row) → length vs ≡ length rows → length (with_column vs rows) ≡ length rows
length-with_column [] [] same = refl
length-with_column [] (r ∷ rows) same = absurd (omega arith)
length-with_column (w ∷ vs) [] same = absurd (omega arith)
length-with_column (w ∷ vs) (r ∷ rows) same = ap suc (length-with_column vs rows (omega arith))

length-rows_of : (height : ℕ) (columns : List Values) → AreHigh height columns → length (rows_of height columns) ≡ height
length-rows_of height [] high = length-replicate height []
length-rows_of height (column ∷ columns) high =
    let later = length-rows_of height columns high.1 in
    length-with_column column.values (rows_of height columns) (high.0 ∙ sym later) ∙ later

pub rows_of-with_row : (height : ℕ) (used : List Bool) (columns : List Values) (row : Row) → length used ≡ length columns → length row ≡ length (chosen used columns) → AreHigh height (chosen used columns)
    → rows_of (height + 1) (chosen used (with_row used columns row)) ≡ rows_of height (chosen used columns) ++ row ∷ []
rows_of-with_row height [] [] [] same width high = sym (replicate_more height [])
rows_of-with_row height [] [] (v ∷ row) same width high = absurd (omega arith)
rows_of-with_row height [] (column ∷ columns) row same width high = absurd (omega arith)
rows_of-with_row height (u ∷ used) [] row same width high = absurd (omega arith)
rows_of-with_row height (false ∷ used) (column ∷ columns) row same width high = rows_of-with_row height used columns row (omega arith) width high
rows_of-with_row height (true ∷ used) (column ∷ columns) [] same width high = absurd (omega arith)
rows_of-with_row height (true ∷ used) (column ∷ columns) (v ∷ row) same width high =
    ap (with_column (column.values ++ v ∷ [])) (rows_of-with_row height used columns row (omega arith) (omega arith) high.1)
    ∙ with_column-push column.values (rows_of height (chosen used columns)) v row (high.0 ∙ sym (length-rows_of height (chosen used columns) high.1))

pub high-with_row : (height : ℕ) (used : List Bool) (columns : List Values) (row : Row) → length used ≡ length columns → length row ≡ length (chosen used columns) → AreHigh height (chosen used columns)
    → AreHigh (height + 1) (chosen used (with_row used columns row))
high-with_row height [] [] row same width high = tt
high-with_row height [] (column ∷ columns) row same width high = absurd (omega arith)
high-with_row height (u ∷ used) [] row same width high = absurd (omega arith)
high-with_row height (false ∷ used) (column ∷ columns) row same width high = high-with_row height used columns row (omega arith) width high
high-with_row height (true ∷ used) (column ∷ columns) [] same width high = absurd (omega arith)
high-with_row height (true ∷ used) (column ∷ columns) (v ∷ row) same width high =
    (length-append column.values (v ∷ []) ∙ ap (λ n. n + 1) high.0, high-with_row height used columns row (omega arith) (omega arith) high.1)

pub kinds-with_row : (used : List Bool) (columns : List Values) (row : Row) → column_kinds (with_row used columns row) ≡ column_kinds columns
kinds-with_row used [] row = refl
kinds-with_row [] (column ∷ columns) row = refl
kinds-with_row (true ∷ used) (column ∷ columns) [] = refl
kinds-with_row (true ∷ used) (column ∷ columns) (v ∷ row) = ap (λ (x : List ColType). column.kind ∷ x) (kinds-with_row used columns row)
kinds-with_row (false ∷ used) (column ∷ columns) row = ap (λ (x : List ColType). column.kind ∷ x) (kinds-with_row used columns row)

pub length-with_row : (used : List Bool) (columns : List Values) (row : Row) → length (with_row used columns row) ≡ length columns
length-with_row used [] row = refl
length-with_row [] (column ∷ columns) row = refl
length-with_row (true ∷ used) (column ∷ columns) [] = refl
length-with_row (true ∷ used) (column ∷ columns) (v ∷ row) = ap suc (length-with_row used columns row)
length-with_row (false ∷ used) (column ∷ columns) row = ap suc (length-with_row used columns row)

-- all that is read is the rows so far, and then what is read later
pub record Follows (total : Read) (so_far : List Row) (later : Read) : Type 0 where
  pub rows : map (λ r. r.1) total.rows ≡ so_far ++ map (λ r. r.1) later.rows
  pub head : total.head ≡ later.head
  pub refusal : total.refusal ≡ later.refusal

-- how far reading has come
pub record ReadSo (total : Read) (used : List Bool) (ks : List ColType) (height : ℕ) (columns : List Values) (later : Read) : Type 0 where
  pub follows : Follows total (rows_of height (chosen used columns)) later
  pub high : AreHigh height (chosen used columns)
  pub kinds : column_kinds columns ≡ ks
  pub width : length used ≡ length columns

follows_row : (total before later : Read) (rows : List Row) (at : ℕ) (row : Row) → Follows total rows before → before ≡ row_first at (Some row) later → Follows total (rows ++ row ∷ []) later
follows_row total before later rows at row so_far is = record {
  rows = so_far.rows ∙ ap (λ (r : Read). rows ++ map (λ r. r.1) r.rows) is ∙ sym (append_assoc rows (row ∷ []) (map (λ r. r.1) later.rows));
  head = so_far.head ∙ ap (λ (r : Read). r.head) is;
  refusal = so_far.refusal ∙ ap (λ (r : Read). r.refusal) is;
}

pub read_more : (total before later : Read) (used : List Bool) (ks : List ColType) (height rows at : ℕ) (columns new : List Values) (row : Option Row)
    → ReadSo total used ks height columns before → GainsRow used columns row rows new → before ≡ row_first at row later → ReadSo total used ks (height + rows) new later
read_more total before later used ks height rows at columns new None so_far gains is =
    let same_height : height + rows ≡ height = omega (arith, gains.0) in
    subst (λ (h : ℕ). ReadSo total used ks h new later) (sym same_height)
    (subst (λ (cs : List Values). ReadSo total used ks height cs later) (sym gains.1)
    (subst (λ (r : Read). ReadSo total used ks height columns r) is so_far))
read_more total before later used ks height rows at columns new (Some row) so_far gains is =
    subst (λ (n : ℕ). ReadSo total used ks (height + n) new later) (sym gains.0)
    (subst (λ (cs : List Values). ReadSo total used ks (height + 1) cs later) (sym gains.2) (record {
      follows = subst (λ (rows : List Row). Follows total rows later) (sym (rows_of-with_row height used columns row so_far.width gains.1 so_far.high))
          (follows_row total before later (rows_of height (chosen used columns)) at row so_far.follows is);
      high = high-with_row height used columns row so_far.width gains.1 so_far.high;
      kinds = kinds-with_row used columns row ∙ so_far.kinds;
      width = so_far.width ∙ sym (length-with_row used columns row);
    }))

rows_of-none : (columns : List Values) → AreHigh 0 columns → rows_of 0 columns ≡ []
rows_of-none [] high = refl
rows_of-none (column ∷ columns) high = ap (λ vs. with_column vs (rows_of 0 columns)) (nil_from_length column.values high.0)

pub read_start : (total : Read) (used : List Bool) (columns : List Values) → AreHigh 0 (chosen used columns) → length used ≡ length columns
    → ReadSo total used (column_kinds columns) 0 columns total
read_start total used columns high same = record {
  follows = subst (λ (rows : List Row). Follows total rows total) (sym (rows_of-none (chosen used columns) high)) (record { rows = refl; head = refl; refusal = refl });
  high = high;
  kinds = refl;
  width = same;
}

pub read_refused : (file : ℕ) (total later : Read) (used : List Bool) (ks : List ColType) (columns : List Values) (height : ℕ) (fault : Fault) → ReadSo total used ks height columns later
    → IsRefused file later.refusal fault → IsRefused file total.refusal fault
read_refused file total later used ks columns height fault so_far refused =
    subst (λ (r : Option Refusal). IsRefused file r fault) (sym so_far.follows.refusal) refused

-- columns without values, and what becomes of them
pub kinds-empty : (fields : List Field) → column_kinds (empty_columns fields) ≡ kinds_of fields
kinds-empty [] = refl
kinds-empty (f ∷ fields) = ap (λ (x : List ColType). f.kind ∷ x) (kinds-empty fields)

pub length-empty : (fields : List Field) → length (empty_columns fields) ≡ length fields
length-empty [] = refl
length-empty (f ∷ fields) = ap suc (length-empty fields)

pub high-empty : (used : List Bool) (fields : List Field) → AreHigh 0 (chosen used (empty_columns fields))
high-empty [] [] = tt
high-empty [] (f ∷ fields) = tt
high-empty (u ∷ used) [] = tt
high-empty (true ∷ used) (f ∷ fields) = (refl, high-empty used fields)
high-empty (false ∷ used) (f ∷ fields) = high-empty used fields

length-kinds : (columns : List Values) → length (column_kinds columns) ≡ length columns
length-kinds [] = refl
length-kinds (column ∷ columns) = ap suc (length-kinds columns)

pub same_width : (columns new : List Values) → column_kinds new ≡ column_kinds columns → length new ≡ length columns
same_width columns new same = sym (length-kinds new) ∙ ap length same ∙ length-kinds columns

pub fit-chosen : (height : ℕ) (used : List Bool) (fields : List Field) (columns : List Values) → column_kinds columns ≡ kinds_of fields → AreHigh height (chosen used columns)
    → Fit (chosen used fields) height (chosen used columns)
fit-chosen height [] fields columns same high = tt
fit-chosen height (u ∷ used) [] [] same high = tt
fit-chosen height (u ∷ used) [] (column ∷ columns) same high = absurd (cc)
fit-chosen height (u ∷ used) (f ∷ fields) [] same high = absurd (cc)
fit-chosen height (true ∷ used) (f ∷ fields) (column ∷ columns) same high = (cc, high.0, fit-chosen height used fields columns (cc) high.1)
fit-chosen height (false ∷ used) (f ∷ fields) (column ∷ columns) same high = fit-chosen height used fields columns (cc) high

-- a step of reading, from the step of one record
pub step_more : (total : Read) (used : List Bool) (ks : List ColType) (o : Dialect) (n k height rows at next : ℕ) (head awaits_header : Bool) (rest after : List ℕ) (columns new : List Values)
    (row : Option Row) → k ≡ suc n → ReadSo total used ks height columns (left k o ks used head at rest) → GainsRow used columns row rows new
    → ((m : ℕ) → left (suc m) o (column_kinds columns) used head at rest ≡ row_first at row (left m o (column_kinds columns) used awaits_header next after))
    → ReadSo total used ks (height + rows) new (left n o ks used awaits_header next after)
step_more total used ks o n k height rows at next head awaits_header rest after columns new row one_more so_far gains step =
    read_more total (left k o ks used head at rest) (left n o ks used awaits_header next after) used ks height rows at columns new row so_far gains
    (ap (λ m. left m o ks used head at rest) one_more
    ∙ ap (λ types. left (suc n) o types used head at rest) (sym so_far.kinds)
    ∙ step n ∙ ap (λ types. row_first at row (left n o types used awaits_header next after)) so_far.kinds)

pub step_refused : (file : ℕ) (total : Read) (used : List Bool) (ks : List ColType) (o : Dialect) (n k height at : ℕ) (head : Bool) (rest : List ℕ) (columns : List Values) (fault : Fault)
    → k ≡ suc n → ReadSo total used ks height columns (left k o ks used head at rest)
    → ((m : ℕ) → IsRefused file (left (suc m) o (column_kinds columns) used head at rest).refusal fault)
    → IsRefused file total.refusal fault
step_refused file total used ks o n k height at head rest columns fault one_more so_far step =
    let P : Read → Type 0 = λ r. IsRefused file r.refusal fault in
    read_refused file total (left k o ks used head at rest) used ks columns height fault so_far
    (subst P (sym (ap (λ m. left m o ks used head at rest) one_more ∙ ap (λ types. left (suc n) o types used head at rest) (sym so_far.kinds))) (step n))

pub gains_one : (used : List Bool) (old new : List Values) (row : Option Row) (rows : ℕ) → GainsRow used old row rows new → rows ≤ 1
gains_one used old new None rows gains = omega (arith, gains.0)
gains_one used old new (Some row) rows gains = omega (arith, gains.0)
