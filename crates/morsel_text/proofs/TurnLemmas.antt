-- What a turn of reading makes: one record, or a batch of them.
use Rattle.std.proofs.Common.{◌≡◌, ℕ, ◌+◌, ◌-◌, ◌<◌, ◌≤◌, sym, ap, arith, refl, subst, Bool, false, List, [], ◌∷◌, suc, inl, inr, map, length, replicate}
use Rattle.std.specs.Prelude.{Option, Some, Result, Ok, Err, IsUtf8}
use Rattle.morsel_meaning.specs.declared.value.ColType.{ColType}
use Rattle.morsel_meaning.specs.Values.{Row}
use Rattle.morsel_frame.specs.Columns.{Values}
use Rattle.morsel_grammar.specs.Dialect.{Dialect, IsDialect}
use Rattle.morsel_grammar.specs.Grammar.{CsvRecord, Fields, IsRecord}
use Rattle.morsel_grammar.specs.Split.{record_at}
use Rattle.morsel_grammar.specs.Reading.{Read, read_of}
use Rattle.morsel_text.specs.Pushes.{column_kinds}
use Rattle.morsel_meaning.specs.declared.fault.Fault.{Fault}
use Rattle.morsel_text.specs.Steps.{left, row_first, GainsRow, StepsTo}
use Rattle.morsel_text.specs.RawFields.{shown}
use Rattle.morsel_text.specs.Batches.{spread_all, SplitsRows, AreMade, appended, PutsRows, TurnsTo}
use Rattle.morsel_text.specs.declared.reader.Step.{Step}
use Rattle.morsel_text.specs.declared.raw_field.RawField.{RawField}
use Rattle.morsel_grammar.proofs.RecordLemmas.{IsFound, record_at-read}
use Rattle.morsel_grammar.proofs.FirstRecordLemmas.{record_taken, utf8_parts}
use Rattle.morsel_grammar.proofs.JoinedLemmas.{reading_up_to-enough}
use Rattle.morsel_text.proofs.StepLemmas.{ReadSo, step_more, gains_one}
use Rattle.morsel_text.proofs.BatchLemmas.{some_bytes, splits_len, columns_by, columns_spread, rows_read}

-- a record takes bytes, and what follows it is text where all is
pub behind_record : (o : Dialect) (text behind : List ℕ) (r : CsvRecord) → IsDialect o → 0 < length text → record_at o text ≡ Some (r, behind)
    → (length behind < length text) × (IsUtf8 text → IsUtf8 behind)
behind_record o text behind r fit some found =
    let P : Option (CsvRecord × List ℕ) → Type 0 = λ x. IsFound o text x in
    let is : IsRecord o r text behind = subst P found (record_at-read o text) in
    let taken = record_taken o r text behind fit is (some_bytes text 0 some) in
    (taken.1.shorter, λ utf8. (utf8_parts o r text behind taken.0 fit taken.1 utf8).1)

pub after_record : (total : Read) (used : List Bool) (ks : List ColType) (o : Dialect) (height rows at next : ℕ) (head awaits_header : Bool) (text rest : List ℕ) (columns new : List Values)
    (row : Option Row) → IsDialect o → length rest < length text → ReadSo total used ks height columns (left (length text) o ks used head at text) → GainsRow used columns row rows new
    → ((m : ℕ) → left (suc m) o (column_kinds columns) used head at text ≡ row_first at row (left m o (column_kinds columns) used awaits_header next rest))
    → ReadSo total used ks (height + rows) new (left (length rest) o ks used awaits_header next rest)
after_record total used ks o height rows at next head awaits_header text rest columns new row fit shorter so_far gains step =
    let n = length text - 1 in
    let one_more : length text ≡ suc n = omega arith in
    subst (λ (r : Read). ReadSo total used ks (height + rows) new r)
    (ap (read_of used) (reading_up_to-enough n (length rest) o ks awaits_header next rest fit (omega arith) (omega arith)))
    (step_more total used ks o n (length text) height rows at next head awaits_header text rest columns new row one_more so_far gains step)

pub after_batch : (total : Read) (used : List Bool) (ks : List ColType) (o : Dialect) (height rows at : ℕ) (text rest : List ℕ) (columns new : List Values)
    → IsDialect o → IsUtf8 text → ReadSo total used ks height columns (left (length text) o ks used false at text) → PutsRows o used text columns rest rows new
    → ReadSo total used ks (height + rows) new (left (length rest) o ks used false (at + (length text - length rest)) rest)
after_batch total used ks o height rows at text rest columns new fit utf8 so_far (lines, made, counted, some, splits, are, is) =
    let width = length columns in
    let n = length text - length lines in
    let less = splits_len o width text rest lines splits in
    let all : length text ≡ length lines + n = omega (arith, less) in
    let place = at + (length text - length rest) in
    let made_by : AreMade o used ks (columns_by width lines) made =
    subst (λ (b : List (List RawField)). AreMade o used ks b made) (columns_spread width lines)
    (subst (λ (k : List ColType). AreMade o used k (spread_all (replicate width []) lines) made) so_far.kinds are) in
    let before = subst (λ (k : ℕ). ReadSo total used ks height columns (left k o ks used false at text)) all so_far in
    let read = rows_read lines n o ks used total width height at text rest columns made fit utf8 refl splits made_by before in
    subst (λ (cs : List Values). ReadSo total used ks (height + rows) cs (left (length rest) o ks used false place rest)) (sym is)
    (subst (λ (k : ℕ). ReadSo total used ks (height + k) (appended columns made) (left (length rest) o ks used false place rest)) counted
    (subst (λ (r : Read). ReadSo total used ks (height + length lines) (appended columns made) r)
    (ap (read_of used) (reading_up_to-enough n (length rest) o ks false place rest fit (omega (arith, less)) (omega arith))) read))

-- whichever it was
pub after_turn : (total : Read) (used : List Bool) (ks : List ColType) (o : Dialect) (file height at : ℕ) (head : Bool) (text : List ℕ) (columns new : List Values) (step : Step)
    → IsDialect o → length step.rest.now < length text → ReadSo total used ks height columns (left (length text) o ks used head at text)
    → TurnsTo o used file head at text columns (Ok step) new
    → ReadSo total used ks (height + step.rows) new (left (length step.rest.now) o ks used step.head (at + (length text - length step.rest.now)) step.rest.now)
after_turn total used ks o file height at head text columns new step fit shorter so_far (inl one) =
    after_record total used ks o height step.rows at (at + (length text - length step.rest.now)) head step.head text step.rest.now columns new one.0 fit shorter so_far one.1 one.2
after_turn total used ks o file height at head text columns new step fit shorter so_far (inr (behind, awaits_header, utf8, puts)) =
    let place = at + (length text - length step.rest.now) in
    subst (λ (h : Bool). ReadSo total used ks (height + step.rows) new (left (length step.rest.now) o ks used h place step.rest.now)) (sym awaits_header)
    (after_batch total used ks o height step.rows at text step.rest.now columns new fit utf8
    (subst (λ (h : Bool). ReadSo total used ks height columns (left (length text) o ks used h at text)) behind so_far) puts)

-- what follows the rows of a batch
pub puts_room : (o : Dialect) (used : List Bool) (text rest : List ℕ) (rows : ℕ) (columns new : List Values) → PutsRows o used text columns rest rows new
    → (rows + length rest ≤ length text) × (length rest < length text)
puts_room o used text rest rows columns new (lines, made, counted, some, splits, are, is) =
    let less = splits_len o (length columns) text rest lines splits in (omega (arith, less, counted), omega (arith, less, counted, some))

splits_text : (o : Dialect) (width : ℕ) (text rest : List ℕ) (lines : List (List RawField)) → IsDialect o → SplitsRows o width text lines rest → IsUtf8 text → IsUtf8 rest
splits_text o width text rest [] fit is utf8 = subst IsUtf8 (sym is) utf8
splits_text o width text rest (line ∷ lines) fit is utf8 =
    let cut = behind_record o text is.0 (Fields (map shown line)) fit (omega (arith, is.2)) is.1 in
    splits_text o width is.0 rest lines fit is.5 (cut.1 utf8)

pub puts_text : (o : Dialect) (used : List Bool) (text rest : List ℕ) (rows : ℕ) (columns new : List Values) → IsDialect o → PutsRows o used text columns rest rows new
    → IsUtf8 text → IsUtf8 rest
puts_text o used text rest rows columns new fit (lines, made, counted, some, splits, are, is) utf8 = splits_text o (length columns) text rest lines fit splits utf8

pub step_room : (used : List Bool) (old new : List Values) (row : Option Row) (rows behind all : ℕ) → GainsRow used old row rows new → behind < all → rows + behind ≤ all
step_room used old new row rows behind all gains shorter = omega (arith, shorter, gains_one used old new row rows gains)

-- a record that was read is a turn
pub turn_of_record : (o : Dialect) (used : List Bool) (file : ℕ) (head : Bool) (at : ℕ) (text : List ℕ) (old new : List Values) (result : Result Step Fault)
    → StepsTo o used file head at text old result new → TurnsTo o used file head at text old result new
turn_of_record o used file head at text old new (Ok step) is = inl is
turn_of_record o used file head at text old new (Err fault) is = is
