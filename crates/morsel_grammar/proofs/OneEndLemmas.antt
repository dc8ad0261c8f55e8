-- The rows of a text by the grammar, and the place of the record that is refused, are those that are read.
use Rattle.std.proofs.Common.{◌≡◌, ◌≢◌, ℕ, suc, ◌+◌, ap, sym, subst, refl, ◌∙◌, inl, inr}
use Rattle.std.proofs.lemmas.List.{append-nil, append_cancel_right}
use Rattle.std.proofs.lemmas.Str.{IsUtf8-from_is_utf8}
use Rattle.std.specs.Prelude.{Bool, true, false, not, if◌then◌else◌, Option, Some, None, List, [], ◌∷◌, ◌++◌, length, IsUtf8}
use Rattle.std.specs.Str.{is_utf8}
use Rattle.morsel_meaning.specs.declared.value.ColType.{ColType}
use Rattle.morsel_meaning.specs.Values.{Row}
use Rattle.morsel_grammar.specs.Dialect.{Dialect, IsDialect}
use Rattle.morsel_grammar.specs.Grammar.{CsvField, CsvRecord, Comment, Fields, IsRecord}
use Rattle.morsel_grammar.specs.Cells.{CsvCell}
use Rattle.morsel_grammar.specs.Rows.{RowOf, IsRow, Misfit, is_header, cells_of, row_of}
use Rattle.morsel_grammar.specs.Reading.{Flaw, Malformed, NotUtf8, IllTyped, Refusal, Reading, refuses, row_then, record_then, split_then, reading, used_values, Read, value_then, read_of}
use Rattle.morsel_grammar.specs.GrammarRows.{HasOtherWidth, HasRows, HasFlaw, RowsOfGrammar}
use Rattle.morsel_grammar.specs.Joined.{joined_read_at}
use Rattle.morsel_grammar.specs.OneEnd.{place_in, EndsOnce}
use Rattle.morsel_grammar.proofs.RecordLemmas.{refuses_by_grammar}
use Rattle.morsel_grammar.proofs.FirstRecordLemmas.{record_taken}
use Rattle.morsel_grammar.proofs.WholeRecordLemmas.{records_whole}
use Rattle.morsel_grammar.proofs.UsedRowLemmas.{values_in, read_of-ends}
use Rattle.morsel_grammar.proofs.JoinedLemmas.{reading-split, reading-record}
use Rattle.morsel_grammar.proofs.PieceRowLemmas.{reads_rows_of_pieces}

-- nothing is read but the place of a refused record
abbrev pub StopsAt : ℕ → Read → Type 0
StopsAt at read = (read.rows ≡ []) × (place_in read.refusal ≡ Some at)

stops_refused : (used : List Bool) (head : Bool) (at : ℕ) (flaw : Flaw) → StopsAt at (read_of used (refuses head at flaw))
stops_refused used head at flaw = (refl, refl)

-- another flaw of a record that is not UTF-8 is told of the same place
stops_utf8 : (used : List Bool) (head : Bool) (at : ℕ) (kept : Reading) (t : Bool) → StopsAt at (read_of used kept)
    → StopsAt at (read_of used (if t then kept else refuses head at NotUtf8))
stops_utf8 used head at kept true is = is
stops_utf8 used head at kept false is = stops_refused used head at NotUtf8

stops_not_utf8 : (used : List Bool) (head : Bool) (at : ℕ) (bytes : List ℕ) (kept : Reading) (t : Bool) → is_utf8 bytes ≡ t → (IsUtf8 bytes → ⊥)
    → StopsAt at (read_of used (if t then kept else refuses head at NotUtf8))
stops_not_utf8 used head at bytes kept true is never = absurd (never (IsUtf8-from_is_utf8 bytes is))
stops_not_utf8 used head at bytes kept false is never = stops_refused used head at NotUtf8

-- a record of another width is no row
pub cells_of-other : (o : Dialect) (kinds : List ColType) (fields : List CsvField) → length fields ≢ length kinds → cells_of o kinds fields ≡ None
cells_of-other o [] [] other = absurd (other refl)
cells_of-other o [] (f ∷ fields) other = refl
cells_of-other o (kind ∷ kinds) [] other = refl
cells_of-other o (kind ∷ kinds) (f ∷ fields) other = rw (cells_of-other o kinds fields (λ same. other (ap suc same))) refl

pub row_of-other : (o : Dialect) (kinds : List ColType) (r : CsvRecord) → HasOtherWidth kinds r → row_of o kinds r ≡ Misfit
row_of-other o kinds (Comment body) other = absurd other
row_of-other o kinds (Fields fields) other = rw (other.0, cells_of-other o kinds fields other.1) refl

stops_misfit : (used : List Bool) (at : ℕ) (row : RowOf) (later : Reading) → row ≡ Misfit → StopsAt at (read_of used (row_then false at row later))
stops_misfit used at row later is = rw is (stops_refused used false at Malformed)

stops_value : (head : Bool) (at : ℕ) (found : Option Row) (later : Read) → found ≡ None → StopsAt at (value_then head at found later)
stops_value head at found later is = rw is (refl, refl)

stops_bad : (used : List Bool) (at : ℕ) (row : RowOf) (cells : List CsvCell) (later : Reading) → row ≡ IsRow cells → used_values used cells ≡ None
    → StopsAt at (read_of used (row_then false at row later))
stops_bad used at row cells later is bad = rw is (stops_value later.head at (used_values used cells) (read_of used later) bad)

-- after the header a record whose row stops, whatever its bytes are
stops_row : (o : Dialect) (kinds : List ColType) (used : List Bool) (at : ℕ) (text next : List ℕ) (r : CsvRecord) → IsDialect o → text ≢ [] → IsRecord o r text next
    → ((later : Reading) → StopsAt at (read_of used (row_then false at (row_of o kinds r) later))) → StopsAt at (read_of used (reading o kinds false at text))
stops_row o kinds used at text next r fit some is stops =
    let all = record_taken o r text next fit is some in
    let later : Bool → Reading = λ awaits_header. reading o kinds awaits_header (at + length all.0) next in
    let P : Reading → Type 0 = λ x. StopsAt at (read_of used x) in
    subst P (sym (reading-record o kinds false at r text next all.0 fit all.1))
    (stops_utf8 used false at (row_then false at (row_of o kinds r) (later false)) (is_utf8 all.0) (stops (later false)))

stops_bytes : (o : Dialect) (kinds : List ColType) (used : List Bool) (head : Bool) (at : ℕ) (bytes : List ℕ) (r : CsvRecord) (later : Bool → Reading) → (IsUtf8 bytes → ⊥)
    → StopsAt at (read_of used (record_then o kinds head at bytes r later))
stops_bytes o kinds used head at bytes r later never =
    stops_not_utf8 used head at bytes (if head then later (not (is_header r)) else row_then false at (row_of o kinds r) (later false)) (is_utf8 bytes) refl never

-- what has a flaw is refused where it begins
stops_at : (o : Dialect) (kinds : List ColType) (used : List Bool) (awaits_header : Bool) (at : ℕ) (text : List ℕ) (flaw : Flaw) → IsDialect o → text ≢ []
    → HasFlaw o kinds used awaits_header text flaw → StopsAt at (read_of used (reading o kinds awaits_header at text))
stops_at o kinds used awaits_header at text Malformed fit some (inl none) =
    let P : Reading → Type 0 = λ x. StopsAt at (read_of used x) in
    subst P (sym (reading-split o kinds awaits_header at text fit some
    ∙ ap (λ found. split_then o kinds awaits_header at text found (λ awaits_header place rest. reading o kinds awaits_header place rest)) ((refuses_by_grammar o fit text).1 none)))
    (stops_refused used awaits_header at Malformed)
stops_at o kinds used awaits_header at text Malformed fit some (inr (r, next, is, behind, other)) =
    let P : Bool → Type 0 = λ x. StopsAt at (read_of used (reading o kinds x at text)) in
    subst P (sym behind) (stops_row o kinds used at text next r fit some is (λ later. stops_misfit used at (row_of o kinds r) later (row_of-other o kinds r other)))
stops_at o kinds used awaits_header at text NotUtf8 fit some (r, bytes, next, is, split, never) =
    let all = record_taken o r text next fit is some in
    let same : bytes ≡ all.0 = append_cancel_right bytes all.0 next (sym split ∙ all.1.split) in
    let Q : List ℕ → Type 0 = λ x. IsUtf8 x → ⊥ in
    let P : Reading → Type 0 = λ x. StopsAt at (read_of used x) in
    subst P (sym (reading-record o kinds awaits_header at r text next all.0 fit all.1))
    (stops_bytes o kinds used awaits_header at all.0 r (λ later. reading o kinds later (at + length all.0) next) (subst Q same never))
stops_at o kinds used awaits_header at text IllTyped fit some (r, next, is, behind, bad) =
    let P : Bool → Type 0 = λ x. StopsAt at (read_of used (reading o kinds x at text)) in
    subst P (sym behind) (stops_row o kinds used at text next r fit some is (λ later. stops_bad used at (row_of o kinds r) bad.0 later bad.1 bad.2))

-- rows that are read first, and then a refused record
joined_stops : (rows : List (ℕ × Row)) (head awaits_header : Bool) (refusal : Option Refusal) (later : Bool → Read) (values : List Row) (place : ℕ)
    → refusal ≡ None → values_in rows ≡ values → head ≡ awaits_header → StopsAt place (later awaits_header)
    → (let all = joined_read_at rows head refusal later in (values_in all.rows ≡ values) × (place_in all.refusal ≡ Some place))
joined_stops rows head awaits_header None later values place none same is stops =
    let P : Bool → Type 0 = λ x. StopsAt place (later x) in
    let here = subst P (sym is) stops in
    (ap (λ (x : List (ℕ × Row)). values_in (rows ++ x)) here.0 ∙ ap values_in (append-nil rows) ∙ same, here.1)
joined_stops rows head awaits_header (Some refusal) later values place none same is stops = cc

-- what the grammar says of a text is what is read of it
pub read_of-one : (o : Dialect) (kinds : List ColType) (used : List Bool) (head : Bool) (at : ℕ) (text : List ℕ) (rows : List Row) (awaits_header : Bool) (refusal : Option Refusal)
    → IsDialect o → RowsOfGrammar o kinds used head at text rows awaits_header refusal
    → (let read = read_of used (reading o kinds head at text) in (values_in read.rows ≡ rows) × (place_in read.refusal ≡ place_in refusal))
read_of-one o kinds used head at text rows awaits_header None fit is =
    let whole = read_of-ends o kinds used head at text is.0 rows awaits_header fit is.1 is.2 in (whole.1, ap place_in whole.0)
read_of-one o kinds used head at text rows awaits_header (Some refusal) fit (cells, refused, values) =
    let later : Bool = refused.0 in
    let rest : List ℕ = refused.1 in
    let before = refused.2 in
    let front : List ℕ = before.front in
    let has : HasRows o kinds head front cells later = record {
      utf8 = before.utf8;
      records = before.records;
      split = records_whole o front before.records fit before.whole;
      rows_are = before.rows_are;
      awaits_header_is = before.awaits_header_is;
    } in
    let first = read_of-ends o kinds used head at front cells rows later fit has values in
    let place : ℕ = at + length front in
    let read : Read = read_of used (reading o kinds head at front) in
    let stops = stops_at o kinds used later place rest refusal.flaw fit before.some_rest refused.3 in
    let all = joined_stops read.rows read.head later read.refusal (λ awaits_header. read_of used (reading o kinds awaits_header place rest)) rows place first.0 first.1 first.2 stops in
    let same = ap (λ x. read_of used (reading o kinds head at x)) before.split
    ∙ reads_rows_of_pieces o fit kinds used head at front rest before.records before.whole in (
      ap (λ (x : Read). values_in x.rows) same ∙ all.0,
      ap (λ (x : Read). place_in x.refusal) same ∙ all.1 ∙ ap (λ (n : ℕ). Some n) (sym before.place_is),
    )

pub ends_once : (o : Dialect) → IsDialect o → EndsOnce o
ends_once o fit = λ kinds used head at text rows others awaits_header other refusal found is also.
    let one = read_of-one o kinds used head at text rows awaits_header refusal fit is in
    let two = read_of-one o kinds used head at text others other found fit also in
    (sym one.0 ∙ two.0, sym one.1 ∙ two.1)
