-- The place of the row after so many rows.
use Rattle.std.proofs.Common.{◌≡◌, ℕ, ◌+◌, ap, sym, subst, refl, ◌∙◌, inl, inr, arith}
use Rattle.std.proofs.lemmas.List.{append-nil, length-map}
use Rattle.std.specs.Prelude.{Bool, true, false, ◌⊎◌, if◌then◌else◌, Option, Some, None, List, [], ◌∷◌, ◌++◌, length}
use Rattle.std.specs.Str.{is_utf8}
use Rattle.morsel_meaning.specs.declared.value.ColType.{ColType}
use Rattle.morsel_grammar.specs.Dialect.{Dialect, IsDialect}
use Rattle.morsel_grammar.specs.Grammar.{CsvRecord}
use Rattle.morsel_grammar.specs.Cells.{CsvCell}
use Rattle.morsel_grammar.specs.Rows.{RowOf, IsRow, row_of}
use Rattle.morsel_grammar.specs.Reading.{NotUtf8, Refusal, Reading, refuses, with_cells, row_then, record_then, reading}
use Rattle.morsel_grammar.specs.GrammarRows.{HasRows, HasRowAt}
use Rattle.morsel_grammar.specs.Joined.{joined_at}
use Rattle.morsel_grammar.specs.OneEnd.{StandsOnce}
use Rattle.morsel_grammar.proofs.FirstRecordLemmas.{record_taken}
use Rattle.morsel_grammar.proofs.ReadingLemmas.{reading-ends}
use Rattle.morsel_grammar.proofs.JoinedLemmas.{reading-record, reading-joined}
use Rattle.morsel_grammar.proofs.WholeRecordLemmas.{records_whole}

-- after so many rows a row was read at the place, or its record was refused there
abbrev pub StandsAt : Reading → ℕ → ℕ → Type 0
StandsAt r n place = ((before : List (ℕ × List CsvCell)) × (cells : List CsvCell) × (after : List (ℕ × List CsvCell)) × (r.rows ≡ before ++ (place, cells) ∷ after) × (length before ≡ n))
    ⊎ ((length r.rows ≡ n) × (r.refusal ≡ Some (record { at = place; flaw = NotUtf8 })))

-- the first record of a text is a row
stands_first : (place : ℕ) (cells : List CsvCell) (later : Reading) (t : Bool) → StandsAt (if t then with_cells place cells later else refuses false place NotUtf8) 0 place
stands_first place cells later true = inl ([], cells, later.rows, refl, refl)
stands_first place cells later false = inr (refl, refl)

stands_row : (o : Dialect) (kinds : List ColType) (place : ℕ) (bytes : List ℕ) (r : CsvRecord) (cells : List CsvCell) (later : Bool → Reading) → row_of o kinds r ≡ IsRow cells
    → StandsAt (record_then o kinds false place bytes r later) 0 place
stands_row o kinds place bytes r cells later is =
    let P : RowOf → Type 0 = λ row. StandsAt (if is_utf8 bytes then row_then false place row (later false) else refuses false place NotUtf8) 0 place in
    subst P (sym is) (stands_first place cells (later false) (is_utf8 bytes))

length-joined : (rows more : List (ℕ × List CsvCell)) (n : ℕ) → length more ≡ 0 → length rows ≡ n → length (rows ++ more) ≡ n
length-joined rows [] n none same = ap length (append-nil rows) ∙ same
length-joined rows (row ∷ more) n none same = absurd (omega arith)

-- rows that are read first
stands_behind : (rows : List (ℕ × List CsvCell)) (head : Bool) (refusal : Option Refusal) (later : Bool → Reading) (n place : ℕ) → refusal ≡ None → head ≡ false → length rows ≡ n
    → StandsAt (later false) 0 place → StandsAt (joined_at rows head refusal later) n place
stands_behind rows head (Some refusal) later n place none is same stands = cc
stands_behind rows true None later n place none is same stands = cc
stands_behind rows false None later n place none is same (inl ([], cells, after, split, count)) =
    inl (rows, cells, after, ap (λ (x : List (ℕ × List CsvCell)). rows ++ x) split, same)
stands_behind rows false None later n place none is same (inl (row ∷ before, cells, after, split, count)) = absurd (omega arith)
stands_behind rows false None later n place none is same (inr (count, refused)) = inr (length-joined rows (later false).rows n count same, refused)

-- what the grammar says of a row is what is read
pub stands_at : (o : Dialect) (kinds : List ColType) (head : Bool) (at : ℕ) (text : List ℕ) (before : List (List CsvCell)) (place : ℕ) (cells : List CsvCell) → IsDialect o
    → HasRowAt o kinds head at text before place cells → StandsAt (reading o kinds head at text) (length before) place
stands_at o kinds head at text before place cells fit (rest, r, after, behind, is, row) =
    let front : List ℕ = behind.front in
    let has : HasRows o kinds head front before false = record {
      utf8 = behind.utf8;
      records = behind.records;
      split = records_whole o front behind.records fit behind.whole;
      rows_are = behind.rows_are;
      awaits_header_is = behind.awaits_header_is;
    } in
    let first = reading-ends o kinds head at front before false fit has in
    let all = record_taken o r rest after fit is behind.some_rest in
    let here : ℕ = at + length front in
    let width : length (reading o kinds head at front).rows ≡ length before =
    sym (length-map (reading o kinds head at front).rows (λ (x : ℕ × List CsvCell). x.1)) ∙ ap length first.1 in
    let P : Reading → Type 0 = λ x. StandsAt x 0 here in
    let Q : Reading → Type 0 = λ x. StandsAt x (length before) here in
    let S : ℕ → Type 0 = λ n. StandsAt (reading o kinds head at text) (length before) n in
    let stands = subst P (sym (reading-record o kinds false here r rest after all.0 fit all.1))
    (stands_row o kinds here all.0 r cells (λ awaits_header. reading o kinds awaits_header (here + length all.0) after) row) in
    let same = ap (reading o kinds head at) behind.split ∙ reading-joined o kinds head at front rest behind.records fit behind.whole in
    subst S (sym behind.place_is) (subst Q (sym same)
    (stands_behind (reading o kinds head at front).rows (reading o kinds head at front).head (reading o kinds head at front).refusal (λ awaits_header. reading o kinds awaits_header here rest)
    (length before) here first.0 first.2 width stands))

-- two rows after as many rows
same_middle : (rows others : List (ℕ × List CsvCell)) (row other : ℕ × List CsvCell) (after more : List (ℕ × List CsvCell)) → length rows ≡ length others
    → rows ++ row ∷ after ≡ others ++ other ∷ more → row ≡ other
same_middle [] [] row other after more count is = cc
same_middle [] (o ∷ others) row other after more count is = absurd (omega arith)
same_middle (r ∷ rows) [] row other after more count is = absurd (omega arith)
same_middle (r ∷ rows) (o ∷ others) row other after more count is = same_middle rows others row other after more (omega arith) (cc)

longer : (rows : List (ℕ × List CsvCell)) (row : ℕ × List CsvCell) (after : List (ℕ × List CsvCell)) → length (rows ++ row ∷ after) ≡ length rows → ⊥
longer [] row after is = omega arith
longer (r ∷ rows) row after is = longer rows row after (omega arith)

one_place : (r : Reading) (n place other : ℕ) → StandsAt r n place → StandsAt r n other → place ≡ other
one_place r n place other (inl one) (inl two) = ap (λ (x : ℕ × List CsvCell). x.0) (same_middle one.0 two.0 (place, one.1) (other, two.1) one.2 two.2 (one.4 ∙ sym two.4) (sym one.3 ∙ two.3))
one_place r n place other (inl one) (inr two) = absurd (longer one.0 (place, one.1) one.2 (sym (ap length one.3) ∙ two.0 ∙ sym one.4))
one_place r n place other (inr one) (inl two) = absurd (longer two.0 (other, two.1) two.2 (sym (ap length two.3) ∙ one.0 ∙ sym two.4))
one_place r n place other (inr one) (inr two) =
    let a : Refusal = record { at = place; flaw = NotUtf8 } in
    let b : Refusal = record { at = other; flaw = NotUtf8 } in
    let same : Some a ≡ Some b = sym one.1 ∙ two.1 in
    let inside : a ≡ b = cc in ap (λ (x : Refusal). x.at) inside

pub stands_once : (o : Dialect) → IsDialect o → StandsOnce o
stands_once o fit = λ kinds head at text before others place other cells more is also count.
    let P : ℕ → Type 0 = λ n. StandsAt (reading o kinds head at text) n other in
    one_place (reading o kinds head at text) (length before) place other (stands_at o kinds head at text before place cells fit is)
    (subst P (sym count) (stands_at o kinds head at text others other more fit also))
