-- How many rows are read of a text, and how many of its records count as rows.
use Rattle.std.specs.Prelude.{◌≡◌, ℕ, ◌+◌, ◌≤◌, Bool, true, false, if◌then◌else◌, None, List, [], ◌∷◌, length}
use Rattle.std.proofs.Common.{sym, subst, refl, arith, ap, cond}
use Rattle.std.specs.Str.{is_utf8}
use Rattle.std.proofs.lemmas.List.Sums.{sum_by-cons}
use Rattle.std.proofs.lemmas.List.{length-map}
use Rattle.morsel_meaning.specs.declared.value.ColType.{ColType}
use Rattle.morsel_meaning.specs.declared.value.Field.{Field}
use Rattle.morsel_meaning.specs.Values.{kinds_of}
use Rattle.morsel_grammar.specs.Dialect.{Dialect, IsDialect}
use Rattle.morsel_grammar.specs.Grammar.{CsvRecord, Records}
use Rattle.morsel_grammar.specs.Rows.{RowOf, NoRow, IsRow, Misfit, row_of}
use Rattle.morsel_grammar.specs.Reading.{NotUtf8, Reading, reading, refuses, row_then}
use Rattle.morsel_grammar.proofs.FirstRecordLemmas.{record_taken}
use Rattle.morsel_grammar.proofs.JoinedLemmas.{reading-record}
use Rattle.morsel_cut.specs.RowCounts.{is_row, row_count}
use Rattle.morsel_cut.proofs.CountLemmas.{Agrees, record_agrees}
use Rattle.morsel_scan.specs.Scans.{CsvScan}

-- no more rows were read than this number, and as many where no record is refused
pub record IsCounted (r : Reading) (n : ℕ) : Type 0 where
  pub most : length r.rows ≤ n
  pub all : r.refusal ≡ None → length r.rows ≡ n

counted_row : (at : ℕ) (row : RowOf) (t : Bool) (later : Reading) (n : ℕ) → Agrees row t → IsCounted later n → IsCounted (row_then false at row later) (cond t 1 0 + n)
counted_row at NoRow t later n agrees is =
    let none : ◌≡◌ {A = ℕ} (cond t 1 0) 0 = ap (λ (t : Bool). cond t 1 0) agrees in
    let same : n ≡ cond t 1 0 + n = omega (arith, none) in subst (λ m. IsCounted later m) same is
counted_row at (IsRow cells) t later n agrees is =
    let one : ◌≡◌ {A = ℕ} (cond t 1 0) 1 = ap (λ (t : Bool). cond t 1 0) agrees in record {
      most = let h = is.most in omega (arith, one, h);
      all = λ none. let h = is.all none in omega (arith, one, h);
    }
counted_row at Misfit t later n agrees is = record { most = omega arith; all = λ none. absurd (cc) }

counted_record : (at : ℕ) (row : RowOf) (counts : Bool) (later : Reading) (n : ℕ) (t : Bool) → Agrees row counts → IsCounted later n
    → IsCounted (if t then row_then false at row later else refuses false at NotUtf8) (cond counts 1 0 + n)
counted_record at row counts later n true agrees is = counted_row at row counts later n agrees is
counted_record at row counts later n false agrees is = record { most = omega arith; all = λ none. absurd (cc) }

counted_kinds : (o : Dialect) (kinds : List ColType) (at : ℕ) (text : List ℕ) (records : List CsvRecord) → IsDialect o → Records o text records
    → IsCounted (reading o kinds false at text) (row_count (length kinds) records)
counted_kinds o kinds at text [] fit split =
    subst (λ t. IsCounted (reading o kinds false at t) 0) (sym split) (record { most = omega arith; all = λ none. refl })
counted_kinds o kinds at text (r ∷ records) fit (some, next, is, later) =
    let taken = record_taken o r text next fit is some in
    let rest : Reading = reading o kinds false (at + length taken.0) next in
    let row : RowOf = row_of o kinds r in
    let counts : Bool = is_row (length kinds) r in
    let n : row_count (length kinds) (r ∷ records) ≡ cond counts 1 0 + row_count (length kinds) records =
    sum_by-cons (λ (x : CsvRecord). cond (is_row (length kinds) x) 1 0) r records in
    let here : IsCounted (if is_utf8 taken.0 then row_then false at row rest else refuses false at NotUtf8) (cond counts 1 0 + row_count (length kinds) records) =
    counted_record at row counts rest (row_count (length kinds) records) (is_utf8 taken.0) (record_agrees o kinds r) (counted_kinds o kinds (at + length taken.0) next records fit later) in
    subst (λ m. IsCounted (reading o kinds false at text) m) (sym n)
    (subst (λ x. IsCounted x (cond counts 1 0 + row_count (length kinds) records)) (sym (reading-record o kinds false at r text next taken.0 fit taken.1)) here)

-- the records of a text count the rows that are read of it
pub counted : (s : CsvScan) (at : ℕ) (text : List ℕ) (records : List CsvRecord) → IsDialect s.options → Records s.options text records
    → IsCounted (reading s.options (kinds_of s.scan.fields) false at text) (row_count (length s.scan.fields) records)
counted s at text records fit split =
    subst (λ columns. IsCounted (reading s.options (kinds_of s.scan.fields) false at text) (row_count columns records))
    (length-map s.scan.fields (λ (f : Field). f.kind)) (counted_kinds s.options (kinds_of s.scan.fields) at text records fit split)
