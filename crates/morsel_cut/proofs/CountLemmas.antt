-- The rows that records are, by the grammar, are as many as are counted.
use Rattle.std.proofs.Common.{◌≡◌, ℕ, suc, ◌+◌, ◌∙◌, sym, ap, refl, arith, cond, Bool, true, false, ◌==◌, List, [], ◌∷◌, length}
use Rattle.std.proofs.lemmas.List.Sums.{sum_by-append, sum_by-cons}
use Rattle.std.specs.Prelude.{Option, Some, None, not, ◌||◌, if◌then◌else◌}
use Rattle.morsel_meaning.specs.declared.value.ColType.{ColType}
use Rattle.morsel_grammar.specs.Dialect.{Dialect}
use Rattle.morsel_grammar.specs.Grammar.{CsvRecord, Comment, Fields}
use Rattle.morsel_grammar.specs.Cells.{CsvCell}
use Rattle.morsel_grammar.specs.Rows.{RowOf, NoRow, IsRow, Misfit, is_empty, cells_of, row_of_nothing, row_or_misfit, row_of, with_first_row, rows_of_records}
use Rattle.morsel_grammar.proofs.ByteLemmas.{other_byte, either_second}
use Rattle.morsel_cut.specs.RowCounts.{is_row, row_count, CountsRows, AddsRows}

-- what a record is to the rows, and whether it counts
abbrev pub Agrees : RowOf → Bool → Type 0
Agrees NoRow counts = counts ≡ false
Agrees (IsRow cells) counts = counts ≡ true
Agrees Misfit counts = Unit {0}

nothing_agrees : (kinds : List ColType) → Agrees (row_of_nothing kinds) (length kinds == 1 || false)
nothing_agrees [] = refl
nothing_agrees (kind ∷ []) = refl
nothing_agrees (kind ∷ other ∷ kinds) =
    let many : (suc (suc (length kinds)) == 1) ≡ false = other_byte (suc (suc (length kinds))) 1 (λ e. omega arith) in
    ap (λ (t : Bool). t || false) many

cells_agree : (columns : ℕ) (cells : Option (List CsvCell)) → Agrees (row_or_misfit cells) (columns == 1 || true)
cells_agree columns None = tt
cells_agree columns (Some cells) = either_second (columns == 1) true refl

pub record_agrees : (o : Dialect) (kinds : List ColType) (r : CsvRecord) → Agrees (row_of o kinds r) (is_row (length kinds) r)
record_agrees o kinds (Comment body) = refl
record_agrees o kinds (Fields fields) = by (is_empty fields)
  where
    by : (t : Bool) → Agrees (if t then row_of_nothing kinds else row_or_misfit (cells_of o kinds fields)) (length kinds == 1 || not t)
    by true = nothing_agrees kinds
    by false = cells_agree (length kinds) (cells_of o kinds fields)

one_more : (found : RowOf) (counts : Bool) (later : Option (List (List CsvCell))) (n : ℕ) (rows : List (List CsvCell)) → Agrees found counts
    → ((rows : List (List CsvCell)) → later ≡ Some rows → length rows ≡ n) → with_first_row found later ≡ Some rows → length rows ≡ cond counts 1 0 + n
one_more NoRow counts later n rows agrees more is =
    let none : ◌≡◌ {A = ℕ} (cond counts 1 0) 0 = ap (λ (t : Bool). cond t 1 0) agrees in omega (arith, none, more rows is)
one_more (IsRow cells) counts None n rows agrees more is = cc
one_more (IsRow cells) counts (Some found) n rows agrees more is =
    let one : ◌≡◌ {A = ℕ} (cond counts 1 0) 1 = ap (λ (t : Bool). cond t 1 0) agrees in
    let all : cells ∷ found ≡ rows = cc in
    let size : suc (length found) ≡ length rows = ap length all in
    omega (arith, one, size, more found refl)
one_more Misfit counts later n rows agrees more is = cc

counts_all : (o : Dialect) (kinds : List ColType) (records : List CsvRecord) (rows : List (List CsvCell)) → rows_of_records o kinds records ≡ Some rows
    → length rows ≡ row_count (length kinds) records
counts_all o kinds [] rows is = let none : [] ≡ rows = cc in sym (ap length none)
counts_all o kinds (r ∷ records) rows is =
    one_more (row_of o kinds r) (is_row (length kinds) r) (rows_of_records o kinds records) (row_count (length kinds) records) rows
    (record_agrees o kinds r) (λ later found. counts_all o kinds records later found) is
    ∙ sym (sum_by-cons (λ (x : CsvRecord). cond (is_row (length kinds) x) 1 0) r records)

pub counts_rows : (o : Dialect) → CountsRows o
counts_rows o = λ kinds records rows is. counts_all o kinds records rows is

pub adds_rows : AddsRows
adds_rows = λ columns front back. sum_by-append (λ (x : CsvRecord). cond (is_row columns x) 1 0) front back
