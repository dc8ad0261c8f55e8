-- The rows of the used columns, up to the first bad cell.
use Rattle.std.proofs.Common.{◌≡◌, ℕ, ap, sym, subst, refl, ◌∙◌, inl, inr}
use Rattle.std.proofs.lemmas.List.{map-append}
use Rattle.std.specs.Prelude.{Bool, false, ◌⊎◌, Option, Some, None, List, [], ◌∷◌, ◌++◌, map}
use Rattle.morsel_meaning.specs.declared.value.ColType.{ColType}
use Rattle.morsel_meaning.specs.Values.{Row}
use Rattle.morsel_grammar.specs.Dialect.{Dialect, IsDialect}
use Rattle.morsel_grammar.specs.Cells.{CsvCell}
use Rattle.morsel_grammar.specs.Reading.{IllTyped, Refusal, Reading, reading, used_values, Read, value_then, used_rows, read_of}
use Rattle.morsel_grammar.specs.GrammarRows.{values_of, HasRows, IsRefusedAt, RowsOfGrammar}
use Rattle.morsel_grammar.proofs.ReadingLemmas.{cells_in, IsReading, reading-is, reading-ends}

-- the values of rows with places
abbrev pub values_in : List (ℕ × Row) → List Row
values_in rows = map (λ (row : ℕ × Row). row.1) rows

-- all rows were taken
abbrev pub TakesAll : List Bool → Bool → List (ℕ × List CsvCell) → Option Refusal → Read → Type 0
TakesAll used head rows refusal read = (values_of used (cells_in rows) ≡ Some (values_in read.rows)) × (read.refusal ≡ refusal) × (read.head ≡ head)

-- the rows before one with a bad cell were taken
abbrev pub TakesBefore : List Bool → List (ℕ × List CsvCell) → Read → Type 0
TakesBefore used rows read = (before : List (ℕ × List CsvCell)) × (place : ℕ) × (cells : List CsvCell) × (after : List (ℕ × List CsvCell))
    × (rows ≡ before ++ (place, cells) ∷ after) × (values_of used (cells_in before) ≡ Some (values_in read.rows)) × (used_values used cells ≡ None)
    × (read.refusal ≡ Some (record { at = place; flaw = IllTyped }))

takes_row : (used : List Bool) (head : Bool) (place : ℕ) (cells : List CsvCell) (rows : List (ℕ × List CsvCell)) (refusal : Option Refusal) (read : Read) (found : Option Row)
    → used_values used cells ≡ found → (TakesAll used head rows refusal read) ⊎ (TakesBefore used rows read)
    → (TakesAll used head ((place, cells) ∷ rows) refusal (value_then head place found read)) ⊎ (TakesBefore used ((place, cells) ∷ rows) (value_then head place found read))
takes_row used head place cells rows refusal read None bad later = inr ([], place, cells, rows, refl, refl, bad, refl)
takes_row used head place cells rows refusal read (Some row) held (inl all) = inl (rw (held, all.0) refl, all.1, all.2)
takes_row used head place cells rows refusal read (Some row) held (inr some) =
    inr ((place, cells) ∷ some.0, some.1, some.2, some.3, ap (λ (x : List (ℕ × List CsvCell)). (place, cells) ∷ x) some.4, rw (held, some.5) refl, some.6, some.7)

used_rows-takes : (used : List Bool) (head : Bool) (rows : List (ℕ × List CsvCell)) (refusal : Option Refusal)
    → (TakesAll used head rows refusal (used_rows used head rows refusal)) ⊎ (TakesBefore used rows (used_rows used head rows refusal))
used_rows-takes used head [] refusal = inl (refl, refl, refl)
used_rows-takes used head (row ∷ rows) refusal =
    takes_row used head row.0 row.1 rows refusal (used_rows used head rows refusal) (used_values used row.1) refl (used_rows-takes used head rows refusal)

read_all : (o : Dialect) (kinds : List ColType) (used : List Bool) (head : Bool) (at : ℕ) (text : List ℕ) (r : Reading) (read : Read) (refusal : Option Refusal)
    → r.refusal ≡ refusal → IsReading o kinds used head at text r → values_of used (cells_in r.rows) ≡ Some (values_in read.rows) → read.head ≡ r.head
    → RowsOfGrammar o kinds used head at text (values_in read.rows) read.head refusal
read_all o kinds used head at text r read None none is values awaits_header =
    let P : Bool → Type 0 = λ x. HasRows o kinds head text (cells_in r.rows) x in
    (cells_in r.rows, subst P (sym awaits_header) (is.done none), values)
read_all o kinds used head at text r read (Some refusal) one is values awaits_header = (cells_in r.rows, is.stopped refusal one, values)

read_taken : (o : Dialect) (kinds : List ColType) (used : List Bool) (head : Bool) (at : ℕ) (text : List ℕ) (r : Reading) (read : Read) → IsReading o kinds used head at text r
    → (TakesAll used r.head r.rows r.refusal read) ⊎ (TakesBefore used r.rows read)
    → RowsOfGrammar o kinds used head at text (values_in read.rows) read.head read.refusal
read_taken o kinds used head at text r read is (inl all) =
    read_all o kinds used head at text r read read.refusal (sym all.1) is all.0 all.2
read_taken o kinds used head at text r read is (inr some) =
    let row = is.rows some.0 some.1 some.2 some.3 some.4 in
    let bad : IsRefusedAt o kinds used head at text (cells_in some.0) (record { at = some.1; flaw = IllTyped }) =
    (false, row.0, row.3, (row.1, row.2, row.4, refl, (some.2, row.5, some.6))) in
    let P : Option Refusal → Type 0 = λ x. RowsOfGrammar o kinds used head at text (values_in read.rows) read.head x in
    subst P (sym some.7) (cells_in some.0, bad, some.5)

-- the rows of the used columns are those of the grammar
pub read_of-rows : (o : Dialect) (kinds : List ColType) (used : List Bool) (head : Bool) (at : ℕ) (text : List ℕ) → IsDialect o
    → (let read = read_of used (reading o kinds head at text) in RowsOfGrammar o kinds used head at text (values_in read.rows) read.head read.refusal)
read_of-rows o kinds used head at text fit =
    let r = reading o kinds head at text in
    read_taken o kinds used head at text r (read_of used r) (reading-is o kinds used head at text fit) (used_rows-takes used r.head r.rows r.refusal)

with_values_before : (used : List Bool) (cells : List CsvCell) (before after : List (List CsvCell)) → used_values used cells ≡ None → values_of used (before ++ cells ∷ after) ≡ None
with_values_before used cells [] after bad = rw bad refl
with_values_before used cells (c ∷ before) after bad = none_behind used c (before ++ cells ∷ after) (used_values used c) refl (with_values_before used cells before after bad)
  where
    none_behind : (used : List Bool) (c : List CsvCell) (rows : List (List CsvCell)) (found : Option Row) → used_values used c ≡ found → values_of used rows ≡ None
        → values_of used (c ∷ rows) ≡ None
    none_behind used c rows None is none = rw is refl
    none_behind used c rows (Some row) is none = rw (is, none) refl

ends_taken : (used : List Bool) (r : Reading) (read : Read) (cells : List (List CsvCell)) (rows : List Row) → r.refusal ≡ None → cells_in r.rows ≡ cells → values_of used cells ≡ Some rows
    → (TakesAll used r.head r.rows r.refusal read) ⊎ (TakesBefore used r.rows read)
    → (read.refusal ≡ None) × (values_in read.rows ≡ rows) × (read.head ≡ r.head)
ends_taken used r read cells rows none same values (inl all) =
    let found : Some (values_in read.rows) ≡ Some rows = sym all.0 ∙ ap (values_of used) same ∙ values in
    (all.1 ∙ none, cc, all.2)
ends_taken used r read cells rows none same values (inr some) =
    let split : cells_in r.rows ≡ cells_in some.0 ++ some.2 ∷ cells_in some.3 =
    ap cells_in some.4 ∙ map-append (λ (row : ℕ × List CsvCell). row.1) some.0 ((some.1, some.2) ∷ some.3) in
    let bad : values_of used cells ≡ None = ap (values_of used) (sym same ∙ split) ∙ with_values_before used some.2 (cells_in some.0) (cells_in some.3) some.6 in
    cc

-- a text whose rows are of the grammar is read to its end
pub read_of-ends : (o : Dialect) (kinds : List ColType) (used : List Bool) (head : Bool) (at : ℕ) (text : List ℕ) (cells : List (List CsvCell)) (rows : List Row) (awaits_header : Bool) → IsDialect o
    → HasRows o kinds head text cells awaits_header → values_of used cells ≡ Some rows
    → (let read = read_of used (reading o kinds head at text) in (read.refusal ≡ None) × (values_in read.rows ≡ rows) × (read.head ≡ awaits_header))
read_of-ends o kinds used head at text cells rows awaits_header fit has values =
    let r = reading o kinds head at text in
    let whole = reading-ends o kinds head at text cells awaits_header fit has in
    let taken = ends_taken used r (read_of used r) cells rows whole.0 whole.1 values (used_rows-takes used r.head r.rows r.refusal) in
    (taken.0, taken.1, taken.2 ∙ whole.2)
