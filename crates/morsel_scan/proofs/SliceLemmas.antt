-- Rows of a piece, of which a slice keeps some.
use Rattle.std.proofs.Common.{◌≡◌, ℕ, zero, suc, ◌+◌, ◌<◌, ◌≤◌, ap, refl, ◌∙◌, arith, take, drop}
use Rattle.std.specs.Prelude.{Bool, true, false, ◌&&◌, nat_le, nat_lt, if◌then◌else◌, Option, None, Result, Ok, Err, List, [], ◌∷◌}
use Rattle.std.proofs.lemmas.Bool.{le-leb, lt-ltb, le-ltb, lt-leb}
use Rattle.morsel_meaning.specs.declared.fault.Fault.{Fault}
use Rattle.morsel_meaning.specs.Values.{Row}
use Rattle.morsel_grammar.specs.Cells.{CsvCell}
use Rattle.morsel_grammar.specs.Reading.{used_values}
use Rattle.morsel_scan.specs.Scans.{Scan}
use Rattle.morsel_scan.specs.ScanColumns.{used_columns}
use Rattle.morsel_scan.specs.ScanRows.{Placed, placed, gathered_then, gathered, scanned, row_of_values}

-- the positions from one up to another
abbrev pub between : ℕ → ℕ → ℕ → Bool
between low high position = nat_le low position && nat_lt position high

-- all positions
abbrev pub always : ℕ → Bool
always position = true

pub between-in : (low high q : ℕ) → low ≤ q → q < high → between low high q ≡ true
between-in low high q from to = ap (λ t. t && nat_lt q high) (le-leb low q from) ∙ lt-ltb q high to

between-before : (low high q : ℕ) → q < low → between low high q ≡ false
between-before low high q before = ap (λ t. t && nat_lt q high) (lt-leb low q before)

between-after : (low high q : ℕ) → high ≤ q → between low high q ≡ false
between-after low high q after = ap (λ t. nat_le low q && t) (le-ltb q high after) ∙ no_more (nat_le low q)
  where
    no_more : (t : Bool) → (t && false) ≡ false
    no_more true = refl
    no_more false = refl

then-nothing : {B E : Type 0} (later : Result (List B) E) → gathered_then (Ok None) later ≡ later
then-nothing (Ok answers) = refl
then-nothing (Err fault) = refl

abbrev one_row : ℕ → ℕ → List ℕ → (ℕ × List CsvCell) → Placed
one_row position file name row = record { position = position; file = file; source = name; at = row.0; cells = row.1 }

-- what is made of a row that is kept, or is not
abbrev made : Scan → (ℕ → Bool) → Placed → Bool → Result (Option Row) Fault
made scan keeps row t = if t then row_of_values scan row (used_values (used_columns scan) row.cells) else Ok None

-- nothing is made of rows after the last that is kept
gathered-after : (scan : Scan) (low high q file : ℕ) (name : List ℕ) (rows : List (ℕ × List CsvCell)) → high ≤ q → gathered (scanned scan (between low high)) (placed q file name rows) ≡ Ok []
gathered-after scan low high q file name [] after = refl
gathered-after scan low high q file name (row ∷ rows) after =
    ap (λ t. gathered_then (made scan (between low high) (one_row q file name row) t) (gathered (scanned scan (between low high)) (placed (q + 1) file name rows))) (between-after low high q after)
    ∙ then-nothing (gathered (scanned scan (between low high)) (placed (q + 1) file name rows)) ∙ gathered-after scan low high (q + 1) file name rows (omega arith)

-- of the rows from the first that is kept on, so many are kept
gathered-from : (scan : Scan) (low high q len file : ℕ) (name : List ℕ) (rows : List (ℕ × List CsvCell)) → low ≤ q → high ≡ q + len
    → gathered (scanned scan (between low high)) (placed q file name rows) ≡ gathered (scanned scan always) (placed q file name (take len rows))
gathered-from scan low high q zero file name rows from to = gathered-after scan low high q file name rows (omega arith)
gathered-from scan low high q (suc len) file name [] from to = refl
gathered-from scan low high q (suc len) file name (row ∷ rows) from to =
    ap (λ t. gathered_then (made scan (between low high) (one_row q file name row) t) (gathered (scanned scan (between low high)) (placed (q + 1) file name rows))) (between-in low high q from (omega arith))
    ∙ ap (gathered_then (scanned scan always (one_row q file name row))) (gathered-from scan low high (q + 1) len file name rows (omega arith) (omega arith))

-- of all rows, those that the slice keeps
pub gathered-slice : (scan : Scan) (low high q offset len file : ℕ) (name : List ℕ) (rows : List (ℕ × List CsvCell)) → low ≡ q + offset → high ≡ low + len
    → gathered (scanned scan (between low high)) (placed q file name rows) ≡ gathered (scanned scan always) (placed low file name (take len (drop offset rows)))
gathered-slice scan low high q zero len file name rows from to =
    let same : q ≡ low = omega arith in
    gathered-from scan low high q len file name rows (omega arith) (omega arith) ∙ ap (λ p. gathered (scanned scan always) (placed p file name (take len rows))) same
gathered-slice scan low high q (suc offset) zero file name [] from to = refl
gathered-slice scan low high q (suc offset) (suc len) file name [] from to = refl
gathered-slice scan low high q (suc offset) len file name (row ∷ rows) from to =
    ap (λ t. gathered_then (made scan (between low high) (one_row q file name row) t) (gathered (scanned scan (between low high)) (placed (q + 1) file name rows))) (between-before low high q (omega arith))
    ∙ then-nothing (gathered (scanned scan (between low high)) (placed (q + 1) file name rows)) ∙ gathered-slice scan low high (q + 1) offset len file name rows (omega arith) (omega arith)
