-- A text that is cut before the record of a row.
use Rattle.std.proofs.Common.{◌≡◌, ℕ, zero, suc, ◌+◌, ◌≤◌, ap, sym, subst, refl, ◌∙◌, arith}
use Rattle.std.specs.Prelude.{false, Some, None, List, [], ◌∷◌, ◌++◌, length, map}
use Rattle.std.proofs.lemmas.List.{length-map}
use Rattle.morsel_meaning.specs.declared.value.ColType.{ColType}
use Rattle.morsel_grammar.specs.Dialect.{Dialect, IsDialect}
use Rattle.morsel_grammar.specs.Grammar.{CsvRecord}
use Rattle.morsel_grammar.specs.Cells.{CsvCell}
use Rattle.morsel_grammar.specs.Reading.{reading, row_place}
use Rattle.morsel_grammar.specs.GrammarRows.{AreWholeRecords, HasRows}
use Rattle.morsel_grammar.proofs.FileLemmas.{reads_all_cells, places_rows}
use Rattle.morsel_grammar.proofs.WholeRecordLemmas.{records_whole}

-- what comes before so many rows of the text, which begins at a place, is whole records and has just these rows
pub record HasRowsOnly (o : Dialect) (kinds : List ColType) (at : ℕ) (front : List ℕ) (rows : ℕ) : Type 0 where
  pub records : List CsvRecord
  pub whole : AreWholeRecords o front records
  pub sound : (reading o kinds false at front).refusal ≡ None
  pub count : length (reading o kinds false at front).rows ≡ rows

-- the rows around the one whose place is told
row_split : (rows : List (ℕ × List CsvCell)) (row place : ℕ) → row_place rows row ≡ Some place
    → (before : List (ℕ × List CsvCell)) × (cells : List CsvCell) × (after : List (ℕ × List CsvCell)) × (rows ≡ before ++ (place, cells) ∷ after) × (length before ≡ row)
row_split [] row place is = absurd (cc)
row_split (r ∷ rows) zero place is = let same : r.0 ≡ place = cc in ([], r.1, rows, ap (λ p. (p, r.1) ∷ rows) same, refl)
row_split (r ∷ rows) (suc row) place is = let later = row_split rows row place is in (r ∷ later.0, later.1, later.2, ap (λ rs. r ∷ rs) later.3, ap suc later.4)

-- there are no more rows than the number whose place is not told
pub row_past : (rows : List (ℕ × List CsvCell)) (row : ℕ) → row_place rows row ≡ None → length rows ≤ row
row_past [] row is = omega arith
row_past (r ∷ rows) zero is = absurd (cc)
row_past (r ∷ rows) (suc row) is = let later = row_past rows row is in omega arith

rows_only : (o : Dialect) (kinds : List ColType) (at : ℕ) (front : List ℕ) (records : List CsvRecord) (before : List (ℕ × List CsvCell)) → IsDialect o → AreWholeRecords o front records
    → HasRows o kinds false front (map (λ (row : ℕ × List CsvCell). row.1) before) false → HasRowsOnly o kinds at front (length before)
rows_only o kinds at front records before fit whole has =
    let all = reads_all_cells o fit kinds false at front (map (λ (row : ℕ × List CsvCell). row.1) before) false has in
    record {
      records = records;
      whole = whole;
      sound = all.0;
      count = sym (length-map (reading o kinds false at front).rows (λ (row : ℕ × List CsvCell). row.1)) ∙ ap length all.1 ∙ length-map before (λ (row : ℕ × List CsvCell). row.1);
    }

-- the text is cut before the row whose place is told
pub cut_at : (o : Dialect) (kinds : List ColType) (at : ℕ) (text : List ℕ) (row place : ℕ) → IsDialect o → row_place (reading o kinds false at text).rows row ≡ Some place
    → (front : List ℕ) × (rest : List ℕ) × (text ≡ front ++ rest) × (place ≡ at + length front) × HasRowsOnly o kinds at front row
cut_at o kinds at text row place fit is =
    let split = row_split (reading o kinds false at text).rows row place is in
    let found = places_rows o fit kinds false at text split.0 place split.1 split.2 split.3 in
    let has = found.3 in
    let rows : HasRows o kinds false has.front (map (λ (r : ℕ × List CsvCell). r.1) split.0) false = record {
      utf8 = has.utf8;
      records = has.records;
      split = records_whole o has.front has.records fit has.whole;
      rows_are = has.rows_are;
      awaits_header_is = has.awaits_header_is;
    } in
    (has.front, found.0, has.split, has.place_is, subst (λ n. HasRowsOnly o kinds at has.front n) split.4 (rows_only o kinds at has.front has.records split.0 fit has.whole rows))
