-- What is made of the values of a piece is what a scan makes of the piece.
use Rattle.std.proofs.Common.{◌≡◌, ℕ, suc, ◌+◌, ◌<◌, ap, sym, subst, refl, ◌∙◌, inr, arith, append_assoc, length-append, take, drop}
use Rattle.std.specs.Prelude.{◌⊎◌, Bool, false, if◌then◌else◌, Option, Some, None, Result, Ok, Err, List, [], ◌∷◌, ◌++◌, length, map}
use Rattle.std.proofs.lemmas.List.{length-map, length-take, take-append-drop}
use Rattle.std.proofs.lemmas.Bool.{lt-leb}
use Rattle.morsel_meaning.specs.declared.fault.Fault.{Fault}
use Rattle.morsel_meaning.specs.declared.fault.Fault.TheVariants as faults
use Rattle.morsel_meaning.specs.declared.fault.ComputeKind.TheVariants as kinds
use Rattle.morsel_meaning.specs.declared.value.Field.{Field}
use Rattle.morsel_meaning.specs.Values.{Row, Table, kinds_of}
use Rattle.morsel_grammar.specs.Cells.{CsvCell}
use Rattle.morsel_grammar.specs.Reading.{used_values, chosen}
use Rattle.morsel_grammar.specs.GrammarRows.{values_of}
use Rattle.morsel_pipe.specs.Pieces.{Piece}
use Rattle.morsel_scan.specs.declared.spec.RowIndex.{RowIndex}
use Rattle.morsel_scan.specs.Scans.{Scan, CsvScan}
use Rattle.morsel_scan.specs.ScanColumns.{kept_columns, used_columns, index_fields, path_fields, output_fields, whole_fields}
use Rattle.morsel_scan.specs.ScanRows.{Placed, passes, output_row, whole_row, index_fits, row_of_values, scanned, gathered, ended_by}
use Rattle.morsel_scan.specs.CsvScans.{piece_source, piece_keeps, piece_placed, HasRowFault, Decodes}
use Rattle.morsel_scan.specs.Decoding.{text_reading, ReadsKept, Finishes, NumbersFit, NumbersPass, step_fields, step_mask, all_of}
use Rattle.morsel_scan.proofs.SliceLemmas.{gathered-slice}
use Rattle.morsel_scan.proofs.WidthLemmas.{AreWide, reading-wide, wide-take, wide-drop}
use Rattle.morsel_scan.proofs.ColumnLemmas.{chosen-chosen}
use Rattle.morsel_scan.proofs.FinishLemmas.{gathered-finish, values-first, are_kept, used_width}
use Rattle.morsel_scan.proofs.ReadLemmas.{unless-map}
use Rattle.morsel_scan.proofs.DecodeLemmas.{row_fault}

abbrev cells_in : List (ℕ × List CsvCell) → List (List CsvCell)
cells_in rows = map (λ (row : ℕ × List CsvCell). row.1) rows

-- there are as many rows of values as rows of cells
pub values-length : (used : List Bool) (rows : List (ℕ × List CsvCell)) (found : List Row) → values_of used (cells_in rows) ≡ Some found → length found ≡ length rows
values-length used [] found is = let none : [] ≡ found = cc in ap (λ (r : List Row). length r) (sym none)
values-length used (row ∷ rows) found is =
    let first = values-first used row.1 (cells_in rows) found is in
    ap (λ (r : List Row). length r) first.4 ∙ ap suc (values-length used rows first.1 first.3)

-- the rows that the slice keeps of a piece
abbrev kept_of : CsvScan → Piece → List (ℕ × List CsvCell)
kept_of s piece = take piece.slice.1 (drop piece.slice.0 (text_reading s piece.at piece.bytes).rows)

kept_wide : (s : CsvScan) (piece : Piece) → AreWide (length s.scan.fields) (kept_of s piece)
kept_wide s piece =
    let width : length (kinds_of s.scan.fields) ≡ length s.scan.fields = length-map s.scan.fields (λ (field : Field). field.kind) in
    subst (λ n. AreWide n (kept_of s piece)) width
    (wide-take (length (kinds_of s.scan.fields)) piece.slice.1 (drop piece.slice.0 (text_reading s piece.at piece.bytes).rows)
    (wide-drop (length (kinds_of s.scan.fields)) piece.slice.0 (text_reading s piece.at piece.bytes).rows (reading-wide s.options (kinds_of s.scan.fields) false piece.at piece.bytes)))

chosen_index : (index : Option RowIndex) (mask : List Bool) (fields : List Field) → chosen (all_of (index_fields index) ++ mask) (index_fields index ++ fields) ≡ index_fields index ++ chosen mask fields
chosen_index None mask fields = refl
chosen_index (Some index) mask fields = refl

chosen_path : (path : Option (List ℕ)) → chosen (all_of (path_fields path)) (path_fields path) ≡ path_fields path
chosen_path None = refl
chosen_path (Some name) = refl

-- the columns that are kept are those of the scan
output-fields : (scan : Scan) → chosen (step_mask scan) (step_fields scan) ≡ output_fields scan
output-fields scan =
    chosen_index scan.asked.row_index (chosen (used_columns scan) (kept_columns scan) ++ all_of (path_fields scan.asked.path)) (chosen (used_columns scan) scan.fields ++ path_fields scan.asked.path)
    ∙ ap (λ (fs : List Field). index_fields scan.asked.row_index ++ fs)
    (chosen-chosen (kept_columns scan) (used_columns scan) scan.fields (all_of (path_fields scan.asked.path)) (path_fields scan.asked.path) (are_kept scan) (sym (used_width scan))
    ∙ ap (λ (fs : List Field). chosen (kept_columns scan) scan.fields ++ fs) (chosen_path scan.asked.path))

decoded_ok : (s : CsvScan) (piece : Piece) (read made : Table) → ReadsKept s piece (Ok read) → Finishes s.scan (piece.first_row + piece.slice.0) piece.source read (Ok made) → Decodes s piece (Ok made)
decoded_ok s piece read made is finished = (
  finished.1 ∙ output-fields s.scan,
  ap (λ x. ended_by x (gathered (scanned s.scan (piece_keeps piece)) (piece_placed s piece))) is.0
      ∙ gathered-slice s.scan (piece.first_row + piece.slice.0) (piece.first_row + piece.slice.0 + piece.slice.1) piece.first_row piece.slice.0 piece.slice.1 piece.file piece.source
      (text_reading s piece.at piece.bytes).rows refl refl
      ∙ gathered-finish s.scan (piece.first_row + piece.slice.0) piece.file piece.source (kept_of s piece) read.rows is.2 (kept_wide s piece)
      (subst (λ n. NumbersFit s.scan.asked.row_index (piece.first_row + piece.slice.0) n) (values-length (used_columns s.scan) (kept_of s piece) read.rows is.2) finished.2)
      ∙ ap Ok (sym finished.0),
)

-- the last of some rows, and that its values were found
last_row : (used : List Bool) (rows : List (ℕ × List CsvCell)) (found : List Row) → values_of used (cells_in rows) ≡ Some found → 0 < length rows
    → (before : List (ℕ × List CsvCell)) × (row : ℕ × List CsvCell) × (values : Row) × (rows ≡ before ++ row ∷ []) × (used_values used row.1 ≡ Some values)
last_row used [] found is some = absurd (omega arith)
last_row used (row ∷ []) found is some = let first = values-first used row.1 [] found is in ([], row, first.0, refl, first.2)
last_row used (row ∷ next ∷ rows) found is some =
    let first = values-first used row.1 (cells_in (next ∷ rows)) found is in
    let later = last_row used (next ∷ rows) first.1 first.3 (omega arith) in
    (row ∷ later.0, later.1, later.2, ap (λ (r : List (ℕ × List CsvCell)). row ∷ r) later.3, later.4)

-- a row whose number is too large has that fault
number_fault : (scan : Scan) (one : Placed) (values : Row) (found : Option Row) → found ≡ Some values → index_fits scan.asked.row_index one.position ≡ false
    → row_of_values scan one found ≡ Err (faults.ComputeError kinds.IndexTooLarge 4294967295 0)
number_fault scan one values found is past =
    let made : Result (Option Row) Fault = Ok (if passes scan.filter (whole_fields scan) (whole_row scan one) then Some (output_row scan one) else None) in
    ap (row_of_values scan one) is ∙ ap (λ t. if t then made else Err (faults.ComputeError kinds.IndexTooLarge 4294967295 0)) past

past_last : (index : Option RowIndex) (position rows at : ℕ) → NumbersPass index position rows → at + 1 ≡ position + rows → index_fits index at ≡ false
past_last None position rows at pass same = absurd pass
past_last (Some index) position rows at pass same = let past = pass.1 in lt-leb (index.offset + at + 1) 4294967295 (omega arith)

some_rows : (index : Option RowIndex) (position rows : ℕ) → NumbersPass index position rows → 0 < rows
some_rows None position rows pass = absurd pass
some_rows (Some index) position rows pass = pass.0

-- a number past 32 bits is a fault of a row that the slice keeps
decoded_number : (s : CsvScan) (piece : Piece) (read : Table) (fault : Fault) → ReadsKept s piece (Ok read) → fault ≡ faults.ComputeError kinds.IndexTooLarge 4294967295 0
    → NumbersPass s.scan.asked.row_index (piece.first_row + piece.slice.0) (length read.rows) → HasRowFault s.scan (piece_keeps piece) (piece_placed s piece) fault
decoded_number s piece read fault is same pass =
    let all : List (ℕ × List CsvCell) = (text_reading s piece.at piece.bytes).rows in
    let kept : List (ℕ × List CsvCell) = kept_of s piece in
    let count : length read.rows ≡ length kept = values-length (used_columns s.scan) kept read.rows is.2 in
    let some : 0 < length kept = let h = some_rows s.scan.asked.row_index (piece.first_row + piece.slice.0) (length read.rows) pass in omega arith in
    let last = last_row (used_columns s.scan) kept read.rows is.2 some in
    let front : List (ℕ × List CsvCell) = take piece.slice.0 all in
    let after : List (ℕ × List CsvCell) = drop piece.slice.1 (drop piece.slice.0 all) in
    let whole : front ++ (kept ++ after) ≡ all = ap (λ (r : List (ℕ × List CsvCell)). front ++ r) (take-append-drop piece.slice.1 (drop piece.slice.0 all)) ∙ take-append-drop piece.slice.0 all in
    let split : all ≡ (front ++ last.0) ++ last.1 ∷ after =
    sym whole ∙ ap (λ (r : List (ℕ × List CsvCell)). front ++ (r ++ after)) last.3
    ∙ ap (λ (r : List (ℕ × List CsvCell)). front ++ r) (append_assoc last.0 (last.1 ∷ []) after) ∙ sym (append_assoc front last.0 (last.1 ∷ after)) in
    let kept_size : length kept ≡ length last.0 + 1 = ap (λ (r : List (ℕ × List CsvCell)). length r) last.3 ∙ length-append last.0 (last.1 ∷ []) in
    let kept_few = length-take piece.slice.1 (drop piece.slice.0 all) in
    let front_size = length-take piece.slice.0 all in
    let whole_size : length front + (length kept + length after) ≡ length all = ap (λ n. length front + n) (sym (length-append kept after)) ∙ sym (length-append front (kept ++ after)) ∙ ap (λ (r : List (ℕ × List CsvCell)). length r) whole in
    let at_size : length (front ++ last.0) ≡ length front + length last.0 = length-append front last.0 in
    let full : length front ≡ piece.slice.0 = omega arith in
    row_fault s piece (front ++ last.0) last.1 after fault split (omega arith) (omega arith)
    (number_fault s.scan (record { position = piece.first_row + length (front ++ last.0); file = piece.file; source = piece.source; at = last.1.0; cells = last.1.1 }) last.2
    (used_values (used_columns s.scan) last.1.1) last.4
    (past_last s.scan.asked.row_index (piece.first_row + piece.slice.0) (length read.rows) (piece.first_row + length (front ++ last.0)) pass (omega arith)) ∙ ap Err (sym same))

decoded_err : (s : CsvScan) (piece : Piece) (read : Table) (fault : Fault) → ReadsKept s piece (Ok read)
    → Finishes s.scan (piece.first_row + piece.slice.0) piece.source read (Err fault) → Decodes s piece (Err fault)
decoded_err s piece read fault is finished =
    unless-map fault ((fault ≡ faults.ComputeError kinds.IndexTooLarge 4294967295 0) × NumbersPass s.scan.asked.row_index (piece.first_row + piece.slice.0) (length read.rows))
    (((piece_source s piece).fault ≡ Some fault) ⊎ (HasRowFault s.scan (piece_keeps piece) (piece_placed s piece) fault))
    (λ number. inr (decoded_number s piece read fault is number.0 number.1)) finished

pub decodes : (s : CsvScan) (piece : Piece) (read : Table) (result : Result Table Fault) → ReadsKept s piece (Ok read)
    → Finishes s.scan (piece.first_row + piece.slice.0) piece.source read result → Decodes s piece result
decodes s piece read (Ok made) is finished = decoded_ok s piece read made is finished
decodes s piece read (Err fault) is finished = decoded_err s piece read fault is finished
