-- The steps from the values of used columns to the rows of a scan.
use Rattle.std.proofs.Common.{◌≡◌, ℕ, suc, ◌+◌, ◌<◌, ap, sym, subst, refl, ◌∙◌, append_assoc, append-nil, length-append, arith}
use Rattle.std.specs.Prelude.{Bool, true, false, Option, Some, None, Result, Ok, Err, IfOk, IsOkUnless, List, [], ◌∷◌, ◌++◌, length, map}
use Rattle.std.specs.List.{All, filter}
use Rattle.std.proofs.lemmas.List.{length-map}
use Rattle.morsel_meaning.specs.declared.value.Field.{Field}
use Rattle.morsel_meaning.specs.declared.fault.Fault.{Fault}
use Rattle.morsel_meaning.specs.declared.fault.Fault.TheVariants.{OutOfMemory, ComputeError}
use Rattle.morsel_meaning.specs.declared.fault.ComputeKind.TheVariants as kinds
use Rattle.morsel_meaning.specs.Values.{Row, Table}
use Rattle.morsel_frame.specs.Names.{AreDistinctPlaces}
use Rattle.morsel_frame.specs.Tables.{cells_at, fields_at, numbered, with_text}
use Rattle.morsel_grammar.specs.Reading.{chosen}
use Rattle.morsel_expr.specs.declared.node.PredNode.{PredNode}
use Rattle.morsel_scan.specs.declared.spec.RowIndex.{RowIndex}
use Rattle.morsel_scan.specs.Scans.{Scan}
use Rattle.morsel_scan.specs.ScanColumns.{kept_columns, used_columns, index_fields, path_fields, index_values, path_values}
use Rattle.morsel_scan.specs.ScanRows.{passes}
use Rattle.morsel_scan.specs.Filters.{Filter}
use Rattle.morsel_scan.specs.Decoding.{step_fields, all_of, step_mask, true_places, step_rows, NumbersPass, Finishes}
use Rattle.morsel_scan.specs.Nodes.{node_of, indexed, pathed, AddsIndex, AddsPath, KeepsRows}
use Rattle.morsel_scan.proofs.ChoiceLemmas.{fields_at-places, places-all, places-distinct}
use Rattle.morsel_scan.proofs.FinishLemmas.{kept_width}
use Rattle.morsel_scan.proofs.ReadLemmas.{unless-memory}

-- rows with their number and their file's name, given how those are asked for
abbrev stepped : Option RowIndex → Option (List ℕ) → ℕ → List ℕ → List Row → List Row
stepped index path position source [] = []
stepped index path position source (values ∷ rows) =
    (index_values index position ++ (values ++ path_values path source)) ∷ stepped index path (position + 1) source rows

step_rows-is : (scan : Scan) (position : ℕ) (source : List ℕ) (rows : List Row) → stepped scan.asked.row_index scan.asked.path position source rows ≡ step_rows scan position source rows
step_rows-is scan position source [] = refl
step_rows-is scan position source (values ∷ rows) =
    ap (λ (r : List Row). (index_values scan.asked.row_index position ++ (values ++ path_values scan.asked.path source)) ∷ r) (step_rows-is scan (position + 1) source rows)

next_number : (index : RowIndex) (position : ℕ) → index.offset + position + 1 ≡ index.offset + (position + 1)
next_number index position = omega arith

stepped-is : (index : Option RowIndex) (path : Option (List ℕ)) (position : ℕ) (source : List ℕ) (rows : List Row) → pathed path source (indexed index position rows) ≡ stepped index path position source rows
stepped-is None None position source [] = refl
stepped-is None (Some name) position source [] = refl
stepped-is (Some index) None position source [] = refl
stepped-is (Some index) (Some name) position source [] = refl
stepped-is None None position source (values ∷ rows) =
    ap (λ (r : Row). r ∷ rows) (sym (append-nil values)) ∙ ap (λ (r : List Row). (values ++ []) ∷ r) (stepped-is None None (position + 1) source rows)
stepped-is None (Some name) position source (values ∷ rows) =
    ap (λ (r : List Row). (values ++ path_values (Some name) source) ∷ r) (stepped-is None (Some name) (position + 1) source rows)
stepped-is (Some index) None position source (values ∷ rows) =
    ap (λ n. (index_values (Some index) position ++ values) ∷ numbered n rows) (next_number index position)
    ∙ ap (λ (r : Row). (index_values (Some index) position ++ r) ∷ numbered (index.offset + (position + 1)) rows) (sym (append-nil values))
    ∙ ap (λ (r : List Row). (index_values (Some index) position ++ (values ++ [])) ∷ r) (stepped-is (Some index) None (position + 1) source rows)
stepped-is (Some index) (Some name) position source (values ∷ rows) =
    ap (λ n. (index_values (Some index) position ++ (values ++ path_values (Some name) source)) ∷ with_text source (numbered n rows)) (next_number index position)
    ∙ ap (λ (r : List Row). (index_values (Some index) position ++ (values ++ path_values (Some name) source)) ∷ r) (stepped-is (Some index) (Some name) (position + 1) source rows)

chosen-length : {A B : Type 0} (mask : List Bool) (xs : List A) (ys : List B) → length xs ≡ length ys → length (chosen mask xs) ≡ length (chosen mask ys)
chosen-length [] xs ys same = refl
chosen-length (m ∷ mask) [] [] same = refl
chosen-length (m ∷ mask) [] (y ∷ ys) same = absurd (omega arith)
chosen-length (m ∷ mask) (x ∷ xs) [] same = absurd (omega arith)
chosen-length (true ∷ mask) (x ∷ xs) (y ∷ ys) same = ap suc (chosen-length mask xs ys (omega arith))
chosen-length (false ∷ mask) (x ∷ xs) (y ∷ ys) same = chosen-length mask xs ys (omega arith)

-- there is a mark for each column of the steps
mask-fields : (scan : Scan) → length (step_mask scan) ≡ length (step_fields scan)
mask-fields scan =
    length-append (all_of (index_fields scan.asked.row_index)) (chosen (used_columns scan) (kept_columns scan) ++ all_of (path_fields scan.asked.path))
    ∙ ap (λ n. n + length (chosen (used_columns scan) (kept_columns scan) ++ all_of (path_fields scan.asked.path))) (length-map (index_fields scan.asked.row_index) (λ (field : Field). true))
    ∙ ap (λ n. length (index_fields scan.asked.row_index) + n) (length-append (chosen (used_columns scan) (kept_columns scan)) (all_of (path_fields scan.asked.path))
    ∙ ap (λ n. n + length (all_of (path_fields scan.asked.path))) (chosen-length (used_columns scan) (kept_columns scan) scan.fields (kept_width scan))
    ∙ ap (λ n. length (chosen (used_columns scan) scan.fields) + n) (length-map (path_fields scan.asked.path) (λ (field : Field). true))
    ∙ sym (length-append (chosen (used_columns scan) scan.fields) (path_fields scan.asked.path)))
    ∙ sym (length-append (index_fields scan.asked.row_index) (chosen (used_columns scan) scan.fields ++ path_fields scan.asked.path))

-- the columns after the row index and the path were added
pub named_schema : (scan : Scan) (position : ℕ) (source : List ℕ) (read numbered named : Table) → read.schema ≡ chosen (used_columns scan) scan.fields → AddsIndex scan.asked.row_index position read (Ok numbered)
    → AddsPath scan.asked.path source numbered (Ok named) → named.schema ≡ step_fields scan
named_schema scan position source read numbered named used index path =
    path.0 ∙ ap (λ (fs : List Field). fs ++ path_fields scan.asked.path) (index.0 ∙ ap (λ (fs : List Field). index_fields scan.asked.row_index ++ fs) used)
    ∙ append_assoc (index_fields scan.asked.row_index) (chosen (used_columns scan) scan.fields) (path_fields scan.asked.path)

pub kept_within : (scan : Scan) (kept : List ℕ) (fields : List Field) → kept ≡ true_places 0 (step_mask scan) → fields ≡ step_fields scan → All (λ at. at < length fields) kept
kept_within scan kept fields are is =
    subst (λ (ks : List ℕ). All (λ at. at < length fields) ks) (sym are) (places-all (step_mask scan) (length fields) (mask-fields scan ∙ sym (ap (λ (fs : List Field). length fs) is)))

pub kept_once : (scan : Scan) (kept : List ℕ) → kept ≡ true_places 0 (step_mask scan) → AreDistinctPlaces kept
kept_once scan kept are = subst (λ (ks : List ℕ). AreDistinctPlaces ks) (sym are) (places-distinct (step_mask scan))

pub finishes_ok : (scan : Scan) (position : ℕ) (source : List ℕ) (read numbered named passed made : Table) (step : Option Filter) (kept : List ℕ) → read.schema ≡ chosen (used_columns scan) scan.fields
    → AddsIndex scan.asked.row_index position read (Ok numbered) → AddsPath scan.asked.path source numbered (Ok named) → KeepsRows step named (Ok passed) → node_of step ≡ scan.filter
    → kept ≡ true_places 0 (step_mask scan) → made ≡ record { schema = fields_at passed.schema kept; rows = map (cells_at kept) passed.rows } → Finishes scan position source read (Ok made)
finishes_ok scan position source read numbered named passed made step kept used index path keeps of_step are is =
    let schema : named.schema ≡ step_fields scan = named_schema scan position source read numbered named used index path in
    let rows : named.rows ≡ step_rows scan position source read.rows =
    path.1 ∙ ap (pathed scan.asked.path source) index.1 ∙ stepped-is scan.asked.row_index scan.asked.path position source read.rows ∙ step_rows-is scan position source read.rows in
    let found : passed.rows ≡ filter (passes scan.filter (step_fields scan)) (step_rows scan position source read.rows) =
    keeps.1 ∙ ap (λ (p : Option PredNode). filter (passes p named.schema) named.rows) of_step
    ∙ ap (λ (fs : List Field). filter (passes scan.filter fs) named.rows) schema ∙ ap (filter (passes scan.filter (step_fields scan))) rows in (
      ap (λ (t : Table). t.rows) is ∙ ap (λ (ks : List ℕ). map (cells_at ks) passed.rows) are ∙ ap (map (cells_at (true_places 0 (step_mask scan)))) found,
      ap (λ (t : Table). t.schema) is ∙ ap (λ (ks : List ℕ). fields_at passed.schema ks) are ∙ ap (λ (fs : List Field). fields_at fs (true_places 0 (step_mask scan))) (keeps.0 ∙ schema)
          ∙ fields_at-places (step_mask scan) [] (step_fields scan) (mask-fields scan),
      index.2,
    )

pub finishes : (scan : Scan) (position : ℕ) (source : List ℕ) (read numbered named passed : Table) (step : Option Filter) (kept : List ℕ) (result : Result Table Fault) → read.schema ≡ chosen (used_columns scan) scan.fields
    → AddsIndex scan.asked.row_index position read (Ok numbered) → AddsPath scan.asked.path source numbered (Ok named) → KeepsRows step named (Ok passed) → node_of step ≡ scan.filter
    → kept ≡ true_places 0 (step_mask scan) → IfOk result (λ (made : Table). made ≡ record { schema = fields_at passed.schema kept; rows = map (cells_at kept) passed.rows })
    → IsOkUnless result OutOfMemory → Finishes scan position source read result
finishes scan position source read numbered named passed step kept (Ok made) used index path keeps of_step are is none =
    finishes_ok scan position source read numbered named passed made step kept used index path keeps of_step are is
finishes scan position source read numbered named passed step kept (Err fault) used index path keeps of_step are is none =
    unless-memory fault ((fault ≡ ComputeError kinds.IndexTooLarge 4294967295 0) × NumbersPass scan.asked.row_index position (length read.rows)) none
