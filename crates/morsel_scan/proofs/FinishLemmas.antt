-- From the values of used columns to the rows of a scan.
use Rattle.std.proofs.Common.{◌≡◌, ℕ, suc, ◌+◌, ap, sym, refl, ◌∙◌, inl, inr, arith, length-append}
use Rattle.std.specs.Prelude.{Bool, true, false, ◌||◌, cond, if◌then◌else◌, Option, Some, None, Ok, Err, List, [], ◌∷◌, ◌++◌, length, map, pos}
use Rattle.std.specs.List.{filter}
use Rattle.std.specs.Str.{bytes_eq}
use Rattle.std.proofs.lemmas.Bool.{le-leb}
use Rattle.std.proofs.lemmas.Slice.Eq.{bytes_eq-Decides}
use Rattle.std.proofs.lemmas.List.{length-map}
use Rattle.morsel_meaning.specs.declared.value.Value.{Value}
use Rattle.morsel_meaning.specs.declared.value.Value.TheVariants as values
use Rattle.morsel_meaning.specs.declared.value.ColType.TheVariants as types
use Rattle.morsel_meaning.specs.declared.value.Field.{Field}
use Rattle.morsel_meaning.specs.declared.fault.Fault.{Fault}
use Rattle.morsel_meaning.specs.declared.fault.Fault.TheVariants.{ComputeError}
use Rattle.morsel_meaning.specs.declared.fault.ComputeKind.TheVariants as kinds
use Rattle.morsel_meaning.specs.Values.{Row}
use Rattle.morsel_frame.specs.Names.{stands_in}
use Rattle.morsel_frame.specs.Tables.{cells_at}
use Rattle.morsel_grammar.specs.Cells.{CsvCell}
use Rattle.morsel_grammar.specs.Reading.{chosen, used_values}
use Rattle.morsel_grammar.specs.GrammarRows.{values_of}
use Rattle.morsel_expr.specs.declared.node.PredNode.{PredNode}
use Rattle.morsel_expr.specs.Truths.{is_true}
use Rattle.morsel_expr.specs.Predicates.{value_under}
use Rattle.morsel_scan.specs.declared.spec.RowIndex.{RowIndex}
use Rattle.morsel_scan.specs.Scans.{Scan}
use Rattle.morsel_scan.specs.ScanColumns.{filter_names, is_kept, kept_columns, used_columns, index_fields, path_fields, index_values, path_values, whole_fields}
use Rattle.morsel_scan.specs.ScanRows.{Placed, placed, good_value, whole_row, output_row, passes, index_fits, row_of_values, scanned, gathered_then, gathered}
use Rattle.morsel_scan.specs.Decoding.{step_fields, all_of, step_mask, true_places, step_row, step_rows, chosen_rows, NumbersFit}
use Rattle.morsel_scan.proofs.SliceLemmas.{always}
use Rattle.morsel_scan.proofs.WidthLemmas.{AreWide}
use Rattle.morsel_scan.proofs.ColumnLemmas.{AreNamedUsed, value_under-first, value_under-used, truth-alike, AreKeptUsed, chosen-used, length-used}
use Rattle.morsel_scan.proofs.ChoiceLemmas.{cells_at-places}

-- which fields pass a test
abbrev tested : (List ℕ → Bool) → List Field → List Bool
tested test fields = map (λ (field : Field). test field.name) fields

named_used : (test : List ℕ → Bool) (fields : List Field) (name : List ℕ) → test name ≡ true → AreNamedUsed (tested test fields) fields name
named_used test [] name is = tt
named_used test (field ∷ fields) name is = ((λ same. ap test ((bytes_eq-Decides field.name name).0 same) ∙ is), named_used test fields name is)

or_right : (a b : Bool) → b ≡ true → (a || b) ≡ true
or_right true b is = refl
or_right false b is = is

or_left : (a b : Bool) → a ≡ true → (a || b) ≡ true
or_left true b is = refl
or_left false b is = absurd (cc)

kept_used : (kept used : List ℕ → Bool) (fields : List Field) → ((name : List ℕ) → kept name ≡ true → used name ≡ true) → AreKeptUsed (tested kept fields) (tested used fields)
kept_used kept used [] within = tt
kept_used kept used (field ∷ fields) within = (within field.name, kept_used kept used fields within)

-- whether a column of the scan is used, by its name
abbrev uses : Scan → List ℕ → Bool
uses scan name = is_kept scan.asked.columns name || stands_in name (filter_names scan.filter)

are_used : (scan : Scan) (name : List ℕ) → stands_in name (filter_names scan.filter) ≡ true → AreNamedUsed (used_columns scan) scan.fields name
are_used scan name is = named_used (uses scan) scan.fields name (or_right (is_kept scan.asked.columns name) (stands_in name (filter_names scan.filter)) is)

pub are_kept : (scan : Scan) → AreKeptUsed (kept_columns scan) (used_columns scan)
are_kept scan = kept_used (is_kept scan.asked.columns) (uses scan) scan.fields (λ name is. or_left (is_kept scan.asked.columns name) (stands_in name (filter_names scan.filter)) is)

pub kept_width : (scan : Scan) → length (kept_columns scan) ≡ length scan.fields
kept_width scan = length-map scan.fields (λ (field : Field). is_kept scan.asked.columns field.name)

pub used_width : (scan : Scan) → length (used_columns scan) ≡ length scan.fields
used_width scan = length-map scan.fields (λ (field : Field). is_kept scan.asked.columns field.name || stands_in field.name (filter_names scan.filter))

-- what is the same behind a row index is the same
behind_index : (index : Option RowIndex) (position : ℕ) (fields others : List Field) (row other : Row) (name : List ℕ) → value_under fields name row ≡ value_under others name other
    → value_under (index_fields index ++ fields) name (index_values index position ++ row) ≡ value_under (index_fields index ++ others) name (index_values index position ++ other)
behind_index None position fields others row other name same = same
behind_index (Some index) position fields others row other name same =
    let field : Field = record { name = index.name; kind = types.Int } in
    let number : Value = values.Int (pos (index.offset + position)) in
    value_under-first field fields name number row
    ∙ ap (λ v. if bytes_eq index.name name then number else v) same
    ∙ sym (value_under-first field others name number other)

-- a row in the steps has under each name of the filter what the whole row has
same_under : (scan : Scan) (row : Placed) (found : Row) (name : List ℕ) → length row.cells ≡ length scan.fields → used_values (used_columns scan) row.cells ≡ Some found → stands_in name (filter_names scan.filter) ≡ true
    → value_under (step_fields scan) name (step_row scan row.position row.source found) ≡ value_under (whole_fields scan) name (whole_row scan row)
same_under scan row found name wide is stands =
    behind_index scan.asked.row_index row.position (chosen (used_columns scan) scan.fields ++ path_fields scan.asked.path) (scan.fields ++ path_fields scan.asked.path)
    (found ++ path_values scan.asked.path row.source) (map good_value row.cells ++ path_values scan.asked.path row.source) name
    (value_under-used (used_columns scan) scan.fields row.cells found (path_fields scan.asked.path) (path_values scan.asked.path row.source) name (are_used scan name stands) wide is)

passes-same : (filter : Option PredNode) (fields others : List Field) (row other : Row) → ((name : List ℕ) → stands_in name (filter_names filter) ≡ true → value_under fields name row ≡ value_under others name other)
    → passes filter fields row ≡ passes filter others other
passes-same None fields others row other same = refl
passes-same (Some node) fields others row other same = ap is_true (truth-alike node fields others row other same)

-- all of one column, where there is one
chosen_index : (index : Option RowIndex) (position : ℕ) (mask : List Bool) (row : Row) → chosen (all_of (index_fields index) ++ mask) (index_values index position ++ row) ≡ index_values index position ++ chosen mask row
chosen_index None position mask row = refl
chosen_index (Some index) position mask row = refl

chosen_path : (path : Option (List ℕ)) (source : List ℕ) → chosen (all_of (path_fields path)) (path_values path source) ≡ path_values path source
chosen_path None source = refl
chosen_path (Some name) source = refl

mask_width : (scan : Scan) (position : ℕ) (source : List ℕ) (cells : List CsvCell) (found : Row) → length cells ≡ length scan.fields → used_values (used_columns scan) cells ≡ Some found
    → length (step_mask scan) ≡ length (step_row scan position source found)
mask_width scan position source cells found wide is =
    let used : length (chosen (used_columns scan) (kept_columns scan)) ≡ length found =
    length-used (kept_columns scan) (used_columns scan) cells found (kept_width scan ∙ sym (used_width scan)) (wide ∙ sym (used_width scan)) is in
    length-append (all_of (index_fields scan.asked.row_index)) (chosen (used_columns scan) (kept_columns scan) ++ all_of (path_fields scan.asked.path))
    ∙ ap (λ n. length (all_of (index_fields scan.asked.row_index)) + n) (length-append (chosen (used_columns scan) (kept_columns scan)) (all_of (path_fields scan.asked.path)))
    ∙ ap (λ n. n + (length (chosen (used_columns scan) (kept_columns scan)) + length (all_of (path_fields scan.asked.path)))) (one scan.asked.row_index)
    ∙ ap (λ n. length (index_values scan.asked.row_index position) + (n + length (all_of (path_fields scan.asked.path)))) used
    ∙ ap (λ n. length (index_values scan.asked.row_index position) + (length found + n)) (last scan.asked.path)
    ∙ ap (λ n. length (index_values scan.asked.row_index position) + n) (sym (length-append found (path_values scan.asked.path source)))
    ∙ sym (length-append (index_values scan.asked.row_index position) (found ++ path_values scan.asked.path source))
  where
    one : (index : Option RowIndex) → length (all_of (index_fields index)) ≡ length (index_values index position)
    one None = refl
    one (Some index) = refl

    last : (path : Option (List ℕ)) → length (all_of (path_fields path)) ≡ length (path_values path source)
    last None = refl
    last (Some name) = refl

-- what is kept of a row in the steps is the row of the scan
kept_row : (scan : Scan) (row : Placed) (found : Row) → length row.cells ≡ length scan.fields → used_values (used_columns scan) row.cells ≡ Some found
    → cells_at (true_places 0 (step_mask scan)) (step_row scan row.position row.source found) ≡ output_row scan row
kept_row scan row found wide is =
    cells_at-places (step_mask scan) [] (step_row scan row.position row.source found) (mask_width scan row.position row.source row.cells found wide is)
    ∙ chosen_index scan.asked.row_index row.position (chosen (used_columns scan) (kept_columns scan) ++ all_of (path_fields scan.asked.path)) (found ++ path_values scan.asked.path row.source)
    ∙ ap (λ (r : Row). index_values scan.asked.row_index row.position ++ r)
    (chosen-used (kept_columns scan) (used_columns scan) row.cells found (all_of (path_fields scan.asked.path)) (path_values scan.asked.path row.source) (are_kept scan) (wide ∙ sym (used_width scan)) is
    ∙ ap (λ (r : Row). chosen (kept_columns scan) (map good_value row.cells) ++ r) (chosen_path scan.asked.path row.source))

fits_first : (index : Option RowIndex) (position more : ℕ) → NumbersFit index position (suc more) → index_fits index position ≡ true
fits_first None position more fit = refl
fits_first (Some index) position more (inl none) = absurd (omega arith)
fits_first (Some index) position more (inr fit) = le-leb (index.offset + position + 1) 4294967295 (omega arith)

fits_later : (index : Option RowIndex) (position more : ℕ) → NumbersFit index position (suc more) → NumbersFit index (position + 1) more
fits_later None position more fit = tt
fits_later (Some index) position more (inl none) = absurd (omega arith)
fits_later (Some index) position more (inr fit) = inr (omega arith)

-- the values of a first row and of those after it
pub values-first : (used : List Bool) (cells : List CsvCell) (rows : List (List CsvCell)) (found : List Row) → values_of used (cells ∷ rows) ≡ Some found
    → (first : Row) × (later : List Row) × (used_values used cells ≡ Some first) × (values_of used rows ≡ Some later) × (found ≡ first ∷ later)
values-first used cells rows found is = by (used_values used cells) (values_of used rows) refl refl
  where
    by : (one : Option Row) (more : Option (List Row)) → used_values used cells ≡ one → values_of used rows ≡ more
        → (first : Row) × (later : List Row) × (used_values used cells ≡ Some first) × (values_of used rows ≡ Some later) × (found ≡ first ∷ later)
    by None more none others = absurd (let bad : values_of used (cells ∷ rows) ≡ None = rw none refl in cc)
    by (Some first) None some none = absurd (let bad : values_of used (cells ∷ rows) ≡ None = rw (some, none) refl in cc)
    by (Some first) (Some later) some others = let good : values_of used (cells ∷ rows) ≡ Some (first ∷ later) = rw (some, others) refl in (first, later, some, others, cc)

put_first : (t : Bool) (one : Row) (made : Row) (rest : List Row) (places : List ℕ) → cells_at places one ≡ made
    → gathered_then {B = Row} {E = Fault} (Ok (if t then Some made else None)) (Ok (map (cells_at places) rest)) ≡ Ok (map (cells_at places) (cond t (one ∷ rest) rest))
put_first true one made rest places is = ap (λ (r : Row). Ok (r ∷ map (cells_at places) rest)) (sym is)
put_first false one made rest places is = refl

pub gathered-finish : (scan : Scan) (position file : ℕ) (name : List ℕ) (rows : List (ℕ × List CsvCell)) (found : List Row)
    → values_of (used_columns scan) (map (λ (row : ℕ × List CsvCell). row.1) rows) ≡ Some found → AreWide (length scan.fields) rows → NumbersFit scan.asked.row_index position (length rows)
    → gathered (scanned scan always) (placed position file name rows) ≡ Ok (chosen_rows scan (step_rows scan position name found))
gathered-finish scan position file name [] found is wide fit = let none : [] ≡ found = cc in ap (λ (rows : List Row). Ok (chosen_rows scan (step_rows scan position name rows))) none
gathered-finish scan position file name (row ∷ rows) found is wide fit =
    let first = values-first (used_columns scan) row.1 (map (λ (r : ℕ × List CsvCell). r.1) rows) found is in
    let one : Placed = record { position = position; file = file; source = name; at = row.0; cells = row.1 } in
    let step : Row = step_row scan position name first.0 in
    let rest : List Row = filter (passes scan.filter (step_fields scan)) (step_rows scan (position + 1) name first.1) in
    let places : List ℕ = true_places 0 (step_mask scan) in
    let passed : passes scan.filter (whole_fields scan) (whole_row scan one) ≡ passes scan.filter (step_fields scan) step =
    sym (passes-same scan.filter (step_fields scan) (whole_fields scan) step (whole_row scan one) (λ n stands. same_under scan one first.0 n wide.0 first.2 stands)) in
    ap (λ x. gathered_then (row_of_values scan one x) (gathered (scanned scan always) (placed (position + 1) file name rows))) first.2
    ∙ ap (λ t. gathered_then (if t then Ok (if passes scan.filter (whole_fields scan) (whole_row scan one) then Some (output_row scan one) else None) else Err (ComputeError kinds.IndexTooLarge 4294967295 0))
    (gathered (scanned scan always) (placed (position + 1) file name rows))) (fits_first scan.asked.row_index position (length rows) fit)
    ∙ ap (gathered_then (Ok (if passes scan.filter (whole_fields scan) (whole_row scan one) then Some (output_row scan one) else None)))
    (gathered-finish scan (position + 1) file name rows first.1 first.3 wide.1 (fits_later scan.asked.row_index position (length rows) fit))
    ∙ ap (λ t. gathered_then (Ok (if t then Some (output_row scan one) else None)) (Ok (map (cells_at places) rest))) passed
    ∙ put_first (passes scan.filter (step_fields scan) step) step (output_row scan one) rest places (kept_row scan one first.0 wide.0 first.2)
    ∙ ap (λ (all : List Row). Ok (chosen_rows scan (step_rows scan position name all))) (sym first.4)
