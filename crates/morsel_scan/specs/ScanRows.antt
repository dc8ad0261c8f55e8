-- What a scan means: the rows of all files in order, at positions from 0, then its slice, its filter, and the columns that it keeps.
use Rattle.std.specs.Prelude.{ℕ, ◌+◌, nat_le, ℤ, pos, ◌+ℤ◌, int_le, int_lt, Bool, true, ◌&&◌, if◌then◌else◌, Option, Some, None, Result, Ok, Err, List, [], ◌∷◌, ◌++◌, map, length}
use Rattle.std.specs.List.{sum_by}
use Rattle.morsel_meaning.specs.declared.value.Value.{Value}
use Rattle.morsel_meaning.specs.declared.value.Value.TheVariants as values
use Rattle.morsel_meaning.specs.declared.value.Field.{Field}
use Rattle.morsel_meaning.specs.declared.fault.Fault.{Fault}
use Rattle.morsel_meaning.specs.declared.fault.Fault.TheVariants.{ComputeError}
use Rattle.morsel_meaning.specs.declared.fault.ComputeKind.TheVariants as kinds
use Rattle.morsel_meaning.specs.Values.{Row}
use Rattle.morsel_grammar.specs.Cells.{CsvCell, Good, Bad}
use Rattle.morsel_grammar.specs.Reading.{chosen, used_values}
use Rattle.morsel_expr.specs.declared.node.PredNode.{PredNode}
use Rattle.morsel_expr.specs.Truths.{is_true}
use Rattle.morsel_expr.specs.Predicates.{truth}
use Rattle.morsel_scan.specs.declared.spec.RowIndex.{RowIndex}
use Rattle.morsel_scan.specs.Scans.{Scan}
use Rattle.morsel_scan.specs.ScanColumns.{kept_columns, used_columns, index_values, path_values, whole_fields}

-- where a slice of so many rows begins: its offset, counted from the end where it is below 0
abbrev pub slice_start : ℕ → ℤ → ℤ
slice_start total offset = if int_lt offset (pos 0) then pos total +ℤ offset else offset

-- whether a slice of so many rows keeps the position: it is not before the start, and less than the length after it
abbrev pub slice_keeps : Option (ℤ × ℕ) → ℕ → ℕ → Bool
slice_keeps None total position = true
slice_keeps (Some slice) total position =
    int_le (slice_start total slice.0) (pos position) && int_lt (pos position) (slice_start total slice.0 +ℤ pos slice.1)

-- a row of a scan's files
pub record Placed : Type 0 where
  pub position : ℕ  -- its place among the rows of all files, from 0
  pub file : ℕ  -- its file's number within the query
  pub source : List ℕ  -- its file's name
  pub at : ℕ  -- the place of its record in its file, where files have records
  pub cells : List CsvCell  -- its cells, of all columns of the file

-- a value; none where the cell is bad
abbrev pub good_value : CsvCell → Value
good_value (Good v) = v
good_value Bad = values.Null

-- the row under the row index, all columns of the files and the path; a bad cell, which is of no used column, is null
abbrev pub whole_row : Scan → Placed → Row
whole_row scan row = index_values scan.asked.row_index row.position ++ (map good_value row.cells ++ path_values scan.asked.path row.source)

-- the row under the row index, the kept columns and the path
abbrev pub output_row : Scan → Placed → Row
output_row scan row =
    index_values scan.asked.row_index row.position ++ (chosen (kept_columns scan) (map good_value row.cells) ++ path_values scan.asked.path row.source)

-- whether the filter, where there is one, is true of the row
abbrev pub passes : Option PredNode → List Field → Row → Bool
passes None fields row = true
passes (Some node) fields row = is_true (truth fields node row)

-- whether the number after the row's is within 32 bits, where rows have numbers
abbrev pub index_fits : Option RowIndex → ℕ → Bool
index_fits None position = true
index_fits (Some index) position = nat_le (index.offset + position + 1) 4294967295

-- what is made of a row without a bad cell in a used column: a fault where its number is too large, itself where it passes the filter, else nothing
abbrev pub sound_row : Scan → Placed → Result (Option Row) Fault
sound_row scan row = if index_fits scan.asked.row_index row.position
    then Ok (if passes scan.filter (whole_fields scan) (whole_row scan row) then Some (output_row scan row) else None)
    else Err (ComputeError kinds.IndexTooLarge 4294967295 0)

-- the same, given the values of the used columns; where one is bad, a fault
abbrev pub row_of_values : Scan → Placed → Option Row → Result (Option Row) Fault
row_of_values scan row None = Err (ComputeError kinds.IllTyped row.file row.at)
row_of_values scan row (Some found) = sound_row scan row

-- what a scan makes of a row, given which positions its slice keeps: nothing of those that it does not
abbrev pub scanned : Scan → (ℕ → Bool) → Placed → Result (Option Row) Fault
scanned scan keeps row = if keeps row.position then row_of_values scan row (used_values (used_columns scan) row.cells) else Ok None

-- an answer, where there is one, before others
abbrev pub answer_first : {B E : Type 0} → Option B → Result (List B) E → Result (List B) E
answer_first None (Ok answers) = Ok answers
answer_first (Some answer) (Ok answers) = Ok (answer ∷ answers)
answer_first answer (Err fault) = Err fault

-- what is made of one, and then of the others; the first fault ends it
abbrev pub gathered_then : {B E : Type 0} → Result (Option B) E → Result (List B) E → Result (List B) E
gathered_then (Err fault) later = Err fault
gathered_then (Ok answer) later = answer_first answer later

-- what is made of each in order: none or one answer, or the first fault
abbrev pub gathered : {A B E : Type 0} → (A → Result (Option B) E) → List A → Result (List B) E
gathered f [] = Ok []
gathered f (x ∷ xs) = gathered_then (f x) (gathered f xs)

-- the answers of one part and then those of another, or the first fault
abbrev pub followed_by : {B E : Type 0} → Result (List B) E → Result (List B) E → Result (List B) E
followed_by (Err fault) later = Err fault
followed_by (Ok answers) (Err fault) = Err fault
followed_by (Ok answers) (Ok more) = Ok (answers ++ more)

-- the rows of a file up to a fault that ends them, each with the place of its record
pub record SourceRows : Type 0 where
  pub file : ℕ  -- the file's number within the query
  pub name : List ℕ
  pub rows : List (ℕ × List CsvCell)
  pub fault : Option Fault

-- rows of a file, from a position on
abbrev pub placed : ℕ → ℕ → List ℕ → List (ℕ × List CsvCell) → List Placed
placed position file source [] = []
placed position file source (row ∷ rows) =
    record { position = position; file = file; source = source; at = row.0; cells = row.1 } ∷ placed (position + 1) file source rows

-- what was made of rows, and then the fault that ends them
abbrev pub ended_by : {B E : Type 0} → Option E → Result (List B) E → Result (List B) E
ended_by None found = found
ended_by (Some fault) (Ok answers) = Err fault
ended_by (Some fault) (Err first) = Err first

-- what a scan makes of a file whose first row has this position
abbrev pub scanned_source : Scan → (ℕ → Bool) → ℕ → SourceRows → Result (List Row) Fault
scanned_source scan keeps position source = ended_by source.fault (gathered (scanned scan keeps) (placed position source.file source.name source.rows))

-- what a scan makes of file after file, whose first row has this position
abbrev pub scanned_sources : Scan → (ℕ → Bool) → ℕ → List SourceRows → Result (List Row) Fault
scanned_sources scan keeps position [] = Ok []
scanned_sources scan keeps position (source ∷ sources) =
    followed_by (scanned_source scan keeps position source) (scanned_sources scan keeps (position + length source.rows) sources)

-- how many rows files have
abbrev pub total_rows : List SourceRows → ℕ
total_rows sources = sum_by (λ (source : SourceRows). length source.rows) sources

-- the rows of a scan of these files; a fault where it has no meaning
abbrev pub scan_rows : Scan → List SourceRows → Result (List Row) Fault
scan_rows scan sources = scanned_sources scan (slice_keeps scan.asked.slice (total_rows sources)) 0 sources
