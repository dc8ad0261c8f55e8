-- What a node that decodes pieces has found of its scan; and what adding the row index, the path and the filter makes of rows.
use Rattle.std.specs.Prelude.{◌≡◌, ℕ, ◌+◌, Bool, false, Option, Some, None, Result, Ok, Err, List, ◌++◌, map, length}
use Rattle.std.specs.List.{filter}
use Rattle.morsel_meaning.specs.declared.value.Field.{Field}
use Rattle.morsel_meaning.specs.declared.fault.Fault.{Fault}
use Rattle.morsel_meaning.specs.declared.fault.Fault.TheVariants as faults
use Rattle.morsel_meaning.specs.Values.{Row, Table}
use Rattle.morsel_frame.specs.Tables.{numbered, with_text}
use Rattle.morsel_expr.specs.declared.node.PredNode.{PredNode}
use Rattle.morsel_scan.specs.declared.spec.RowIndex.{RowIndex}
use Rattle.morsel_scan.specs.Scans.{Scan}
use Rattle.morsel_scan.specs.ScanColumns.{used_columns, index_fields, path_fields}
use Rattle.morsel_scan.specs.ScanRows.{passes}
use Rattle.morsel_scan.specs.Filters.{Filter}
use Rattle.morsel_scan.specs.Decoding.{step_fields, step_mask, true_places, NumbersFit, IsNumberFault}

-- the predicate of a filter, where there is one
abbrev pub node_of : Option Filter → Option PredNode
node_of None = None
node_of (Some f) = Some f.node

-- the filter, where there is one, is over these columns
abbrev pub IsFilterOver : List Field → Option Filter → Type 0
IsFilterOver fields None = Unit {0}
IsFilterOver fields (Some f) = fields ≡ f.fields

-- the columns that the filter is over, and these where there is none
abbrev pub filter_fields : List Field → Option Filter → List Field
filter_fields fields None = fields
filter_fields fields (Some f) = f.fields

-- which columns are used, and the places of those that are kept, as a node has found them
pub record IsPrepared (scan : Scan) (step : Option Filter) (used unused : List Bool) (kept : List ℕ) : Type 0 where
  pub used_are : used ≡ used_columns scan
  pub unused_are : unused ≡ map (λ (field : Field). false) scan.fields
  pub kept_are : kept ≡ true_places 0 (step_mask scan)
  pub over : filter_fields (step_fields scan) step ≡ step_fields scan

-- rows with their numbers, where there is a row index
abbrev pub indexed : Option RowIndex → ℕ → List Row → List Row
indexed None position rows = rows
indexed (Some index) position rows = numbered (index.offset + position) rows

-- rows with their file's name, where there is a path
abbrev pub pathed : Option (List ℕ) → List ℕ → List Row → List Row
pathed None source rows = rows
pathed (Some name) source rows = with_text source rows

-- the row index was added, or a number is too large
abbrev pub AddsIndex : Option RowIndex → ℕ → Table → Result Table Fault → Type 0
AddsIndex index position old (Ok new) = (new.schema ≡ index_fields index ++ old.schema) × (new.rows ≡ indexed index position old.rows)
    × NumbersFit index position (length old.rows)
AddsIndex index position old (Err fault) = IsNumberFault index position (length old.rows) fault

-- the path was added, or memory is out
abbrev pub AddsPath : Option (List ℕ) → List ℕ → Table → Result Table Fault → Type 0
AddsPath path source old (Ok new) = (new.schema ≡ old.schema ++ path_fields path) × (new.rows ≡ pathed path source old.rows)
AddsPath path source old (Err fault) = fault ≡ faults.OutOfMemory

-- the rows that pass the filter were kept, or memory is out
abbrev pub KeepsRows : Option Filter → Table → Result Table Fault → Type 0
KeepsRows step old (Ok new) = (new.schema ≡ old.schema) × (new.rows ≡ filter (passes (node_of step) old.schema) old.rows)
KeepsRows step old (Err fault) = fault ≡ faults.OutOfMemory

-- a row index was added whose first number is `first`, or memory is out
abbrev pub PutsIndex : RowIndex → ℕ → Table → Result Table Fault → Type 0
PutsIndex index first old (Ok new) = (new.schema ≡ index_fields (Some index) ++ old.schema) × (new.rows ≡ numbered first old.rows)
PutsIndex index first old (Err fault) = fault ≡ faults.OutOfMemory
