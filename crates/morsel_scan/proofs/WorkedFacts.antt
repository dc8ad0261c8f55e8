-- What scans of a few rows are, worked out by hand.
use Rattle.std.specs.Prelude.{◌≡◌, pos, negsuc, true, false, Some, None, Ok, Err, List, [], ◌∷◌, codes, refl}
use Rattle.morsel_meaning.specs.declared.value.ColType.TheVariants as types
use Rattle.morsel_meaning.specs.declared.value.Value.TheVariants as values
use Rattle.morsel_meaning.specs.declared.value.Field.{Field}
use Rattle.morsel_meaning.specs.declared.fault.Fault.TheVariants.{ComputeError}
use Rattle.morsel_meaning.specs.declared.fault.ComputeKind.TheVariants as kinds
use Rattle.morsel_grammar.specs.Cells.{Good, Bad}
use Rattle.morsel_scan.specs.Scans.{FileOptions}
use Rattle.morsel_scan.specs.ScanRows.{SourceRows, slice_keeps, scan_rows}

-- a slice of 75 rows from 100 before the end, of 50 rows, keeps the first 25
pub a_slice_from_before_the_first_row_begins : slice_keeps (Some (negsuc 99, 75)) 50 0 ≡ true
a_slice_from_before_the_first_row_begins = refl

pub its_last_row_is_kept : slice_keeps (Some (negsuc 99, 75)) 50 24 ≡ true
its_last_row_is_kept = refl

pub the_row_after_it_is_not_kept : slice_keeps (Some (negsuc 99, 75)) 50 25 ≡ false
the_row_after_it_is_not_kept = refl

-- the last of two rows
pub the_last_row_is_kept : slice_keeps (Some (negsuc 0, 1)) 2 1 ≡ true
the_last_row_is_kept = refl

pub the_row_before_the_last_is_not_kept : slice_keeps (Some (negsuc 0, 1)) 2 0 ≡ false
the_row_before_the_last_is_not_kept = refl

-- two columns of numbers
abbrev two_fields : List Field
two_fields = record { name = codes "a"; kind = types.Int } ∷ record { name = codes "b"; kind = types.Int } ∷ []

-- one row, whose first cell is bad
abbrev bad_first : SourceRows
bad_first = record { file = 0; name = codes "f"; rows = (4, Bad ∷ Good (values.Int (pos 7)) ∷ []) ∷ []; fault = None }

-- two files of one row each
abbrev two_files : List SourceRows
two_files = record { file = 0; name = codes "f"; rows = (0, Good (values.Int (pos 1)) ∷ Good (values.Int (pos 2)) ∷ []) ∷ []; fault = None }
    ∷ record { file = 1; name = codes "g"; rows = (0, Good (values.Int (pos 3)) ∷ Good (values.Int (pos 4)) ∷ []) ∷ []; fault = None } ∷ []

abbrev all_columns : FileOptions
all_columns = record { slice = None; columns = []; row_index = None; path = None; allow_missing_columns = false }

pub a_bad_cell_is_a_fault : scan_rows (record { fields = two_fields; asked = all_columns; filter = None }) (bad_first ∷ []) ≡ Err (ComputeError kinds.IllTyped 0 4)
a_bad_cell_is_a_fault = refl

pub a_bad_cell_of_an_unused_column_is_none :
    scan_rows (record { fields = two_fields; asked = record { slice = None; columns = codes "b" ∷ []; row_index = None; path = None; allow_missing_columns = false }; filter = None }) (bad_first ∷ [])
    ≡ Ok ((values.Int (pos 7) ∷ []) ∷ [])
a_bad_cell_of_an_unused_column_is_none = refl

-- the row index counts on over files, and the path is the file's name
pub rows_of_two_files :
    scan_rows (record { fields = two_fields; asked = record { slice = None; columns = codes "b" ∷ []; row_index = Some (record { name = codes "i"; offset = 5 }); path = Some (codes "p"); allow_missing_columns = false }; filter = None }) two_files
    ≡ Ok ((values.Int (pos 5) ∷ values.Int (pos 2) ∷ values.Text (codes "f") ∷ []) ∷ (values.Int (pos 6) ∷ values.Int (pos 4) ∷ values.Text (codes "g") ∷ []) ∷ [])
rows_of_two_files = refl

-- an index at the last number is one, and one past it is a fault
pub an_index_at_the_last_number :
    scan_rows (record { fields = two_fields; asked = record { slice = Some (pos 1, 1); columns = []; row_index = Some (record { name = codes "i"; offset = 4294967293 }); path = None; allow_missing_columns = false }; filter = None }) two_files
    ≡ Ok ((values.Int (pos 4294967294) ∷ values.Int (pos 3) ∷ values.Int (pos 4) ∷ []) ∷ [])
an_index_at_the_last_number = refl

pub an_index_past_the_last_number :
    scan_rows (record { fields = two_fields; asked = record { slice = Some (pos 1, 1); columns = []; row_index = Some (record { name = codes "i"; offset = 4294967294 }); path = None; allow_missing_columns = false }; filter = None }) two_files
    ≡ Err (ComputeError kinds.IndexTooLarge 4294967295 0)
an_index_past_the_last_number = refl
