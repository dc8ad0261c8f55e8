-- Why there is no such scan: a name that occurs twice, one that no column has, or a filter that does not fit.
use Rattle.std.specs.Prelude.{ℕ, Option, Some, None, List, [], ◌∷◌}
use Rattle.morsel_meaning.specs.declared.value.Field.{Field}
use Rattle.morsel_meaning.specs.declared.fault.Fault.{Fault}
use Rattle.morsel_frame.specs.Names.{first_repeated}
use Rattle.morsel_frame.specs.Refusals.{fault_of_repeat, repeat_fault, first_fault}
use Rattle.morsel_expr.specs.declared.node.PredNode.{PredNode}
use Rattle.morsel_expr.specs.Flaws.{absence, flaw}
use Rattle.morsel_scan.specs.Scans.{Scan}
use Rattle.morsel_scan.specs.ScanColumns.{whole_fields}

-- the fault of the first of these names that no column has
abbrev pub choice_absence : List Field → List (List ℕ) → Option Fault
choice_absence fields [] = None
choice_absence fields (name ∷ names) = first_fault (absence fields name) (choice_absence fields names)

-- the fault of a choice of columns: a name that occurs twice, and then one that no column has
abbrev pub choice_flaw : List Field → List (List ℕ) → Option Fault
choice_flaw fields columns = first_fault (fault_of_repeat (first_repeated columns)) (choice_absence fields columns)

-- the flaw of a filter over these fields, where there is one
abbrev pub filter_flaw : List Field → Option PredNode → Option Fault
filter_flaw fields None = None
filter_flaw fields (Some node) = flaw fields node

-- the fault of a scan: two of its columns have one name, then its choice of columns, and then its filter
abbrev pub scan_flaw : Scan → Option Fault
scan_flaw scan = first_fault (repeat_fault (whole_fields scan))
    (first_fault (choice_flaw scan.fields scan.asked.columns) (filter_flaw (whole_fields scan) scan.filter))
