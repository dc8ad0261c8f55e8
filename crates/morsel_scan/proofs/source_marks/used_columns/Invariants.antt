use Rattle.std.proofs.Common.{◌≡◌, take}
use Rattle.std.specs.Prelude.{◌||◌, map}
use Rattle.morsel_meaning.specs.declared.value.Field.{Field}
use Rattle.morsel_frame.specs.Names.{stands_in}
use Rattle.morsel_scan.specs.ScanColumns.{is_kept, filter_names}
use Rattle.morsel_scan.proofs.source_marks.used_columns.Given as goal

abbrev pub invariant-loop-field : goal.invariant-loop-field
invariant-loop-field l =
    l.used.items ≡ map (λ (field : Field). is_kept l.columns field.name || stands_in field.name (filter_names l.filter)) (take l.field-index l.fields)
