use Rattle.std.proofs.Common.{◌≡◌, take}
use Rattle.std.specs.Prelude.{map}
use Rattle.morsel_meaning.specs.declared.value.Field.{Field}
use Rattle.morsel_scan.specs.ScanColumns.{is_kept}
use Rattle.morsel_scan.proofs.source_marks.kept_columns.Given as goal

abbrev pub invariant-loop-field : goal.invariant-loop-field
invariant-loop-field l = l.kept.items ≡ map (λ (field : Field). is_kept l.columns field.name) (take l.field-index l.fields)
