use Rattle.std.proofs.Common.{◌≡◌, drop}
use Rattle.morsel_scan.specs.ScanFlaws.{choice_absence}
use Rattle.morsel_scan.proofs.source_fields.check_names.Given as goal

abbrev pub invariant-loop-column : goal.invariant-loop-column
invariant-loop-column l = choice_absence l.schema (drop l.column-index l.columns) ≡ choice_absence l.schema l.columns
