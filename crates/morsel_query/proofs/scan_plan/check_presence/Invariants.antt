use Rattle.std.proofs.Common.{◌≡◌, drop}
use Rattle.morsel_scan.specs.ScanFlaws.{choice_absence}
use Rattle.morsel_query.proofs.scan_plan.check_presence.Given as goal

abbrev pub invariant-loop-name : goal.invariant-loop-name
invariant-loop-name l = choice_absence l.schema l.names ≡ choice_absence l.schema (drop l.name-index l.names)
