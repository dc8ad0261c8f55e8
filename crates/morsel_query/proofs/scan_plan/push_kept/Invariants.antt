use Rattle.std.proofs.Common.{◌≡◌, ◌++◌, drop}
use Rattle.morsel_query.specs.Queries.{kept_fields}
use Rattle.morsel_query.proofs.scan_plan.push_kept.Given as goal

abbrev pub invariant-loop-field : goal.invariant-loop-field
invariant-loop-field l = l.fields.items ++ kept_fields l.columns (drop l.field-index l.more) ≡ l.initial.fields.items ++ kept_fields l.columns l.more
