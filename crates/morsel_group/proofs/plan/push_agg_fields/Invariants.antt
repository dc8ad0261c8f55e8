use Rattle.std.proofs.Common.{◌≡◌, ◌++◌, map, take}
use Rattle.morsel_group.specs.Asked.{agg_field}
use Rattle.morsel_group.proofs.plan.push_agg_fields.Given as goal

abbrev pub invariant-loop-i : goal.invariant-loop-i
invariant-loop-i l = l.fields.items ≡ l.initial.fields.items ++ map (agg_field l.input) (take l.i l.aggs)
