use Rattle.std.proofs.Common.{◌≡◌, map, take, drop}
use Rattle.std.specs.Prelude.{option_map}
use Rattle.morsel_group.specs.Asked.{column_place}
use Rattle.morsel_group.specs.GroupFlaws.{agg_absence}
use Rattle.morsel_group.proofs.plan.agg_places.Given as goal

abbrev pub invariant-loop-agg : goal.invariant-loop-agg
invariant-loop-agg l = record {
  places : l.places.items ≡ map (λ agg. option_map (column_place l.input) agg.column) (take l.agg-index l.aggs);
  absent : agg_absence l.input l.aggs ≡ agg_absence l.input (drop l.agg-index l.aggs);
}
