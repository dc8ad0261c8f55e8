use Rattle.std.proofs.Common.{◌≡◌, ◌++◌, drop}
use Rattle.std.specs.Prelude.{option_map}
use Rattle.serde_json.specs.View.{items_view}
use Rattle.morsel_query_text.specs.QueryTexts.{agg_of}
use Rattle.morsel_query_text.specs.Trees.{each_as}
use Rattle.morsel_query_text.proofs.group.aggs_of_items.Given as goal

abbrev pub invariant-loop-item : goal.invariant-loop-item
invariant-loop-item l = each_as agg_of (items_view l.items) ≡ option_map (λ rest. l.aggs.items ++ rest) (each_as agg_of (items_view (drop l.item-index l.items)))
