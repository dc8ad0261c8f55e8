use Rattle.std.proofs.Common.{◌+◌, ◌*◌, max}
use Rattle.serde_json.specs.Data.{depth, items_depth}
use Rattle.serde_json.specs.View.{view, items_view}
use Rattle.morsel_query_text.proofs.predicate.+predicate.Given as goal

abbrev pub decreases-predicate_of : goal.decreases-predicate_of
decreases-predicate_of l = 3 * depth (view l.tree.now)

abbrev pub decreases-of_items : goal.decreases-of_items
decreases-of_items l = 3 * items_depth (items_view l.items.now) + 2

abbrev pub decreases-of_one_part : goal.decreases-of_one_part
decreases-of_one_part l = 3 * depth (view l.part.now) + 1

abbrev pub decreases-of_two_parts : goal.decreases-of_two_parts
decreases-of_two_parts l = 3 * max (depth (view l.first.now)) (depth (view l.second.now)) + 1
