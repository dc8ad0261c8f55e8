use Rattle.std.proofs.Common.{◌≡◌, map}
use Rattle.serde_json.specs.View.{members_view}
use Rattle.morsel_query_text.specs.Trees.{are_among}
use Rattle.morsel_query_text.proofs.trees.are_among.Given as goal

abbrev pub invariant-loop-key : goal.invariant-loop-key
invariant-loop-key l = are_among (map (λ key. key.now) l.keys) (members_view l.members.entries) ≡ are_among (map (λ key. key.now) l.keys) (members_view l.key-iterator)
