-- How much work a loop has left that takes a tree apart.
use Rattle.std.specs.Prelude.{ℕ, ◌+◌, ◌*◌, Bool, true, false}
use Rattle.morsel_expr.specs.declared.node.PredNode.{PredNode}
use Rattle.morsel_expr.specs.declared.node.PredNode.TheVariants as nodes

-- one for each node, where a first part weighs twice
abbrev pub weight : PredNode → ℕ
weight (nodes.And' p a q b) = 1 + 2 * weight a + weight b
weight (nodes.Or' p a q b) = 1 + 2 * weight a + weight b
weight (nodes.Not' p a) = 1 + weight a
weight (nodes.IsNull name) = 1
weight (nodes.NotNull name) = 1
weight (nodes.Is name) = 1
weight (nodes.Cmp op name rhs) = 1

-- whether a node has no parts
abbrev pub is_leaf : PredNode → Bool
is_leaf (nodes.And' p a q b) = false
is_leaf (nodes.Or' p a q b) = false
is_leaf (nodes.Not' p a) = false
is_leaf (nodes.IsNull name) = true
is_leaf (nodes.NotNull name) = true
is_leaf (nodes.Is name) = true
is_leaf (nodes.Cmp op name rhs) = true
