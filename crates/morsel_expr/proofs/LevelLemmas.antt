-- The levels of a predicate.
use Rattle.std.proofs.Common.{◌<◌, arith}
use Rattle.morsel_expr.specs.declared.node.PredNode.{PredNode}
use Rattle.morsel_expr.specs.declared.node.PredNode.TheVariants as nodes
use Rattle.morsel_expr.specs.Flaws.{levels}

-- there is at least one
pub levels_above : (node : PredNode) → 0 < levels node
levels_above (nodes.And' p a q b) = omega arith
levels_above (nodes.Or' p a q b) = omega arith
levels_above (nodes.Not' p a) = omega arith
levels_above (nodes.IsNull name) = omega arith
levels_above (nodes.NotNull name) = omega arith
levels_above (nodes.Is name) = omega arith
levels_above (nodes.Cmp op name rhs) = omega arith
