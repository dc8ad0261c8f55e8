-- The levels of a predicate are those of the tree that it is written as.
use Rattle.std.proofs.Common.{◌≡◌, ℕ, suc, max, refl, ap, ap₂}
use Rattle.morsel_expr.specs.declared.node.CmpOp.TheVariants as ops
use Rattle.morsel_expr.specs.declared.node.CmpOp.{CmpOp}
use Rattle.morsel_expr.specs.declared.node.PredNode.{PredNode}
use Rattle.morsel_expr.specs.declared.node.PredNode.TheVariants as nodes
use Rattle.morsel_expr.specs.Flaws.{levels}
use Rattle.serde_json.specs.Data.{Data, string}
use Rattle.morsel_query_text.specs.Predicates.{two_parts, op_word, side_tree, pred_tree, tree_levels}

of_comparison : (op : CmpOp) (a b : Data) → tree_levels (two_parts (op_word op) a b) ≡ 1
of_comparison ops.Eq a b = refl
of_comparison ops.Ne a b = refl
of_comparison ops.Lt a b = refl
of_comparison ops.Le a b = refl
of_comparison ops.Gt a b = refl
of_comparison ops.Ge a b = refl

pub levels_of_tree : (node : PredNode) → tree_levels (pred_tree node) ≡ levels node
levels_of_tree (nodes.And' p a q b) = ap₂ (λ (m n : ℕ). suc (max m n)) (levels_of_tree a) (levels_of_tree b)
levels_of_tree (nodes.Or' p a q b) = ap₂ (λ (m n : ℕ). suc (max m n)) (levels_of_tree a) (levels_of_tree b)
levels_of_tree (nodes.Not' p a) = ap suc (levels_of_tree a)
levels_of_tree (nodes.IsNull name) = refl
levels_of_tree (nodes.NotNull name) = refl
levels_of_tree (nodes.Is name) = refl
levels_of_tree (nodes.Cmp op name rhs) = of_comparison op (string name) (side_tree rhs)
