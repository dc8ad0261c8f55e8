-- What is told of a predicate part by part is told by the tree that it is written as, and not by the places of its boxes.
use Rattle.std.proofs.Common.{Box, Global, ◌≡◌, ◌∙◌, ℕ, pos, negsuc, if◌then◌else◌, List, [], ◌++◌, refl, ap, ap₂, sym}
use Rattle.std.specs.Prelude.{codes}
use Rattle.std.specs.Str.{bytes_eq}
use Rattle.serde_json.specs.Data.{Data, boolean, number, string, array, object, unsigned, negative, no_items, item, Members, no_members, member}
use Rattle.morsel_meaning.specs.declared.value.Value.{Value}
use Rattle.morsel_meaning.specs.declared.value.Value.TheVariants as values
use Rattle.morsel_meaning.specs.declared.value.Field.{Field}
use Rattle.morsel_frame.specs.Refusals.{first_fault}
use Rattle.morsel_expr.specs.declared.node.CmpOp.{CmpOp}
use Rattle.morsel_expr.specs.declared.node.CmpOp.TheVariants as ops
use Rattle.morsel_expr.specs.declared.node.Rhs.{Rhs}
use Rattle.morsel_expr.specs.declared.node.Rhs.TheVariants as sides
use Rattle.morsel_expr.specs.declared.node.PredNode.{PredNode}
use Rattle.morsel_expr.specs.declared.node.PredNode.TheVariants as nodes
use Rattle.morsel_expr.specs.Truths.{least, greatest, mirror}
use Rattle.morsel_expr.specs.Predicates.{truth}
use Rattle.morsel_expr.specs.Flaws.{first_absence, first_misfit}
use Rattle.morsel_scan.specs.ScanColumns.{names_in}
use Rattle.morsel_query_text.specs.Predicates.{side_tree, pred_tree, tree_levels, IsOnePredicate}
use Rattle.morsel_query_text.proofs.LevelLemmas.{levels_of_tree}

-- ---- the parts of a tree

abbrev text_of : Data → List ℕ
text_of (string s) = s
text_of tree = []

abbrev value_of : Data → Value
value_of (boolean b) = values.Bool b
value_of (number (unsigned n)) = values.Int (pos n)
value_of (number (negative z)) = values.Int z
value_of (string s) = values.Text s
value_of tree = values.Null

abbrev side_of_members : Members → Rhs
side_of_members no_members = sides.Lit values.Null
side_of_members (member key value more) = if bytes_eq key (codes "col") then sides.Col (text_of value) else sides.Lit (value_of value)

abbrev side_of : Data → Rhs
side_of (object ms) = side_of_members ms
side_of tree = sides.Lit values.Null

abbrev op_of : List ℕ → CmpOp
op_of word =
    if bytes_eq word (codes "eq") then ops.Eq
    else (if bytes_eq word (codes "ne") then ops.Ne
    else (if bytes_eq word (codes "lt") then ops.Lt
    else (if bytes_eq word (codes "le") then ops.Le else (if bytes_eq word (codes "gt") then ops.Gt else ops.Ge))))

abbrev test_of : List ℕ → Data → PredNode
test_of word part =
    if bytes_eq word (codes "null") then nodes.IsNull (text_of part)
    else (if bytes_eq word (codes "notnull") then nodes.NotNull (text_of part) else nodes.Is (text_of part))

abbrev of_one_part : {R : Type 0} → (R → R) → (PredNode → R) → List ℕ → Data → R → R
of_one_part opposite told word part below = if bytes_eq word (codes "not") then opposite below else told (test_of word part)

abbrev of_two_parts : {R : Type 0} → (R → R → R) → (R → R → R) → (PredNode → R) → List ℕ → Data → Data → R → R → R
of_two_parts both either told word a b first second =
    if bytes_eq word (codes "and") then both first second
    else (if bytes_eq word (codes "or") then either first second else told (nodes.Cmp (op_of word) (text_of a) (side_of b)))

-- what is told of a predicate part by part, of the tree that it is written as
abbrev of_tree : {R : Type 0} → (R → R → R) → (R → R → R) → (R → R) → (PredNode → R) → Data → R
of_tree both either opposite told (array (item (string word) (item part no_items))) = of_one_part opposite told word part (of_tree both either opposite told part)
of_tree both either opposite told (array (item (string word) (item a (item b no_items)))) =
    of_two_parts both either told word a b (of_tree both either opposite told a) (of_tree both either opposite told b)
of_tree both either opposite told tree = told (nodes.IsNull [])

-- ---- it is what is told of the predicate

side_is : (rhs : Rhs) → side_of (side_tree rhs) ≡ rhs
side_is (sides.Col name) = refl
side_is (sides.Lit values.Null) = refl
side_is (sides.Lit (values.Int (pos n))) = refl
side_is (sides.Lit (values.Int (negsuc n))) = refl
side_is (sides.Lit (values.Bool b)) = refl
side_is (sides.Lit (values.Text t)) = refl

module _ {R : Type 0} (both either : R → R → R) (opposite : R → R) (told : PredNode → R) where
  comparison_is : (op : CmpOp) (name : List ℕ) (rhs : Rhs) → of_tree both either opposite told (pred_tree (nodes.Cmp op name rhs)) ≡ told (nodes.Cmp op name rhs)
  comparison_is ops.Eq name rhs = ap (λ (r : Rhs). told (nodes.Cmp ops.Eq name r)) (side_is rhs)
  comparison_is ops.Ne name rhs = ap (λ (r : Rhs). told (nodes.Cmp ops.Ne name r)) (side_is rhs)
  comparison_is ops.Lt name rhs = ap (λ (r : Rhs). told (nodes.Cmp ops.Lt name r)) (side_is rhs)
  comparison_is ops.Le name rhs = ap (λ (r : Rhs). told (nodes.Cmp ops.Le name r)) (side_is rhs)
  comparison_is ops.Gt name rhs = ap (λ (r : Rhs). told (nodes.Cmp ops.Gt name r)) (side_is rhs)
  comparison_is ops.Ge name rhs = ap (λ (r : Rhs). told (nodes.Cmp ops.Ge name r)) (side_is rhs)

  module _ (ands : (p : Box (Unit {0}) Global) (a : PredNode) (q : Box (Unit {0}) Global) (b : PredNode) → both (told a) (told b) ≡ told (nodes.And' p a q b))
      (ors : (p : Box (Unit {0}) Global) (a : PredNode) (q : Box (Unit {0}) Global) (b : PredNode) → either (told a) (told b) ≡ told (nodes.Or' p a q b))
      (nots : (p : Box (Unit {0}) Global) (a : PredNode) → opposite (told a) ≡ told (nodes.Not' p a)) where
    told_is : (node : PredNode) → of_tree both either opposite told (pred_tree node) ≡ told node
    told_is (nodes.And' p a q b) = ap₂ both (told_is a) (told_is b) ∙ ands p a q b
    told_is (nodes.Or' p a q b) = ap₂ either (told_is a) (told_is b) ∙ ors p a q b
    told_is (nodes.Not' p a) = ap opposite (told_is a) ∙ nots p a
    told_is (nodes.IsNull name) = refl
    told_is (nodes.NotNull name) = refl
    told_is (nodes.Is name) = refl
    told_is (nodes.Cmp op name rhs) = comparison_is op name rhs

    -- so it is the same of predicates that are written as one tree
    told_alike : (a b : PredNode) → pred_tree a ≡ pred_tree b → told a ≡ told b
    told_alike a b alike = sym (told_is a) ∙ ap (of_tree both either opposite told) alike ∙ told_is b

absence_alike : (fields : List Field) (a b : PredNode) → pred_tree a ≡ pred_tree b → first_absence fields a ≡ first_absence fields b
absence_alike fields = told_alike first_fault first_fault (λ due. due) (first_absence fields) (λ p a q b. refl) (λ p a q b. refl) (λ p a. refl)

misfit_alike : (fields : List Field) (a b : PredNode) → pred_tree a ≡ pred_tree b → first_misfit fields a ≡ first_misfit fields b
misfit_alike fields = told_alike first_fault first_fault (λ due. due) (first_misfit fields) (λ p a q b. refl) (λ p a q b. refl) (λ p a. refl)

pub one_predicate : IsOnePredicate
one_predicate a b alike = record {
  truths = λ fields row. told_alike least greatest mirror (λ node. truth fields node row) (λ p c q d. refl) (λ p c q d. refl) (λ p c. refl) a b alike;
  flaws = λ fields. ap₂ first_fault (absence_alike fields a b alike) (misfit_alike fields a b alike);
  depth = sym (levels_of_tree a) ∙ ap tree_levels alike ∙ levels_of_tree b;
  names = told_alike (λ m n. m ++ n) (λ m n. m ++ n) (λ m. m) names_in (λ p c q d. refl) (λ p c q d. refl) (λ p c. refl) a b alike;
}
