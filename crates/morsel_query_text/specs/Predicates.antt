-- The text of predicates: how a predicate is written, which trees are predicates, how many levels these have, and what is the same of
-- predicates that are written alike.
use Rattle.std.specs.Prelude.{◌≡◌, ℕ, suc, max, Bool, true, false, ◌&&◌, ◌||◌, codes, is_some, if◌then◌else◌, Option, Some, None, List, [], ◌∷◌}
use Rattle.std.specs.Str.{bytes_eq}
use Rattle.serde_json.specs.Data.{Data, null, boolean, number, string, array, object, no_items, item, Members, no_members, member}
use Rattle.serde_json.specs.Find.{as_str, of_integer}
use Rattle.morsel_meaning.specs.declared.value.Value.{Value}
use Rattle.morsel_meaning.specs.declared.value.Value.TheVariants as values
use Rattle.morsel_meaning.specs.declared.value.Field.{Field}
use Rattle.morsel_meaning.specs.Values.{Row}
use Rattle.morsel_frame.specs.Names.{stands_in}
use Rattle.morsel_expr.specs.declared.node.CmpOp.{CmpOp}
use Rattle.morsel_expr.specs.declared.node.CmpOp.TheVariants as ops
use Rattle.morsel_expr.specs.declared.node.Rhs.{Rhs}
use Rattle.morsel_expr.specs.declared.node.Rhs.TheVariants as sides
use Rattle.morsel_expr.specs.declared.node.PredNode.{PredNode}
use Rattle.morsel_expr.specs.declared.node.PredNode.TheVariants as nodes
use Rattle.morsel_expr.specs.Predicates.{truth}
use Rattle.morsel_expr.specs.Flaws.{levels, flaw}
use Rattle.morsel_scan.specs.ScanColumns.{names_in}
use Rattle.morsel_query_text.specs.Trees.{signed_number}

-- ---- how a predicate is written

-- a list of a word and one part
abbrev pub one_part : List ℕ → Data → Data
one_part word part = array (item (string word) (item part no_items))

-- a list of a word and two parts
abbrev pub two_parts : List ℕ → Data → Data → Data
two_parts word a b = array (item (string word) (item a (item b no_items)))

-- an object of one member
abbrev pub one_member : List ℕ → Data → Data
one_member key value = object (member key value no_members)

-- the word of a comparison
abbrev pub op_word : CmpOp → List ℕ
op_word ops.Eq = codes "eq"
op_word ops.Ne = codes "ne"
op_word ops.Lt = codes "lt"
op_word ops.Le = codes "le"
op_word ops.Gt = codes "gt"
op_word ops.Ge = codes "ge"

-- a value, as it is written
abbrev pub literal_tree : Value → Data
literal_tree values.Null = null
literal_tree (values.Int n) = number (of_integer n)
literal_tree (values.Bool b) = boolean b
literal_tree (values.Text t) = string t

-- the second side of a comparison, as it is written
abbrev pub side_tree : Rhs → Data
side_tree (sides.Col name) = one_member (codes "col") (string name)
side_tree (sides.Lit value) = one_member (codes "lit") (literal_tree value)

-- a predicate, as it is written
abbrev pub pred_tree : PredNode → Data
pred_tree (nodes.And' p a q b) = two_parts (codes "and") (pred_tree a) (pred_tree b)
pred_tree (nodes.Or' p a q b) = two_parts (codes "or") (pred_tree a) (pred_tree b)
pred_tree (nodes.Not' p a) = one_part (codes "not") (pred_tree a)
pred_tree (nodes.IsNull name) = one_part (codes "null") (string name)
pred_tree (nodes.NotNull name) = one_part (codes "notnull") (string name)
pred_tree (nodes.Is name) = one_part (codes "is") (string name)
pred_tree (nodes.Cmp op name rhs) = two_parts (op_word op) (string name) (side_tree rhs)

-- ---- which trees are predicates

-- whether a tree is a text
abbrev pub is_text : Data → Bool
is_text tree = is_some (as_str tree)

-- whether a tree is a value: a null, a truth value, a text, or a number of 64 bits with a sign
abbrev pub is_literal : Data → Bool
is_literal null = true
is_literal (boolean b) = true
is_literal (number n) = is_some (signed_number (number n))
is_literal (string s) = true
is_literal (array ds) = false
is_literal (object ms) = false

-- whether a member is the second side of a comparison: a column's name, or a value
abbrev pub is_side_member : List ℕ → Data → Bool
is_side_member key value = if bytes_eq key (codes "col") then is_text value else (bytes_eq key (codes "lit") && is_literal value)

-- whether members are one, the second side of a comparison
abbrev pub are_side : Members → Bool
are_side no_members = false
are_side (member key value no_members) = is_side_member key value
are_side (member key value (member other more ms)) = false

-- whether a tree is the second side of a comparison
abbrev pub is_side : Data → Bool
is_side null = false
is_side (boolean b) = false
is_side (number n) = false
is_side (string s) = false
is_side (array ds) = false
is_side (object ms) = are_side ms

-- the words of comparisons
abbrev pub op_words : List (List ℕ)
op_words = codes "eq" ∷ codes "ne" ∷ codes "lt" ∷ codes "le" ∷ codes "gt" ∷ codes "ge" ∷ []

-- the words of tests of one column
abbrev pub test_words : List (List ℕ)
test_words = codes "null" ∷ codes "notnull" ∷ codes "is" ∷ []

-- whether a word with one part is a test of one column
abbrev pub is_test : List ℕ → Data → Bool
is_test word part = stands_in word test_words && is_text part

-- whether a word with two parts is a comparison
abbrev pub is_comparison : List ℕ → Data → Data → Bool
is_comparison word a b = stands_in word op_words && (is_text a && is_side b)

-- whether a word with one part is a predicate, where it is told whether the part is one
abbrev pub is_one_part : List ℕ → Data → Bool → Bool
is_one_part word part below = if bytes_eq word (codes "not") then below else is_test word part

-- whether a word with two parts is a predicate, where it is told whether each part is one
abbrev pub is_two_parts : List ℕ → Data → Data → Bool → Bool → Bool
is_two_parts word a b first second =
    if bytes_eq word (codes "and") || bytes_eq word (codes "or") then first && second else is_comparison word a b

-- whether a tree is a predicate
abbrev pub is_predicate : Data → Bool
is_predicate (array (item (string word) (item part no_items))) = is_one_part word part (is_predicate part)
is_predicate (array (item (string word) (item a (item b no_items)))) = is_two_parts word a b (is_predicate a) (is_predicate b)
is_predicate tree = false

-- a tree that is a predicate
abbrev pub predicate : Data → Option Data
predicate tree = if is_predicate tree then Some tree else None

-- ---- levels

-- the words of predicates that have predicates as parts
abbrev pub join_words : List (List ℕ)
join_words = codes "and" ∷ codes "or" ∷ codes "not" ∷ []

-- how many levels a tree has that is a predicate
abbrev pub tree_levels : Data → ℕ
tree_levels (array (item (string word) (item part no_items))) = if stands_in word join_words then suc (tree_levels part) else 1
tree_levels (array (item (string word) (item a (item b no_items)))) = if stands_in word join_words then suc (max (tree_levels a) (tree_levels b)) else 1
tree_levels tree = 1

-- ---- predicates that are written alike

-- two predicates say the same of each row, have the same flaws over all fields, as many levels, and the names of the same columns
pub record SayTheSame (a b : PredNode) : Type 0 where
  pub truths : (fields : List Field) (row : Row) → truth fields a row ≡ truth fields b row
  pub flaws : (fields : List Field) → flaw fields a ≡ flaw fields b
  pub depth : levels a ≡ levels b
  pub names : names_in a ≡ names_in b

-- predicates that are written as one tree say the same
abbrev pub IsOnePredicate : Type 0
IsOnePredicate = (a b : PredNode) → pred_tree a ≡ pred_tree b → SayTheSame a b
