-- What a comparison says of two values in each of their three orders.
use Rattle.std.specs.Prelude.{Bool, if◌then◌else◌, List, map}
use Rattle.std.specs.List.{zip}
use Rattle.std.specs.declared.cmp.Ordering.{Ordering}
use Rattle.std.specs.declared.cmp.Ordering.TheVariants as orders
use Rattle.morsel_meaning.specs.declared.value.Value.{Value}
use Rattle.morsel_meaning.specs.Order.{value_cmp}
use Rattle.morsel_expr.specs.declared.truth.Truth.{Truth}
use Rattle.morsel_expr.specs.declared.truth.Truth.TheVariants.{Unknown}
use Rattle.morsel_expr.specs.declared.node.CmpOp.{CmpOp}
use Rattle.morsel_expr.specs.declared.order_truths.OrderTruths.{OrderTruths}
use Rattle.morsel_expr.specs.Truths.{certain}
use Rattle.morsel_expr.specs.Predicates.{holds}

-- what a comparison says in one order
abbrev pub answer : OrderTruths → Ordering → Truth
answer answers orders.Less = answers.less
answer answers orders.Equal = answers.equal
answer answers orders.Greater = answers.greater

-- what a comparison says in each order
abbrev pub answers_of : CmpOp → OrderTruths
answers_of op = record {
  less = certain (holds op orders.Less);
  equal = certain (holds op orders.Equal);
  greater = certain (holds op orders.Greater);
}

-- the answers of items beside one value, and unknown where a mark is missing
abbrev pub answered : {X : Type 0} → (X → Value) → OrderTruths → Value → List Bool → List X → List Truth
answered {X} make answers by valid xs =
    map (λ (pair : Bool × X). if pair.0 then answer answers (value_cmp (make pair.1) by) else Unknown) (zip valid xs)

-- the answer of two marked items
abbrev pub answer_of_pair : {X : Type 0} → (X → Value) → OrderTruths → Bool × X → Bool × X → Truth
answer_of_pair {X} make answers a b =
    if a.0 then (if b.0 then answer answers (value_cmp (make a.1) (make b.1)) else Unknown) else Unknown

-- the answers of items beside others, and unknown where a mark is missing
abbrev pub answered_pairs : {X : Type 0} → (X → Value) → OrderTruths → List Bool → List X → List Bool → List X → List Truth
answered_pairs {X} make answers valid xs other_valid ys =
    map (λ (pair : (Bool × X) × (Bool × X)). answer_of_pair make answers pair.0 pair.1) (zip (zip valid xs) (zip other_valid ys))
