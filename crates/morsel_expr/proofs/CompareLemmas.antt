-- Packed values compared: a mark and an item at a time.
use Rattle.std.proofs.Common.{◌≡◌, Bool, true, false, not, if◌then◌else◌, replicate, List, [], ◌∷◌, length, map, refl, ap, sym, ◌∙◌, arith}
use Rattle.std.specs.List.{zip}
use Rattle.std.specs.declared.cmp.Ordering.{Ordering}
use Rattle.std.specs.declared.cmp.Ordering.TheVariants as orders
use Rattle.morsel_meaning.specs.declared.value.Value.{Value}
use Rattle.morsel_meaning.specs.declared.value.Value.TheVariants as values
use Rattle.morsel_meaning.specs.Order.{value_cmp}
use Rattle.morsel_frame.specs.Columns.{masked}
use Rattle.morsel_expr.specs.declared.truth.Truth.TheVariants.{Unknown}
use Rattle.morsel_expr.specs.declared.node.CmpOp.{CmpOp}
use Rattle.morsel_expr.specs.Truths.{certain}
use Rattle.morsel_expr.specs.Predicates.{is_null, holds, asserted, compared, compared_pairs}
use Rattle.morsel_expr.specs.OrderTruths.{answer, answers_of, answered, answered_pairs}

-- the marks are those of the values that are no nulls
pub marks-masked : {X : Type 0} (make : X → Value) → ((x : X) → is_null (make x) ≡ false) → (valid : List Bool) (xs : List X) → length xs ≡ length valid → map (λ v. not (is_null v)) (masked valid (map make xs)) ≡ valid
marks-masked make valued [] xs same = refl
marks-masked make valued (b ∷ valid) [] same = absurd (omega arith)
marks-masked make valued (true ∷ valid) (x ∷ xs) same =
    ap (λ b. not b ∷ map (λ v. not (is_null v)) (masked valid (map make xs))) (valued x)
    ∙ ap (λ bs. true ∷ bs) (marks-masked make valued valid xs (omega arith))
marks-masked make valued (false ∷ valid) (x ∷ xs) same = ap (λ bs. false ∷ bs) (marks-masked make valued valid xs (omega arith))

-- where a mark is missing there is a null
pub nulls-marks : (vs : List Value) → map (λ b. certain (not b)) (map (λ v. not (is_null v)) vs) ≡ map (λ v. certain (is_null v)) vs
nulls-marks [] = refl
nulls-marks (v ∷ vs) =
    ap (λ b. certain b ∷ map (λ b. certain (not b)) (map (λ v. not (is_null v)) vs)) (twice (is_null v))
    ∙ ap (λ ts. certain (is_null v) ∷ ts) (nulls-marks vs)
  where
    twice : (b : Bool) → not (not b) ≡ b
    twice true = refl
    twice false = refl

pub values-marks : (vs : List Value) → map certain (map (λ v. not (is_null v)) vs) ≡ map (λ v. certain (not (is_null v))) vs
values-marks [] = refl
values-marks (v ∷ vs) = ap (λ ts. certain (not (is_null v)) ∷ ts) (values-marks vs)

-- flags under marks as truths
pub flags-masked : (valid flags : List Bool) → map (λ (pair : Bool × Bool). if pair.0 then certain pair.1 else Unknown) (zip valid flags) ≡ map asserted (masked valid (map values.Bool flags))
flags-masked [] flags = refl
flags-masked (b ∷ valid) [] = refl
flags-masked (true ∷ valid) (flag ∷ flags) = ap (λ ts. certain flag ∷ ts) (flags-masked valid flags)
flags-masked (false ∷ valid) (flag ∷ flags) = ap (λ ts. Unknown ∷ ts) (flags-masked valid flags)

-- the answer in the order of two values is what their comparison says
answer-order : (op : CmpOp) (order : Ordering) → answer (answers_of op) order ≡ certain (holds op order)
answer-order op orders.Less = refl
answer-order op orders.Equal = refl
answer-order op orders.Greater = refl

pub answer-values : (op : CmpOp) (a b : Value) → is_null a ≡ false → is_null b ≡ false → answer (answers_of op) (value_cmp a b) ≡ compared op a b
answer-values op a b no_null no_other = answer-order op (value_cmp a b) ∙ rw (no_null, no_other) refl

-- a comparison with a null is unknown
pub compared-null : (op : CmpOp) (a : Value) → compared op a values.Null ≡ Unknown
compared-null op values.Null = refl
compared-null op (values.Int n) = refl
compared-null op (values.Bool b) = refl
compared-null op (values.Text t) = refl

-- each value compared with a null
pub nulls-compared : (op : CmpOp) (vs : List Value) → replicate (length vs) Unknown ≡ map (λ v. compared op v values.Null) vs
nulls-compared op [] = refl
nulls-compared op (v ∷ vs) =
    ap (λ t. t ∷ replicate (length vs) Unknown) (sym (compared-null op v))
    ∙ ap (λ ts. compared op v values.Null ∷ ts) (nulls-compared op vs)

module _ {X : Type 0} (make : X → Value) (valued : (x : X) → is_null (make x) ≡ false) where
  -- the answers of a comparison are what it says of the values
  pub answered-masked : (op : CmpOp) (by : Value) → is_null by ≡ false → (valid : List Bool) (xs : List X) → answered make (answers_of op) by valid xs ≡ map (λ v. compared op v by) (masked valid (map make xs))
  answered-masked op by no_null [] xs = refl
  answered-masked op by no_null (b ∷ valid) [] = refl
  answered-masked op by no_null (true ∷ valid) (x ∷ xs) =
      ap (λ t. t ∷ answered make (answers_of op) by valid xs) (answer-values op (make x) by (valued x) no_null)
      ∙ ap (λ ts. compared op (make x) by ∷ ts) (answered-masked op by no_null valid xs)
  answered-masked op by no_null (false ∷ valid) (x ∷ xs) = ap (λ ts. Unknown ∷ ts) (answered-masked op by no_null valid xs)

  pub answered_pairs-masked : (op : CmpOp) (valid : List Bool) (xs : List X) (other_valid : List Bool) (ys : List X) → answered_pairs make (answers_of op) valid xs other_valid ys ≡ compared_pairs op (masked valid (map make xs)) (masked other_valid (map make ys))
  answered_pairs-masked op [] xs other_valid ys = refl
  answered_pairs-masked op (b ∷ valid) [] other_valid ys = refl
  answered_pairs-masked op (b ∷ valid) (x ∷ xs) [] ys = refl
  answered_pairs-masked op (b ∷ valid) (x ∷ xs) (c ∷ other_valid) [] = refl
  answered_pairs-masked op (true ∷ valid) (x ∷ xs) (true ∷ other_valid) (y ∷ ys) =
      ap (λ t. t ∷ answered_pairs make (answers_of op) valid xs other_valid ys) (answer-values op (make x) (make y) (valued x) (valued y))
      ∙ ap (λ ts. compared op (make x) (make y) ∷ ts) (answered_pairs-masked op valid xs other_valid ys)
  answered_pairs-masked op (true ∷ valid) (x ∷ xs) (false ∷ other_valid) (y ∷ ys) =
      ap (λ t. t ∷ answered_pairs make (answers_of op) valid xs other_valid ys) (sym (compared-null op (make x)))
      ∙ ap (λ ts. compared op (make x) values.Null ∷ ts) (answered_pairs-masked op valid xs other_valid ys)
  answered_pairs-masked op (false ∷ valid) (x ∷ xs) (true ∷ other_valid) (y ∷ ys) = ap (λ ts. Unknown ∷ ts) (answered_pairs-masked op valid xs other_valid ys)
  answered_pairs-masked op (false ∷ valid) (x ∷ xs) (false ∷ other_valid) (y ∷ ys) = ap (λ ts. Unknown ∷ ts) (answered_pairs-masked op valid xs other_valid ys)
