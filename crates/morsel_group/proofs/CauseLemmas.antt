-- The causes of faults, in all rows.
use Rattle.std.proofs.Common.{◌≡◌, ◌<◌, ◌≤◌, ◌++◌, [], ◌∷◌, List, ℕ, zero, suc, ◌+◌, length, slice_get, get_or, map, Some, refl, arith, ap, ◌∙◌, sym, subst, Bool, true, false, if◌then◌else◌, inl, inr}
use Rattle.std.specs.Prelude.{ℤ, pos, negsuc, ◌+ℤ◌}
use Rattle.std.specs.List.{sum_by}
use Rattle.std.proofs.lemmas.Bool.{false≢true}
use Rattle.std.proofs.lemmas.Int.{ints}
use Rattle.std.proofs.lemmas.List.Sums.{sum_by-append, sum_by-cons}
use Rattle.std.proofs.lemmas.Option.{slice_get-get_or}
use Rattle.morsel_meaning.specs.declared.fault.Fault.{Fault}
use Rattle.morsel_meaning.specs.declared.value.Value.{Value}
use Rattle.morsel_meaning.specs.Often.{AsOften}
use Rattle.morsel_meaning.specs.Sequences.{by_number}
use Rattle.morsel_meaning.specs.Values.{Row}
use Rattle.morsel_meaning.proofs.NumberLemmas.{numbers_often}
use Rattle.morsel_frame.specs.Tables.{cells_at}
use Rattle.morsel_keys.specs.Groups.{passing}
use Rattle.morsel_keys.specs.Reductions.{addend, sum_fault, total_of}
use Rattle.morsel_group.specs.Asked.{GroupShape}
use Rattle.morsel_group.specs.GroupCauses.{GroupCause, HasLargeTotal, HasLongRows, HasManyGroups}
use Rattle.morsel_group.specs.Grouping.{RowAt, IsKeyOf, distinct_keys, in_order, is_among, rows_at_key, rows_of_key, same_key, value_in}
use Rattle.morsel_group.specs.Locals.{HasLongGroup, HasManyKeys}
use Rattle.morsel_group.specs.CauseLaws.{GroupsHaveCauses, SumsHaveCauses}
use Rattle.morsel_group.proofs.GroupingLemmas.{key_of}
use Rattle.morsel_group.proofs.KeyLemmas.{among-arrived, arrived-once, at_among, none_once, same_key-only}

-- how many things pass, and what they weigh
pub passing_len : {X : Type 0} (test : X → Bool) (xs : List X) → length (passing test xs) ≡ sum_by (λ x. if test x then 1 else 0) xs
passing_len test [] = refl
passing_len test (x ∷ xs) = by (test x) (passing_len test xs) ∙ sym (sum_by-cons (λ z. if test z then 1 else 0) x xs)
  where
    by : (t : Bool) → length (passing test xs) ≡ sum_by (λ z. if test z then 1 else 0) xs → length (if t then x ∷ passing test xs else passing test xs) ≡ (if t then 1 else 0) + sum_by (λ z. if test z then 1 else 0) xs
    by true h = omega (arith, h)
    by false h = omega (arith, h)

passing_weight : {X Y : Type 0} (test : X → Bool) (f : X → Y) (weight : Y → ℕ) (xs : List X) → sum_by weight (map f (passing test xs)) ≡ sum_by (λ x. if test x then weight (f x) else 0) xs
passing_weight test f weight [] = refl
passing_weight test f weight (x ∷ xs) = by (test x) (passing_weight test f weight xs) ∙ sym (sum_by-cons (λ z. if test z then weight (f z) else 0) x xs)
  where
    by : (t : Bool) → sum_by weight (map f (passing test xs)) ≡ sum_by (λ z. if test z then weight (f z) else 0) xs
        → sum_by weight (map f (if t then x ∷ passing test xs else passing test xs)) ≡ (if t then weight (f x) else 0) + sum_by (λ z. if test z then weight (f z) else 0) xs
    by true h = sum_by-cons weight (f x) (map f (passing test xs)) ∙ ap (λ n. weight (f x) + n) h
    by false h = omega (arith, h)

mapped_weight : {X Y : Type 0} (f : X → Y) (weight : Y → ℕ) (xs : List X) → sum_by weight (map f xs) ≡ sum_by (λ x. weight (f x)) xs
mapped_weight f weight [] = refl
mapped_weight f weight (x ∷ xs) = sum_by-cons weight (f x) (map f xs) ∙ ap (λ n. weight (f x) + n) (mapped_weight f weight xs) ∙ sym (sum_by-cons (λ z. weight (f z)) x xs)

-- rows in the order of the input are the rows that came, each as often
pub order_often : (rows : List RowAt) (weight : Row → ℕ) → sum_by weight (in_order rows) ≡ sum_by (λ r. weight r.row) rows
order_often rows weight = mapped_weight (λ (r : RowAt). r.row) weight (by_number (λ r. r.at) rows) ∙ numbers_often (λ (r : RowAt). r.at) rows (λ r. weight r.row)

-- a key has no fewer rows among all than among some
no_fewer : (shape : GroupShape) (some more all : List RowAt) (key : Row) → AsOften (some ++ more) all → length (rows_at_key shape key some) ≤ length (rows_of_key shape key (in_order all))
no_fewer shape some more all key often =
    let weight : Row → ℕ = λ row. if same_key key (cells_at shape.keys row) then 1 else 0 in
    let own = passing_len (λ (r : RowAt). same_key key (cells_at shape.keys r.row)) some in
    let both = sum_by-append (λ (r : RowAt). weight r.row) some more in
    let same = often (λ r. weight r.row) in
    let order = order_often all weight in
    let whole = passing_len (λ (row : Row). same_key key (cells_at shape.keys row)) (in_order all) in
    omega (arith, own, both, same, order, whole)

-- a key that is among those of rows has one
some_row : (shape : GroupShape) (rows : List RowAt) (key : Row) → is_among key (map (key_of shape) rows) ≡ true → 0 < length (rows_at_key shape key rows)
some_row shape [] key there = absurd (false≢true there)
some_row shape (r ∷ rows) key there = by (same_key key (key_of shape r)) (λ later. some_row shape rows key later) there
  where
    by : (t : Bool) → (is_among key (map (key_of shape) rows) ≡ true → 0 < length (rows_at_key shape key rows)) → (if t then true else is_among key (map (key_of shape) rows)) ≡ true → 0 < length (if t then r ∷ rows_at_key shape key rows else rows_at_key shape key rows)
    by true further there = omega arith
    by false further there = further there

-- a key that has a row is one of theirs
key_of_some : (shape : GroupShape) (rows : List Row) (key : Row) → 0 < length (rows_of_key shape key rows) → IsKeyOf shape rows key
key_of_some shape [] key some = absurd (omega (arith, some))
key_of_some shape (row ∷ rows) key some = by (same_key key (cells_at shape.keys row)) refl (λ later. key_of_some shape rows key later) some
  where
    by : (t : Bool) → same_key key (cells_at shape.keys row) ≡ t → (0 < length (rows_of_key shape key rows) → IsKeyOf shape rows key) → 0 < length (if t then row ∷ rows_of_key shape key rows else rows_of_key shape key rows) → IsKeyOf shape (row ∷ rows) key
    by true q further some = (zero, row, refl, sym (same_key-only key (cells_at shape.keys row) q))
    by false q further some = let later = further some in (suc later.0, later.1, later.2, later.3)

-- too many keys of some rows are too many of all
many_cause : (shape : GroupShape) (some more all : List RowAt) → AsOften (some ++ more) all → HasManyKeys shape some → HasManyGroups shape (in_order all)
many_cause shape some more all often many = record {
  keys = distinct_keys shape some;
  once = arrived-once [] (map (key_of shape) some) none_once;
  each = λ k d within. is (get_or (distinct_keys shape some) k d) k (slice_get-get_or (distinct_keys shape some) k d within);
  many = many;
}
  where
    is : (key : Row) (k : ℕ) → slice_get (distinct_keys shape some) k ≡ Some key → IsKeyOf shape (in_order all) key
    is key k here =
        let among : is_among key (map (key_of shape) some) ≡ true = sym (among-arrived key [] (map (key_of shape) some)) ∙ at_among (distinct_keys shape some) k key here in
        let own = some_row shape some key among in
        let fewer = no_fewer shape some more all key often in
        key_of_some shape (in_order all) key (omega (arith, own, fewer))

-- too many rows of a key among some are too many among all
long_cause : (shape : GroupShape) (some more all : List RowAt) → AsOften (some ++ more) all → HasLongGroup shape some → HasLongRows shape (in_order all)
long_cause shape some more all often (key, past) = let fewer = no_fewer shape some more all key often in (key, omega (arith, past, fewer))

-- a whole number is what it has above 0 less what it has below
abbrev above : ℤ → ℕ
above (pos n) = n
above (negsuc n) = 0

abbrev below : ℤ → ℕ
below (pos n) = 0
below (negsuc n) = suc n

above_below : (n : ℤ) → n +ℤ pos (below n) ≡ pos (above n)
above_below (pos n) = omega (arith, ints)
above_below (negsuc n) = omega (arith, ints)

total_parts : (vs : List Value) → total_of vs +ℤ pos (sum_by (λ v. below (addend v)) vs) ≡ pos (sum_by (λ v. above (addend v)) vs)
total_parts [] = omega (arith, ints)
total_parts (v ∷ vs) =
    let own = above_below (addend v) in
    let less = sum_by-cons (λ (w : Value). below (addend w)) v vs in
    let more = sum_by-cons (λ (w : Value). above (addend w)) v vs in
    let later = total_parts vs in
    omega (arith, ints, own, less, more, later)

-- a total does not depend on the order of the rows
same_total : (shape : GroupShape) (key : Row) (value : Row → Value) (xs ys : List Row) → AsOften xs ys → total_of (map value (rows_of_key shape key xs)) ≡ total_of (map value (rows_of_key shape key ys))
same_total shape key value xs ys often =
    let test : Row → Bool = λ row. same_key key (cells_at shape.keys row) in
    let less = passing_weight test value (λ v. below (addend v)) xs ∙ often (λ row. if test row then below (addend (value row)) else 0) ∙ sym (passing_weight test value (λ v. below (addend v)) ys) in
    let more = passing_weight test value (λ v. above (addend v)) xs ∙ often (λ row. if test row then above (addend (value row)) else 0) ∙ sym (passing_weight test value (λ v. above (addend v)) ys) in
    let first = total_parts (map value (rows_of_key shape key xs)) in
    let second = total_parts (map value (rows_of_key shape key ys)) in
    omega (arith, ints, less, more, first, second)

-- too large a sum of rows is too large in whatever order they came
pub sum_cause : (shape : GroupShape) (some all : List RowAt) → AsOften some all → HasLargeTotal shape (in_order some) → HasLargeTotal shape (in_order all)
sum_cause shape some all often large = record {
  place = large.place;
  agg = large.agg;
  asked = large.asked;
  is_sum = large.is_sum;
  key = large.key;
  large = ap sum_fault (same_total shape large.key (value_in large.agg.column) (in_order all) (in_order some) again) ∙ large.large;
}
  where
    again : AsOften (in_order all) (in_order some)
    again weight = order_often all weight ∙ sym (often (λ r. weight r.row)) ∙ sym (order_often some weight)

pub groups_have : GroupsHaveCauses
groups_have shape some more all fault (inl memory) other often = absurd (other memory)
groups_have shape some more all fault (inr (inl (is, many))) other often = subst (λ (f : Fault). GroupCause shape (in_order all) f) (sym is) (refl, refl, many_cause shape some more all often many)
groups_have shape some more all fault (inr (inr (is, long))) other often = subst (λ (f : Fault). GroupCause shape (in_order all) f) (sym is) (refl, refl, long_cause shape some more all often long)

pub sums_have : SumsHaveCauses
sums_have shape some all fault (inl memory) other often = absurd (other memory)
sums_have shape some all fault (inr (is, large)) other often = subst (λ (f : Fault). GroupCause shape (in_order all) f) (sym is) (refl, refl, sum_cause shape some all often large)
