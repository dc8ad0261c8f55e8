-- Rows that have no cause of a fault have groups.
use Rattle.std.proofs.Common.{◌≡◌, ◌<◌, ◌≤◌, [], ◌∷◌, List, ℕ, zero, suc, length, slice_get, map, Some, refl, arith, ap, ◌∙◌, sym, subst, Bool, true, false, if◌then◌else◌, inl, inr}
use Rattle.std.proofs.lemmas.Bool.{cases_Bool, false≢true}
use Rattle.std.proofs.lemmas.Option.{get_or_from_slice_get, slice_get_within}
use Rattle.morsel_meaning.specs.Often.{AsOften}
use Rattle.morsel_meaning.specs.Values.{Row}
use Rattle.morsel_frame.specs.Tables.{cells_at}
use Rattle.morsel_keys.specs.Slots.{HasKeysEachOnce}
use Rattle.morsel_group.specs.Asked.{GroupShape}
use Rattle.morsel_group.specs.CauseLaws.{RowsHaveGroups}
use Rattle.morsel_group.specs.GroupCauses.{HasManyGroups}
use Rattle.morsel_group.specs.Grouping.{IsKeyOf, RowAt, distinct_keys, in_order, is_among, rows_at_key, rows_of_key, same_key}
use Rattle.morsel_group.proofs.CauseLemmas.{order_often, passing_len, sum_cause}
use Rattle.morsel_group.proofs.GroupingLemmas.{key_of}
use Rattle.morsel_group.proofs.KeyLemmas.{among-arrived, same_key-itself, same_key-only}

-- keys but one
abbrev without : Row → List Row → List Row
without key [] = []
without key (k ∷ keys) = if same_key key k then without key keys else k ∷ without key keys

without_few : (key : Row) (keys : List Row) → length (without key keys) ≤ length keys
without_few key [] = omega arith
without_few key (k ∷ keys) = by (same_key key k) (without_few key keys)
  where
    by : (t : Bool) → length (without key keys) ≤ length keys → length (if t then without key keys else k ∷ without key keys) ≤ length (k ∷ keys)
    by true few = omega (arith, few)
    by false few = omega (arith, few)

without_fewer : (key : Row) (keys : List Row) → is_among key keys ≡ true → length (without key keys) < length keys
without_fewer key [] there = absurd (false≢true there)
without_fewer key (k ∷ keys) there = by (same_key key k) (without_few key keys) (without_fewer key keys) there
  where
    by : (t : Bool) → length (without key keys) ≤ length keys → (is_among key keys ≡ true → length (without key keys) < length keys) → (if t then true else is_among key keys) ≡ true
        → length (if t then without key keys else k ∷ without key keys) < length (k ∷ keys)
    by true few further there = omega (arith, few)
    by false few further there = let later = further there in omega (arith, later)

still_among : (key other : Row) (keys : List Row) → same_key key other ≡ false → is_among key keys ≡ true → is_among key (without other keys) ≡ true
still_among key other [] differ there = there
still_among key other (k ∷ keys) differ there = by (same_key other k) refl (same_key key k) refl (still_among key other keys differ) there
  where
    by : (t : Bool) → same_key other k ≡ t → (u : Bool) → same_key key k ≡ u → (is_among key keys ≡ true → is_among key (without other keys) ≡ true) → (if u then true else is_among key keys) ≡ true
        → is_among key (if t then without other keys else k ∷ without other keys) ≡ true
    by true p true q further there =
        let same : key ≡ other = same_key-only key k q ∙ sym (same_key-only other k p) in
        absurd (false≢true (sym differ ∙ ap (λ x. same_key key x) (sym same) ∙ same_key-itself key))
    by true p false q further there = further there
    by false p true q further there = ap (λ t. if t then true else is_among key (without other keys)) q
    by false p false q further there = ap (λ t. if t then true else is_among key (without other keys)) q ∙ further there

-- keys, each once, that are all among others are no more than these
no_more : (keys others : List Row) → HasKeysEachOnce keys → ((at : ℕ) (key : Row) → slice_get keys at ≡ Some key → is_among key others ≡ true) → length keys ≤ length others
no_more [] others once all = omega arith
no_more (k ∷ keys) others once all =
    let fewer = without_fewer k others (all zero k refl) in
    let later = no_more keys (without k others) (λ i j key e f. let same = once (suc i) (suc j) key e f in omega (arith, same)) (λ at key here. still_among key k others (differs at key here) (all (suc at) key here)) in
    omega (arith, fewer, later)
  where
    differs : (at : ℕ) (key : Row) → slice_get keys at ≡ Some key → same_key key k ≡ false
    differs at key here = elim (cases_Bool (same_key key k)) as (λ _. same_key key k ≡ false) [
      | inl t ↦ let clash = once (suc at) zero key here (ap Some (sym (same_key-only key k t))) in absurd (omega (arith, clash))
      | inr f ↦ f
    ]

-- the key of a row has a row
has_row : (shape : GroupShape) (rows : List Row) (key : Row) (at : ℕ) (row : Row) → slice_get rows at ≡ Some row → cells_at shape.keys row ≡ key → 0 < length (rows_of_key shape key rows)
has_row shape [] key at row here is = cc
has_row shape (r ∷ rows) key zero row here is =
    let same : r ≡ row = cc in
    by (same_key key (cells_at shape.keys r)) (ap (same_key key) (ap (λ x. cells_at shape.keys x) same ∙ is) ∙ same_key-itself key)
  where
    by : (t : Bool) → t ≡ true → 0 < length (if t then r ∷ rows_of_key shape key rows else rows_of_key shape key rows)
    by true e = omega arith
    by false e = absurd (false≢true e)
has_row shape (r ∷ rows) key (suc at) row here is = by (same_key key (cells_at shape.keys r)) (has_row shape rows key at row here is)
  where
    by : (t : Bool) → 0 < length (rows_of_key shape key rows) → 0 < length (if t then r ∷ rows_of_key shape key rows else rows_of_key shape key rows)
    by true later = omega arith
    by false later = later

-- a key that has a row is among the keys of rows
among_keys : (shape : GroupShape) (rows : List RowAt) (key : Row) → 0 < length (rows_at_key shape key rows) → is_among key (map (key_of shape) rows) ≡ true
among_keys shape [] key some = absurd (omega (arith, some))
among_keys shape (r ∷ rows) key some = by (same_key key (key_of shape r)) (among_keys shape rows key) some
  where
    by : (t : Bool) → (0 < length (rows_at_key shape key rows) → is_among key (map (key_of shape) rows) ≡ true) → 0 < length (if t then r ∷ rows_at_key shape key rows else rows_at_key shape key rows)
        → (if t then true else is_among key (map (key_of shape) rows)) ≡ true
    by true further some = refl
    by false further some = further some

-- a key has as many rows in the order of the input as arrived
as_many : (shape : GroupShape) (some all : List RowAt) (key : Row) → AsOften some all → length (rows_of_key shape key (in_order all)) ≡ length (rows_at_key shape key some)
as_many shape some all key often =
    let weight : Row → ℕ = λ row. if same_key key (cells_at shape.keys row) then 1 else 0 in
    let own = passing_len (λ (r : RowAt). same_key key (cells_at shape.keys r.row)) some in
    let same = often (λ r. weight r.row) in
    let order = order_often all weight in
    let whole = passing_len (λ (row : Row). same_key key (cells_at shape.keys row)) (in_order all) in
    omega (arith, own, same, order, whole)

-- each key of the rows in the order of the input has arrived
has_arrived : (shape : GroupShape) (some all : List RowAt) (key : Row) → AsOften some all → IsKeyOf shape (in_order all) key → is_among key (distinct_keys shape some) ≡ true
has_arrived shape some all key often (at, row, here, is) =
    let there = has_row shape (in_order all) key at row here is in
    let same = as_many shape some all key often in
    among-arrived key [] (map (key_of shape) some) ∙ among_keys shape some key (omega (arith, there, same))

pub rows_have : RowsHaveGroups
rows_have shape some all enough sums often = record {
  few = λ many.
      let least = no_more many.keys (distinct_keys shape some) many.once (λ at key here. has_arrived shape some all key often (of_key many at key here)) in
      let most = enough.keys in
      let past = many.many in
      omega (arith, least, most, past);
  short = λ (key, past). let same = as_many shape some all key often in let most = enough.rows_each key in omega (arith, same, most, past);
  small = λ large. sums (sum_cause shape all some (λ weight. sym (often weight)) large);
}
  where
    of_key : (many : HasManyGroups shape (in_order all)) (at : ℕ) (key : Row) → slice_get many.keys at ≡ Some key → IsKeyOf shape (in_order all) key
    of_key many at key here = subst (IsKeyOf shape (in_order all)) (get_or_from_slice_get many.keys at key key here) (many.each at key (slice_get_within many.keys at key here))
