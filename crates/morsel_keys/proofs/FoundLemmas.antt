-- What look-ups find, one after the other.
use Rattle.std.proofs.Common.{◌≡◌, ◌<◌, ◌≤◌, [], ◌∷◌, List, ℕ, ℤ, zero, suc, ◌+◌, ◌^◌, ◌==◌, length, map, slice_get, get_or, set, Some, None, Bool, true, false, if◌then◌else◌, refl, arith, ap, ◌∙◌, sym, subst, inl, inr}
use Rattle.std.specs.Prelude.{Option}
use Rattle.std.specs.Int.{w64, cast_unsigned, cast_signed}
use Rattle.std.proofs.lemmas.Option.{slice_get_within, same_Some}
use Rattle.std.proofs.lemmas.List.{get_or-set_other, get_or-set_same, length-map}
use Rattle.std.proofs.lemmas.Bool.{cases_eq}
use Rattle.morsel_meaning.specs.declared.value.Value.{Value}
use Rattle.morsel_meaning.specs.declared.value.Value.TheVariants as values
use Rattle.morsel_frame.specs.Cells.{not_null}
use Rattle.morsel_frame.specs.Columns.{masked}
use Rattle.morsel_keys.specs.declared.store.Store.{Store}
use Rattle.morsel_keys.specs.Slots.{IsFound, AreLookedUp, IsNewKey, no_number}
use Rattle.morsel_keys.specs.ColumnKeys.{int_held, flag_held, flag_word, stored_keys, inserted_at, with_null, shifted, placed_of, FindsValues, AreColumnKeys}
use Rattle.morsel_keys.proofs.HeldLemmas.{shown_at, shown, new_int, new_flag, new_text, flag_is, shifted_is, new_with_null, inserted_at-here}
use Rattle.morsel_keys.proofs.ColumnKeyLemmas.{no_null, stored_within, null_is}

pub found_step : {K : Type 0} (keys vs : List K) (out : List ℕ) (i at : ℕ) (v : K) → ((k : ℕ) (w : K) → k < i → slice_get vs k ≡ Some w → IsFound keys w (get_or out k 0)) → slice_get vs i ≡ Some v → IsFound keys v at → i < length out
    → (k : ℕ) (w : K) → k < i + 1 → slice_get vs k ≡ Some w → IsFound keys w (get_or (set out i at) k 0)
found_step keys vs out i at v before here found l k w less e = elim (cases_eq k i) as (λ _. IsFound keys w (get_or (set out i at) k 0)) [
  | inl same ↦
      let is = same_Some v w (sym here ∙ ap (slice_get vs) (sym same) ∙ e) in
      rw (same, get_or-set_same out i at 0 l, ← is) found
  | inr other ↦ rw (get_or-set_other out i k at 0 other) (before k w (omega (arith, less, other)) e)
]

pub found_all : {K : Type 0} (keys vs : List K) (out : List ℕ) (i : ℕ) → length vs ≤ i → length out ≡ length vs → ((k : ℕ) (w : K) → k < i → slice_get vs k ≡ Some w → IsFound keys w (get_or out k 0)) → AreLookedUp keys vs out
found_all keys vs out i end len each = record {
  len = len;
  each = λ k w e. each k w (let l = slice_get_within vs k w e in omega (arith, l, end)) e;
}

-- values that are no nulls are those of the column
masked_at : (valids : List Bool) (vs : List Value) (i : ℕ) (v : Value) → slice_get (masked valids vs) i ≡ Some v → not_null v ≡ true → slice_get vs i ≡ Some v
masked_at [] vs i v e some = cc
masked_at (valid ∷ valids) [] i v e some = cc
masked_at (true ∷ valids) (w ∷ vs) zero v e some = e
masked_at (false ∷ valids) (w ∷ vs) zero v e some = let bad : false ≡ true = ap not_null (same_Some values.Null v e) ∙ some in cc
masked_at (valid ∷ valids) (w ∷ vs) (suc i) v e some = masked_at valids vs i v e some

-- a value is no null exactly where the column says so
pub masked_valid : (valids : List Bool) (vs : List Value) → ((k : ℕ) (v : Value) → slice_get vs k ≡ Some v → not_null v ≡ true) → (i : ℕ) (v : Value) → slice_get (masked valids vs) i ≡ Some v → not_null v ≡ get_or valids i false
masked_valid [] vs some i v e = cc
masked_valid (valid ∷ valids) [] some i v e = cc
masked_valid (true ∷ valids) (w ∷ vs) some zero v e = some zero v e
masked_valid (false ∷ valids) (w ∷ vs) some zero v e = ap not_null (sym (same_Some values.Null v e))
masked_valid (valid ∷ valids) (w ∷ vs) some (suc i) v e = masked_valid valids vs (λ k u d. some (suc k) u d) i v e

pub some_shown : {A : Type 0} (f : A → Value) → ((x : A) → not_null (f x) ≡ true) → (xs : List A) (k : ℕ) (v : Value) → slice_get (map f xs) k ≡ Some v → not_null v ≡ true
some_shown f some xs k v e = shown_at f xs k v (not_null v ≡ true) e (λ x held same. ap not_null (sym same) ∙ some x)

-- a key that is found as it is held is found as it is shown
found_shown : {A : Type 0} (f : A → Value) (keys : List A) (x : A) (v : Value) (at : ℕ) → f x ≡ v → (IsNewKey x keys → IsNewKey v (map f keys)) → IsFound keys x at → IsFound (map f keys) v at
found_shown f keys x v at same new (inl (none, absent)) = inl (none, new absent)
found_shown f keys x v at same new (inr held) = inr (shown f keys at x v held same)

pub found_int : (words : List ℕ) (number : ℤ) (word at : ℕ) → word ≡ cast_unsigned w64 number → cast_signed w64 word ≡ number → ((k : ℕ) → get_or words k 0 < 2 ^ 64) → IsFound words word at → IsFound (map int_held words) (values.Int number) at
found_int words number word at is back fit found = found_shown int_held words word (values.Int number) at (ap values.Int back) (λ new. new_int words word (values.Int number) fit (sym is) new) found

pub found_flag : (words : List ℕ) (flag : Bool) (word at : ℕ) → word ≡ flag_word flag → ((k : ℕ) → get_or words k 0 ≤ 1) → IsFound words word at → IsFound (map flag_held words) (values.Bool flag) at
found_flag words flag word at is bits found = found_shown flag_held words word (values.Bool flag) at (ap flag_held is ∙ flag_is flag) (λ new. new_flag words word (values.Bool flag) bits (sym is) new) found

pub found_texts : (texts others : List (List ℕ)) (ats : List ℕ) → AreLookedUp texts others ats → AreLookedUp (map values.Text texts) (map values.Text others) ats
found_texts texts others ats found = record {
  len = found.len ∙ sym (length-map others values.Text);
  each = λ i v e. shown_at values.Text others i v (IsFound (map values.Text texts) v (get_or ats i 0)) e
      (λ x held same. found_shown values.Text texts x v (get_or ats i 0) same (λ new. subst (λ (u : Value). IsNewKey u (map values.Text texts)) same (new_text texts x new)) (found.each i x held));
}

-- what is found of all values that a column holds is found of those that are no nulls
pub finds_valid : (keys vs us : List Value) (valids : List Bool) (ats : List ℕ) → vs ≡ masked valids us → length ats ≡ length vs → AreLookedUp keys us ats → FindsValues keys vs ats
finds_valid keys vs us valids ats is len found = record {
  len = len;
  each = λ i v e some. found.each i v (masked_at valids us i v (subst (λ (ws : List Value). slice_get ws i ≡ Some v) is e) some);
}

-- with the null among the keys, each value has its number
placed_is : (null : Option ℕ) (store : Store) (v : Value) (at : ℕ) (t : Bool) → AreColumnKeys null store → not_null v ≡ t → (t ≡ true → IsFound (stored_keys store) v at) → IsFound (with_null null (stored_keys store)) v (placed_of null t at)
placed_is None store v at false keys is found = inl (refl, subst (λ (u : Value). IsNewKey u (stored_keys store)) (sym (null_is v is)) (no_null store))
placed_is (Some null) store v at false keys is found = inr (subst (λ (u : Value). slice_get (inserted_at null values.Null (stored_keys store)) null ≡ Some u) (sym (null_is v is)) (inserted_at-here null values.Null (stored_keys store) keys.place))
placed_is null store v at true keys is found = by (found refl)
  where
    by : IsFound (stored_keys store) v at → IsFound (with_null null (stored_keys store)) v (if at == no_number then no_number else shifted null at)
    by (inl (none, new)) = let same : (at == no_number) ≡ true = grind (arith, none) in rw same (inl (refl, new_with_null null (stored_keys store) v keys.place is new))
    by (inr held) =
        let less = slice_get_within (stored_keys store) at v held in let fewer = stored_within null (stored_keys store) keys.within in
        let other : (at == no_number) ≡ false = grind (arith, less, fewer) in rw other (inr (shifted_is null (stored_keys store) at v keys.place held))

pub placed_all : (null : Option ℕ) (store : Store) (valids : List Bool) (vs : List Value) (old new : List ℕ) → AreColumnKeys null store → length valids ≡ length vs → length new ≡ length old → ((i : ℕ) (v : Value) → slice_get vs i ≡ Some v → not_null v ≡ get_or valids i false)
    → FindsValues (stored_keys store) vs old → ((i : ℕ) → i < length valids → get_or new i 0 ≡ placed_of null (get_or valids i false) (get_or old i 0)) → AreLookedUp (with_null null (stored_keys store)) vs new
placed_all null store valids vs old new keys len same valid found placed = record {
  len = same ∙ found.len;
  each = λ i v e. let l = slice_get_within vs i v e in
      rw (placed i (omega (arith, l, len))) (placed_is null store v (get_or old i 0) (get_or valids i false) keys (valid i v e) (λ t. found.each i v e (valid i v e ∙ t)));
}
