-- The keys of a column, with one more.
use Rattle.std.proofs.Common.{◌≡◌, ◌<◌, ◌≤◌, ◌++◌, [], ◌∷◌, List, ℕ, suc, ◌-◌, length, slice_get, Some, None, refl, ap, ◌∙◌, sym, arith, false, subst, length-append}
use Rattle.std.specs.Prelude.{Option}
use Rattle.morsel_meaning.specs.declared.value.Value.{Value}
use Rattle.morsel_meaning.specs.declared.value.Value.TheVariants as values
use Rattle.morsel_frame.specs.Cells.{not_null}
use Rattle.morsel_keys.specs.declared.store.Store.{Store}
use Rattle.morsel_keys.specs.declared.store.Store.TheVariants as stores
use Rattle.morsel_keys.specs.Slots.{IsNewKey, HasKeysEachOnce, no_number}
use Rattle.morsel_keys.specs.ColumnKeys.{int_held, flag_held, stored_keys, inserted_at, with_null, shifted, IsNullPlace, IsStore, AreColumnKeys}
use Rattle.morsel_keys.proofs.SlotLemmas.{once_push}
use Rattle.morsel_keys.proofs.HeldLemmas.{shifted_is, with_null-append, inserted_at-here, inserted_at-before, inserted_at-after, inserted_at-end, inserted_at-length, no_null_shown}

-- a null is none of the keys that are stored
pub no_null : (store : Store) → IsNewKey values.Null (stored_keys store)
no_null (stores.Ints words) = no_null_shown int_held (λ x. refl) words
no_null (stores.Bools words) = no_null_shown flag_held (λ x. refl) words
no_null (stores.Texts texts) = no_null_shown values.Text (λ x. refl) texts

-- what is new with a null among the keys is new among those that are stored
pub new_stored : (null : Option ℕ) (vs : List Value) (v : Value) → IsNullPlace null (length vs) → IsNewKey v (with_null null vs) → IsNewKey v vs
new_stored null vs v place new k e = new (shifted null k) (shifted_is null vs k v place e)

shorter : (null : Option ℕ) (vs : List Value) → length vs ≤ length (with_null null vs)
shorter None vs = omega arith
shorter (Some null) vs = let same = inserted_at-length null values.Null vs in omega (arith, same)

pub stored_room : (null : Option ℕ) (vs : List Value) → length (with_null null vs) < no_number → length vs < no_number
stored_room null vs room = let less = shorter null vs in omega (arith, less, room)

pub stored_within : (null : Option ℕ) (vs : List Value) → length (with_null null vs) ≤ no_number → length vs ≤ no_number
stored_within null vs room = let less = shorter null vs in omega (arith, less, room)

pub null_is : (v : Value) → not_null v ≡ false → v ≡ values.Null
null_is values.Null e = refl
null_is (values.Int n) e = cc
null_is (values.Bool b) e = cc
null_is (values.Text t) e = cc

-- the keys with one more behind them
pub record HasOneMore (null : Option ℕ) (store : Store) (old : List Value) (v : Value) : Type 0 where
  pub keys : AreColumnKeys null store
  pub last : with_null null (stored_keys store) ≡ old ++ v ∷ []

pub null_last : (null : Option ℕ) (store : Store) (len : ℕ) → AreColumnKeys null store → IsNewKey values.Null (with_null null (stored_keys store)) → len ≡ length (with_null null (stored_keys store)) → len < no_number
    → HasOneMore (Some len) store (with_null null (stored_keys store)) values.Null
null_last (Some null) store len keys new is room = absurd (new null (inserted_at-here null values.Null (stored_keys store) keys.place))
null_last None store len keys new is room =
    let vs : List Value = stored_keys store in
    let last : inserted_at len values.Null vs ≡ vs ++ values.Null ∷ [] = ap (λ n. inserted_at n values.Null vs) is ∙ inserted_at-end values.Null vs in
    record {
      keys = record {
        words = keys.words;
        place = omega (arith, is);
        within = let size = inserted_at-length len values.Null vs in omega (arith, size, is, room);
        once = subst HasKeysEachOnce (sym last) (once_push vs values.Null keys.once new);
      };
      last = last;
    }

pub key_last : (null : Option ℕ) (store next : Store) (v : Value) → AreColumnKeys null store → IsStore next → IsNewKey v (with_null null (stored_keys store)) → length (with_null null (stored_keys store)) < no_number → stored_keys next ≡ stored_keys store ++ v ∷ []
    → HasOneMore null next (with_null null (stored_keys store)) v
key_last null store next v keys words new room more =
    let old : List Value = with_null null (stored_keys store) in
    let last : with_null null (stored_keys next) ≡ old ++ v ∷ [] = ap (with_null null) more ∙ with_null-append null (stored_keys store) v keys.place in
    record {
      keys = record {
        words = words;
        place = longer null (length (stored_keys store)) (length (stored_keys next)) (let size = length-append (stored_keys store) (v ∷ []) in let same = ap (λ (x : List Value). length x) more in omega (arith, size, same)) keys.place;
        within = let size = length-append old (v ∷ []) in let same = ap (λ (x : List Value). length x) last in omega (arith, size, same, room);
        once = subst HasKeysEachOnce (sym last) (once_push old v keys.once new);
      };
      last = last;
    }
  where
    longer : (null : Option ℕ) (m n : ℕ) → m ≤ n → IsNullPlace null m → IsNullPlace null n
    longer None m n l p = tt
    longer (Some null) m n l p = omega (arith, l, p)

pub keys_same : (null : Option ℕ) (store next : Store) → AreColumnKeys null store → IsStore next → stored_keys next ≡ stored_keys store → AreColumnKeys null next
keys_same null store next keys words same = record {
  words = words;
  place = subst (λ (vs : List Value). IsNullPlace null (length vs)) (sym same) keys.place;
  within = subst (λ (vs : List Value). length (with_null null vs) ≤ no_number) (sym same) keys.within;
  once = subst (λ (vs : List Value). HasKeysEachOnce (with_null null vs)) (sym same) keys.once;
}

-- the keys that are stored, by their numbers with the null among them
pub get_before : (store : Store) (null at : ℕ) (v : Value) → null ≤ length (stored_keys store) → at < null → slice_get (stored_keys store) at ≡ Some v → slice_get (inserted_at null values.Null (stored_keys store)) at ≡ Some v
get_before store null at v place less e = inserted_at-before null values.Null (stored_keys store) at place less ∙ e

pub get_after : (store : Store) (null at : ℕ) (v : Value) → null ≤ length (stored_keys store) → null < at → slice_get (stored_keys store) (at - 1) ≡ Some v → slice_get (inserted_at null values.Null (stored_keys store)) at ≡ Some v
get_after store null at v place more e =
    let next : at ≡ suc (at - 1) = omega (arith, more) in
    ap (λ n. slice_get (inserted_at null values.Null (stored_keys store)) n) next ∙ inserted_at-after null values.Null (stored_keys store) (at - 1) place (omega (arith, more)) ∙ e

pub get_null : (store : Store) (null at : ℕ) → null ≤ length (stored_keys store) → at ≡ null → slice_get (inserted_at null values.Null (stored_keys store)) at ≡ Some values.Null
get_null store null at place is = ap (λ n. slice_get (inserted_at null values.Null (stored_keys store)) n) is ∙ inserted_at-here null values.Null (stored_keys store) place
