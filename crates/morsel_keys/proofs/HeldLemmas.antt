-- Keys as they are held: in words, and with a null among them.
use Rattle.std.proofs.Common.{◌≡◌, ◌<◌, ◌≤◌, ◌++◌, [], ◌∷◌, List, ℕ, zero, suc, ◌+◌, ◌-◌, ◌^◌, length, map, slice_get, get_or, Some, None, refl, ap, ◌∙◌, sym, arith, true, false, Bool, if◌then◌else◌, nat_lt, add-one, inl, inr}
use Rattle.std.specs.Prelude.{Option}
use Rattle.std.specs.Option.{option_map}
use Rattle.std.specs.Int.{cast_unsigned, w64}
use Rattle.std.proofs.lemmas.Int.{of_z-to_z}
use Rattle.std.proofs.lemmas.Option.{slice_get-map, get_or_from_slice_get, same_Some}
use Rattle.std.proofs.lemmas.Bool.{cases_lt, cases_eq}
use Rattle.morsel_meaning.specs.declared.value.Value.{Value}
use Rattle.morsel_meaning.specs.declared.value.Value.TheVariants as values
use Rattle.morsel_frame.specs.Cells.{not_null}
use Rattle.morsel_keys.specs.Slots.{IsNewKey}
use Rattle.morsel_keys.specs.ColumnKeys.{int_held, flag_held, flag_word, inserted_at, with_null, shifted, IsNullPlace}

-- what is held at a place of a list that is shown otherwise
pub shown_at : {A B : Type 0} (f : A → B) (xs : List A) (k : ℕ) (y : B) (P : Type 0) → slice_get (map f xs) k ≡ Some y → ((x : A) → slice_get xs k ≡ Some x → f x ≡ y → P) → P
shown_at f [] k y P e go = cc
shown_at f (x ∷ xs) zero y P e go = go x refl (same_Some (f x) y e)
shown_at f (x ∷ xs) (suc k) y P e go = shown_at f xs k y P e go

pub shown : {A B : Type 0} (f : A → B) (xs : List A) (k : ℕ) (x : A) (y : B) → slice_get xs k ≡ Some x → f x ≡ y → slice_get (map f xs) k ≡ Some y
shown f xs k x y e same = slice_get-map f xs k ∙ ap (option_map f) e ∙ ap Some same

-- a new key is new as it is shown, where what is held can be told from what is shown
pub new_shown : {A B : Type 0} (f : A → B) (g : B → A) (xs : List A) (x : A) (y : B) → ((k : ℕ) (z : A) → slice_get xs k ≡ Some z → g (f z) ≡ z) → g y ≡ x → IsNewKey x xs → IsNewKey y (map f xs)
new_shown f g xs x y back is new k e = shown_at f xs k y ⊥ e (λ z held same. new k (held ∙ ap Some (sym (back k z held) ∙ ap g same ∙ is)))

-- what is new as it is shown is new as it is held
pub new_held : {A B : Type 0} (f : A → B) (xs : List A) (x : A) (y : B) → f x ≡ y → IsNewKey y (map f xs) → IsNewKey x xs
new_held f xs x y same new k e = new k (shown f xs k x y e same)

abbrev word_of_int : Value → ℕ
word_of_int (values.Int n) = cast_unsigned w64 n
word_of_int values.Null = 0
word_of_int (values.Bool b) = 0
word_of_int (values.Text t) = 0

abbrev word_of_flag : Value → ℕ
word_of_flag (values.Bool b) = flag_word b
word_of_flag values.Null = 0
word_of_flag (values.Int n) = 0
word_of_flag (values.Text t) = 0

abbrev text_of_value : Value → List ℕ
text_of_value (values.Text t) = t
text_of_value values.Null = []
text_of_value (values.Int n) = []
text_of_value (values.Bool b) = []

pub new_int : (words : List ℕ) (word : ℕ) (v : Value) → ((k : ℕ) → get_or words k 0 < 2 ^ 64) → word_of_int v ≡ word → IsNewKey word words → IsNewKey v (map int_held words)
new_int words word v fit is new = new_shown int_held word_of_int words word v
    (λ k z held. of_z-to_z w64 z (let same : get_or words k 0 ≡ z = get_or_from_slice_get words k z 0 held in let f = fit k in omega (arith, f, same))) is new

flag_back : (w : ℕ) → w ≤ 1 → word_of_flag (flag_held w) ≡ w
flag_back zero l = refl
flag_back (suc zero) l = refl
flag_back (suc (suc w)) l = absurd (omega (arith, l))

pub new_flag : (words : List ℕ) (word : ℕ) (v : Value) → ((k : ℕ) → get_or words k 0 ≤ 1) → word_of_flag v ≡ word → IsNewKey word words → IsNewKey v (map flag_held words)
new_flag words word v fit is new = new_shown flag_held word_of_flag words word v
    (λ k z held. flag_back z (let same : get_or words k 0 ≡ z = get_or_from_slice_get words k z 0 held in let f = fit k in omega (arith, f, same))) is new

pub new_text : (texts : List (List ℕ)) (text : List ℕ) → IsNewKey text texts → IsNewKey (values.Text text) (map values.Text texts)
new_text texts text new = new_shown values.Text text_of_value texts text (values.Text text) (λ k z held. refl) refl new

-- lists with one more at a place
pub inserted_at-here : {X : Type 0} (at : ℕ) (x : X) (xs : List X) → at ≤ length xs → slice_get (inserted_at at x xs) at ≡ Some x
inserted_at-here zero x xs l = refl
inserted_at-here (suc at) x [] l = absurd (omega (arith, l))
inserted_at-here (suc at) x (y ∷ ys) l = inserted_at-here at x ys (omega (arith, l))

pub inserted_at-before : {X : Type 0} (at : ℕ) (x : X) (xs : List X) (k : ℕ) → at ≤ length xs → k < at → slice_get (inserted_at at x xs) k ≡ slice_get xs k
inserted_at-before zero x xs k l less = absurd (omega (arith, less))
inserted_at-before (suc at) x [] k l less = absurd (omega (arith, l))
inserted_at-before (suc at) x (y ∷ ys) zero l less = refl
inserted_at-before (suc at) x (y ∷ ys) (suc k) l less = inserted_at-before at x ys k (omega (arith, l)) (omega (arith, less))

pub inserted_at-after : {X : Type 0} (at : ℕ) (x : X) (xs : List X) (k : ℕ) → at ≤ length xs → at ≤ k → slice_get (inserted_at at x xs) (suc k) ≡ slice_get xs k
inserted_at-after zero x xs k l more = refl
inserted_at-after (suc at) x [] k l more = absurd (omega (arith, l))
inserted_at-after (suc at) x (y ∷ ys) zero l more = absurd (omega (arith, more))
inserted_at-after (suc at) x (y ∷ ys) (suc k) l more = inserted_at-after at x ys k (omega (arith, l)) (omega (arith, more))

pub inserted_at-append : {X : Type 0} (at : ℕ) (x : X) (xs : List X) (y : X) → at ≤ length xs → inserted_at at x (xs ++ y ∷ []) ≡ inserted_at at x xs ++ y ∷ []
inserted_at-append zero x xs y l = refl
inserted_at-append (suc at) x [] y l = absurd (omega (arith, l))
inserted_at-append (suc at) x (z ∷ zs) y l = ap (λ t. z ∷ t) (inserted_at-append at x zs y (omega (arith, l)))

pub inserted_at-end : {X : Type 0} (x : X) (xs : List X) → inserted_at (length xs) x xs ≡ xs ++ x ∷ []
inserted_at-end x [] = refl
inserted_at-end x (y ∷ ys) = ap (λ t. y ∷ t) (inserted_at-end x ys)

pub inserted_at-length : {X : Type 0} (at : ℕ) (x : X) (xs : List X) → length (inserted_at at x xs) ≡ suc (length xs)
inserted_at-length zero x xs = refl
inserted_at-length (suc at) x [] = refl
inserted_at-length (suc at) x (y ∷ ys) = ap suc (inserted_at-length at x ys)

pub inserted_at_length : {X : Type 0} (at : ℕ) (x : X) (xs : List X) → length (inserted_at at x xs) ≡ length xs + 1
inserted_at_length at x xs = inserted_at-length at x xs ∙ omega arith

-- a key that is no null has the shifted number
pub shifted_is : (null : Option ℕ) (vs : List Value) (at : ℕ) (v : Value) → IsNullPlace null (length vs) → slice_get vs at ≡ Some v → slice_get (with_null null vs) (shifted null at) ≡ Some v
shifted_is None vs at v place e = e
shifted_is (Some null) vs at v place e = by (nat_lt at null) refl
  where
    by : (t : Bool) → nat_lt at null ≡ t → slice_get (inserted_at null values.Null vs) (if t then at else at + 1) ≡ Some v
    by true q = inserted_at-before null values.Null vs at place (grind (arith, q)) ∙ e
    by false q = rw add-one (inserted_at-after null values.Null vs at place (grind (arith, q)) ∙ e)

-- what is new among keys and is no null, is new with a null among them
pub new_with_null : (null : Option ℕ) (vs : List Value) (v : Value) → IsNullPlace null (length vs) → not_null v ≡ true → IsNewKey v vs → IsNewKey v (with_null null vs)
new_with_null None vs v place some new = new
new_with_null (Some null) vs v place some new = λ k e. elim (cases_lt k null) as (λ _. ⊥) [
  | inl before ↦ new k (sym (inserted_at-before null values.Null vs k place before) ∙ e)
  | inr past ↦ elim (cases_eq k null) as (λ _. ⊥) [
    | inl here ↦
        let is : values.Null ≡ v = same_Some values.Null v (sym (inserted_at-here null values.Null vs place) ∙ ap (λ n. slice_get (inserted_at null values.Null vs) n) (sym here) ∙ e) in
        let bad : false ≡ true = ap not_null is ∙ some in cc
    | inr other ↦
        let next : k ≡ suc (k - 1) = omega (arith, past, other) in
        new (k - 1) (sym (inserted_at-after null values.Null vs (k - 1) place (omega (arith, past, other))) ∙ ap (λ n. slice_get (inserted_at null values.Null vs) n) (sym next) ∙ e)
  ]
]

pub with_null-append : (null : Option ℕ) (vs : List Value) (v : Value) → IsNullPlace null (length vs) → with_null null (vs ++ v ∷ []) ≡ with_null null vs ++ v ∷ []
with_null-append None vs v place = refl
with_null-append (Some null) vs v place = inserted_at-append null values.Null vs v place

-- no key that is held is null
pub no_null_shown : {A : Type 0} (f : A → Value) → ((x : A) → not_null (f x) ≡ true) → (xs : List A) → IsNewKey values.Null (map f xs)
no_null_shown f some xs k e = shown_at f xs k values.Null ⊥ e (λ x held same. let bad : true ≡ false = sym (some x) ∙ ap not_null same in cc)

pub flag_is : (b : Bool) → flag_held (flag_word b) ≡ values.Bool b
flag_is true = refl
flag_is false = refl
