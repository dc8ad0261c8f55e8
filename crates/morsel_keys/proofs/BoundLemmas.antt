-- The lesser and the greater of values: of several it does not matter which two are taken first, or which is named first.
use Rattle.std.proofs.Common.{◌≡◌, refl, ap, ◌∙◌, sym, Bool, true, false, if◌then◌else◌}
use Rattle.std.specs.Cmp.{IsTotalOrder}
use Rattle.std.specs.Ordering.{is_lt, is_gt, is_eq, flip_args, ordering_reverse}
use Rattle.std.proofs.lemmas.Cmp.{upto, back_total}
use Rattle.std.specs.declared.cmp.Ordering.{Ordering}
use Rattle.std.specs.declared.cmp.Ordering.TheVariants.{Less, Equal, Greater}
use Rattle.morsel_meaning.specs.declared.value.Value.{Value}
use Rattle.morsel_meaning.specs.declared.value.Value.TheVariants as values
use Rattle.morsel_meaning.specs.Order.{value_cmp}
use Rattle.morsel_meaning.proofs.OrderLemmas.{value_cmp_total, value_eq-same}
use Rattle.morsel_frame.specs.Cells.{not_null}
use Rattle.morsel_keys.specs.Reductions.{lesser, greater}

-- the one that comes before the other, and where neither does, the first
abbrev before_of : (Value → Value → Ordering) → Value → Value → Value
before_of R a b = if is_lt (R b a) then b else a

less_is : (o : Ordering) → is_lt o ≡ true → o ≡ Less
less_is Less q = refl
less_is Equal q = cc
less_is Greater q = cc

reversed : (o p : Ordering) → o ≡ ordering_reverse p → is_lt o ≡ is_gt p
reversed o Less q = ap is_lt q
reversed o Equal q = ap is_lt q
reversed o Greater q = ap is_lt q

before_of-assoc : (R : Value → Value → Ordering) → IsTotalOrder R → (a b c : Value) → before_of R a (before_of R b c) ≡ before_of R (before_of R a b) c
before_of-assoc R o a b c = by (is_lt (R b a)) (is_lt (R c b)) refl refl
  where
    by : (t u : Bool) → is_lt (R b a) ≡ t → is_lt (R c b) ≡ u → before_of R a (if u then c else b) ≡ before_of R (if t then b else a) c
    by true true p q =
        let ca : is_lt (R c a) ≡ true = ap is_lt (o.trans c b a (less_is (R c b) q) (less_is (R b a) p)) in
        rw (ca, q) refl
    by false true p q = refl
    by true false p q = rw (p, q) refl
    by false false p q =
        let ab : is_gt (R a b) ≡ false = sym (reversed (R b a) (R a b) (o.antisymm b a)) ∙ p in
        let bc : is_gt (R b c) ≡ false = sym (reversed (R c b) (R b c) (o.antisymm c b)) ∙ q in
        let ca : is_lt (R c a) ≡ false = reversed (R c a) (R a c) (o.antisymm c a) ∙ upto o a b c ab bc in
        rw (p, ca) refl

before_of-swap : (R : Value → Value → Ordering) → IsTotalOrder R → ((a b : Value) → R a b ≡ Equal → a ≡ b) → (a b : Value) → before_of R a b ≡ before_of R b a
before_of-swap R o exact a b = by (R a b) (R b a) refl refl
  where
    by : (x y : Ordering) → R a b ≡ x → R b a ≡ y → (if is_lt y then b else a) ≡ (if is_lt x then a else b)
    by Less Less p q = let bad : Less ≡ Greater = sym p ∙ o.antisymm a b ∙ ap ordering_reverse q in cc
    by Less Equal p q = refl
    by Less Greater p q = refl
    by Equal Less p q = refl
    by Equal Equal p q = exact a b p
    by Equal Greater p q = exact a b p
    by Greater Less p q = refl
    by Greater Equal p q = sym (exact b a q)
    by Greater Greater p q = let bad : Greater ≡ Less = sym p ∙ o.antisymm a b ∙ ap ordering_reverse q in cc

exact_values : (a b : Value) → value_cmp a b ≡ Equal → a ≡ b
exact_values a b e = value_eq-same a b (ap is_eq e)

exact_back : (a b : Value) → flip_args value_cmp a b ≡ Equal → a ≡ b
exact_back a b e = sym (exact_values b a e)

-- a choice that skips nulls, of one that does not
abbrev skipping : (Value → Value → Value) → (Value → Value → Value) → Type 0
skipping pick choose = ((b : Value) → pick values.Null b ≡ b) × ((a : Value) → pick a values.Null ≡ a)
    × ((a b : Value) → not_null a ≡ true → not_null b ≡ true → pick a b ≡ choose a b)

null_is : (a : Value) → not_null a ≡ false → a ≡ values.Null
null_is values.Null e = refl
null_is (values.Int n) e = cc
null_is (values.Bool b) e = cc
null_is (values.Text t) e = cc

either : (t : Bool) (a b : Value) → not_null a ≡ true → not_null b ≡ true → not_null (if t then b else a) ≡ true
either true a b p q = q
either false a b p q = p

skips-assoc : (R : Value → Value → Ordering) (pick : Value → Value → Value) → IsTotalOrder R → skipping pick (before_of R) → (a b c : Value) → pick a (pick b c) ≡ pick (pick a b) c
skips-assoc R pick o (first, second, both) a b c = by (not_null a) (not_null b) (not_null c) refl refl refl
  where
    by : (x y z : Bool) → not_null a ≡ x → not_null b ≡ y → not_null c ≡ z → pick a (pick b c) ≡ pick (pick a b) c
    by false y z p q r = let none = null_is a p in rw none (first (pick b c) ∙ ap (λ d. pick d c) (sym (first b)))
    by true false z p q r = let none = null_is b q in rw none (ap (pick a) (first c) ∙ ap (λ d. pick d c) (sym (second a)))
    by true true false p q r = let none = null_is c r in rw none (ap (pick a) (second b) ∙ sym (second (pick a b)))
    by true true true p q r =
        ap (pick a) (both b c q r)
        ∙ both a (before_of R b c) p (either (is_lt (R c b)) b c q r)
        ∙ before_of-assoc R o a b c
        ∙ sym (both (before_of R a b) c (either (is_lt (R b a)) a b p q) r)
        ∙ ap (λ d. pick d c) (sym (both a b p q))

skips-swap : (R : Value → Value → Ordering) (pick : Value → Value → Value) → IsTotalOrder R → ((a b : Value) → R a b ≡ Equal → a ≡ b) → skipping pick (before_of R) → (a b : Value) → pick a b ≡ pick b a
skips-swap R pick o exact (first, second, both) a b = by (not_null a) (not_null b) refl refl
  where
    by : (x y : Bool) → not_null a ≡ x → not_null b ≡ y → pick a b ≡ pick b a
    by false y p q = let none = null_is a p in rw none (first b ∙ sym (second b))
    by true false p q = let none = null_is b q in rw none (second a ∙ sym (first a))
    by true true p q = both a b p q ∙ before_of-swap R o exact a b ∙ sym (both b a q p)

lesser-null : (a : Value) → lesser a values.Null ≡ a
lesser-null values.Null = refl
lesser-null (values.Int n) = refl
lesser-null (values.Bool b) = refl
lesser-null (values.Text t) = refl

lesser-both : (a b : Value) → not_null a ≡ true → not_null b ≡ true → lesser a b ≡ before_of value_cmp a b
lesser-both values.Null b p q = cc
lesser-both (values.Int m) values.Null p q = cc
lesser-both (values.Int m) (values.Int n) p q = refl
lesser-both (values.Int m) (values.Bool b) p q = refl
lesser-both (values.Int m) (values.Text t) p q = refl
lesser-both (values.Bool a) values.Null p q = cc
lesser-both (values.Bool a) (values.Int n) p q = refl
lesser-both (values.Bool a) (values.Bool b) p q = refl
lesser-both (values.Bool a) (values.Text t) p q = refl
lesser-both (values.Text s) values.Null p q = cc
lesser-both (values.Text s) (values.Int n) p q = refl
lesser-both (values.Text s) (values.Bool b) p q = refl
lesser-both (values.Text s) (values.Text t) p q = refl

greater-null : (a : Value) → greater a values.Null ≡ a
greater-null values.Null = refl
greater-null (values.Int n) = refl
greater-null (values.Bool b) = refl
greater-null (values.Text t) = refl

greater-both : (a b : Value) → not_null a ≡ true → not_null b ≡ true → greater a b ≡ before_of (flip_args value_cmp) a b
greater-both values.Null b p q = cc
greater-both (values.Int m) values.Null p q = cc
greater-both (values.Int m) (values.Int n) p q = refl
greater-both (values.Int m) (values.Bool b) p q = refl
greater-both (values.Int m) (values.Text t) p q = refl
greater-both (values.Bool a) values.Null p q = cc
greater-both (values.Bool a) (values.Int n) p q = refl
greater-both (values.Bool a) (values.Bool b) p q = refl
greater-both (values.Bool a) (values.Text t) p q = refl
greater-both (values.Text s) values.Null p q = cc
greater-both (values.Text s) (values.Int n) p q = refl
greater-both (values.Text s) (values.Bool b) p q = refl
greater-both (values.Text s) (values.Text t) p q = refl

lesser_skips : skipping lesser (before_of value_cmp)
lesser_skips = (λ b. refl, lesser-null, lesser-both)

greater_skips : skipping greater (before_of (flip_args value_cmp))
greater_skips = (λ b. refl, greater-null, greater-both)

pub lesser_of_none : (a : Value) → lesser a values.Null ≡ a
lesser_of_none a = lesser-null a

pub greater_of_none : (a : Value) → greater a values.Null ≡ a
greater_of_none a = greater-null a

pub lesser-assoc : (a b c : Value) → lesser a (lesser b c) ≡ lesser (lesser a b) c
lesser-assoc a b c = skips-assoc value_cmp lesser value_cmp_total lesser_skips a b c

pub greater-assoc : (a b c : Value) → greater a (greater b c) ≡ greater (greater a b) c
greater-assoc a b c = skips-assoc (flip_args value_cmp) greater (back_total value_cmp_total) greater_skips a b c

pub lesser-swap : (a b : Value) → lesser a b ≡ lesser b a
lesser-swap a b = skips-swap value_cmp lesser value_cmp_total exact_values lesser_skips a b

pub greater-swap : (a b : Value) → greater a b ≡ greater b a
greater-swap a b = skips-swap (flip_args value_cmp) greater (back_total value_cmp_total) exact_back greater_skips a b
