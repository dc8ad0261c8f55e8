-- What is kept of the rows of a key, and the rows in their order.
use Rattle.std.proofs.Common.{◌≡◌, ◌≢◌, ◌≤◌, ◌++◌, [], ◌∷◌, List, ℕ, zero, suc, slice_get, map, Some, refl, arith, ap, ◌∙◌, sym, Bool, true, false, if◌then◌else◌, nat_lt, subst}
use Rattle.std.proofs.lemmas.Bool.{false≢true}
use Rattle.std.proofs.lemmas.List.{map-append}
use Rattle.morsel_meaning.specs.Values.{Row}
use Rattle.morsel_meaning.specs.Sequences.{AllAfter, NeverFalls, put_by, by_number}
use Rattle.morsel_meaning.proofs.NumberLemmas.{numbers_rise}
use Rattle.morsel_frame.specs.Tables.{cells_at}
use Rattle.morsel_keys.specs.Groups.{passing}
use Rattle.morsel_keys.specs.Reductions.{ValueAt, entry_of, finished, reduction_of}
use Rattle.morsel_keys.proofs.ReductionLemmas.{keeps_parts, reduces_by_place}
use Rattle.morsel_group.specs.Asked.{Reducer, GroupShape}
use Rattle.morsel_group.specs.Grouping.{same_key, is_among, arrived, RowAt, IsKeyOf, group_row, reduced_rows, rows_of_key, value_in, in_order, rows_at_key, distinct_keys}
use Rattle.morsel_group.specs.Kept.{valued, kept_at, kept_row, MergesKeys, MergesKept, KeepsNothing, KeepsGrouped}
use Rattle.morsel_group.proofs.KeyLemmas.{same_key-only, at_among, among_at, arrived-append, arrived-arrived, among-arrived, arrived-once, none_once}

-- the key of a row
abbrev pub key_of : GroupShape → RowAt → Row
key_of shape r = cells_at shape.keys r.row

pub merges_keys : MergesKeys
merges_keys shape rows more =
    ap (arrived []) (map-append (key_of shape) rows more)
    ∙ arrived-append [] (map (key_of shape) rows) (map (key_of shape) more)
    ∙ sym (arrived-arrived (distinct_keys shape rows) [] (map (key_of shape) more))

pub passing-append : {X : Type 0} (test : X → Bool) (xs ys : List X) → passing test (xs ++ ys) ≡ passing test xs ++ passing test ys
passing-append test [] ys = refl
passing-append test (x ∷ xs) ys = by (test x) (passing-append test xs ys)
  where
    by : (t : Bool) → passing test (xs ++ ys) ≡ passing test xs ++ passing test ys → (if t then x ∷ passing test (xs ++ ys) else passing test (xs ++ ys)) ≡ (if t then x ∷ passing test xs else passing test xs) ++ passing test ys
    by true later = ap (λ zs. x ∷ zs) later
    by false later = later

-- the value of a row with its place
abbrev value_with : Reducer → RowAt → ValueAt
value_with agg r = record { at = r.at; value = value_in agg.column r.row }

pub merges_kept : MergesKept
merges_kept shape rows more agg key =
    ap (λ rs. entry_of agg.op (valued agg rs)) (passing-append (λ r. same_key key (key_of shape r)) rows more)
    ∙ ap (entry_of agg.op) (map-append (value_with agg) (rows_at_key shape key rows) (rows_at_key shape key more))
    ∙ keeps_parts agg.op (valued agg (rows_at_key shape key rows)) (valued agg (rows_at_key shape key more))

-- no row has a key that is none of theirs
pub no_rows : (shape : GroupShape) (rows : List RowAt) (key : Row) → is_among key (map (key_of shape) rows) ≡ false → rows_at_key shape key rows ≡ []
no_rows shape [] key none = refl
no_rows shape (r ∷ rows) key none = by (same_key key (key_of shape r)) (λ later. no_rows shape rows key later) none
  where
    by : (t : Bool) → (is_among key (map (key_of shape) rows) ≡ false → rows_at_key shape key rows ≡ []) → (if t then true else is_among key (map (key_of shape) rows)) ≡ false → (if t then r ∷ rows_at_key shape key rows else rows_at_key shape key rows) ≡ []
    by true further bad = absurd (false≢true (sym bad))
    by false further later = further later

absent_here : (t : Bool) → (t ≡ true → ⊥) → t ≡ false
absent_here true denied = absurd (denied refl)
absent_here false denied = refl

pub not_of_rows : (shape : GroupShape) (rows : List RowAt) (key : Row) → ((at : ℕ) → slice_get (distinct_keys shape rows) at ≢ Some key) → is_among key (map (key_of shape) rows) ≡ false
not_of_rows shape rows key new = absent_here (is_among key (map (key_of shape) rows)) (λ there.
    let place = among_at (distinct_keys shape rows) key (among-arrived key [] (map (key_of shape) rows) ∙ there) in new place.0 place.1)

pub keeps_nothing : KeepsNothing
keeps_nothing shape rows agg key new = ap (λ rs. entry_of agg.op (valued agg rs)) (no_rows shape rows key (not_of_rows shape rows key new))

-- by number, of what is made of things
put_by-map : {X Y : Type 0} (f : X → Y) (number : Y → ℕ) (x : X) (xs : List X) → put_by number (f x) (map f xs) ≡ map f (put_by (λ z. number (f z)) x xs)
put_by-map f number x [] = refl
put_by-map f number x (y ∷ ys) = by (nat_lt (number (f y)) (number (f x))) (put_by-map f number x ys)
  where
    by : (t : Bool) → put_by number (f x) (map f ys) ≡ map f (put_by (λ z. number (f z)) x ys) → (if t then f y ∷ put_by number (f x) (map f ys) else f x ∷ f y ∷ map f ys) ≡ map f (if t then y ∷ put_by (λ z. number (f z)) x ys else x ∷ y ∷ ys)
    by true later = ap (λ zs. f y ∷ zs) later
    by false later = refl

pub by_number-map : {X Y : Type 0} (f : X → Y) (number : Y → ℕ) (xs : List X) → by_number number (map f xs) ≡ map f (by_number (λ z. number (f z)) xs)
by_number-map f number [] = refl
by_number-map f number (x ∷ xs) = ap (put_by number (f x)) (by_number-map f number xs) ∙ put_by-map f number x (by_number (λ z. number (f z)) xs)

-- of things whose numbers are not smaller, one comes first
put_by-first : {X : Type 0} (number : X → ℕ) (test : X → Bool) (x : X) (ys : List X) → AllAfter (λ a b. a ≤ b) (number x) (map number ys) → put_by number x (passing test ys) ≡ x ∷ passing test ys
put_by-first number test x [] after = refl
put_by-first number test x (y ∷ ys) (less, after) = by (test y) (put_by-first number test x ys after)
  where
    here : (t : Bool) → nat_lt (number y) (number x) ≡ t → (if t then y ∷ put_by number x (passing test ys) else x ∷ y ∷ passing test ys) ≡ x ∷ y ∷ passing test ys
    here true q = absurd (grind (arith, q, less))
    here false q = refl

    by : (t : Bool) → put_by number x (passing test ys) ≡ x ∷ passing test ys → put_by number x (if t then y ∷ passing test ys else passing test ys) ≡ x ∷ (if t then y ∷ passing test ys else passing test ys)
    by true later = here (nat_lt (number y) (number x)) refl
    by false later = later

lower_all : (m n : ℕ) (numbers : List ℕ) → m ≤ n → AllAfter (λ a b. a ≤ b) n numbers → AllAfter (λ a b. a ≤ b) m numbers
lower_all m n [] less after = tt
lower_all m n (k ∷ numbers) less (here, after) = (omega (arith, less, here), lower_all m n numbers less after)

put_by-passing : {X : Type 0} (number : X → ℕ) (test : X → Bool) (x : X) (ys : List X) (t : Bool) → test x ≡ t → NeverFalls (map number ys) → passing test (put_by number x ys) ≡ (if t then put_by number x (passing test ys) else passing test ys)
put_by-passing number test x [] t q rises = ap (λ s. if s then x ∷ [] else []) q ∙ same t
  where
    same : (t : Bool) → (if t then x ∷ [] else []) ≡ (if t then put_by number x [] else [])
    same true = refl
    same false = refl
put_by-passing number test x (y ∷ ys) t q (after, rises) = by (nat_lt (number y) (number x)) refl (put_by-passing number test x ys t q rises)
  where
    later_true : (s : Bool) → nat_lt (number y) (number x) ≡ true → (if s then y ∷ put_by number x (passing test ys) else put_by number x (passing test ys)) ≡ put_by number x (if s then y ∷ passing test ys else passing test ys)
    later_true true r = sym (ap (λ u. if u then y ∷ put_by number x (passing test ys) else x ∷ y ∷ passing test ys) r)
    later_true false r = refl

    later : (t : Bool) → nat_lt (number y) (number x) ≡ true → passing test (put_by number x ys) ≡ (if t then put_by number x (passing test ys) else passing test ys)
        → (if test y then y ∷ passing test (put_by number x ys) else passing test (put_by number x ys)) ≡ (if t then put_by number x (if test y then y ∷ passing test ys else passing test ys) else (if test y then y ∷ passing test ys else passing test ys))
    later true r h = ap (λ zs. if test y then y ∷ zs else zs) h ∙ later_true (test y) r
    later false r h = ap (λ zs. if test y then y ∷ zs else zs) h

    first : (t : Bool) → nat_lt (number y) (number x) ≡ false → (if t then x ∷ passing test (y ∷ ys) else passing test (y ∷ ys)) ≡ (if t then put_by number x (passing test (y ∷ ys)) else passing test (y ∷ ys))
    first true r = let less : number x ≤ number y = grind (arith, r) in sym (put_by-first number test x (y ∷ ys) (less, lower_all (number x) (number y) (map number ys) less after))
    first false r = refl

    by : (s : Bool) → nat_lt (number y) (number x) ≡ s → passing test (put_by number x ys) ≡ (if t then put_by number x (passing test ys) else passing test ys)
        → passing test (if s then y ∷ put_by number x ys else x ∷ y ∷ ys) ≡ (if t then put_by number x (passing test (y ∷ ys)) else passing test (y ∷ ys))
    by true r h = later t r h
    by false r h = ap (λ s. if s then x ∷ passing test (y ∷ ys) else passing test (y ∷ ys)) q ∙ first t r

-- what passes comes by number as all do
pub by_number-passing : {X : Type 0} (number : X → ℕ) (test : X → Bool) (xs : List X) → passing test (by_number number xs) ≡ by_number number (passing test xs)
by_number-passing number test [] = refl
by_number-passing number test (x ∷ xs) = put_by-passing number test x (by_number number xs) (test x) refl (numbers_rise number xs) ∙ by (test x) (by_number-passing number test xs)
  where
    by : (t : Bool) → passing test (by_number number xs) ≡ by_number number (passing test xs) → (if t then put_by number x (passing test (by_number number xs)) else passing test (by_number number xs)) ≡ by_number number (if t then x ∷ passing test xs else passing test xs)
    by true h = ap (put_by number x) h
    by false h = h

passing-map : {X Y : Type 0} (f : X → Y) (test : Y → Bool) (xs : List X) → passing test (map f xs) ≡ map f (passing (λ x. test (f x)) xs)
passing-map f test [] = refl
passing-map f test (x ∷ xs) = by (test (f x)) (passing-map f test xs)
  where
    by : (t : Bool) → passing test (map f xs) ≡ map f (passing (λ z. test (f z)) xs) → (if t then f x ∷ passing test (map f xs) else passing test (map f xs)) ≡ map f (if t then x ∷ passing (λ z. test (f z)) xs else passing (λ z. test (f z)) xs)
    by true later = ap (λ zs. f x ∷ zs) later
    by false later = later

map_map : {X Y Z : Type 0} (g : Y → Z) (f : X → Y) (xs : List X) → map g (map f xs) ≡ map (λ x. g (f x)) xs
map_map g f [] = refl
map_map g f (x ∷ xs) = ap (λ zs. g (f x) ∷ zs) (map_map g f xs)

map_same : {X Y : Type 0} (f g : X → Y) (xs : List X) → ((x : X) → f x ≡ g x) → map f xs ≡ map g xs
map_same f g [] same = refl
map_same f g (x ∷ xs) same = ap (λ y. y ∷ map f xs) (same x) ∙ ap (λ ys. g x ∷ ys) (map_same f g xs same)

-- the rows of a key in the order of the input
key_rows : (shape : GroupShape) (rows : List RowAt) (key : Row) → rows_of_key shape key (in_order rows) ≡ map (λ r. r.row) (by_number (λ r. r.at) (rows_at_key shape key rows))
key_rows shape rows key =
    passing-map (λ (r : RowAt). r.row) (λ row. same_key key (cells_at shape.keys row)) (by_number (λ r. r.at) rows)
    ∙ ap (map (λ (r : RowAt). r.row)) (by_number-passing (λ (r : RowAt). r.at) (λ r. same_key key (key_of shape r)) rows)

-- what a reduction says by what was kept
pub said : (shape : GroupShape) (rows : List RowAt) (key : Row) (agg : Reducer) → finished agg.op (kept_at shape rows agg key) ≡ reduced_rows (rows_of_key shape key (in_order rows)) agg
said shape rows key agg =
    let own = rows_at_key shape key rows in
    reduces_by_place agg.op (valued agg own)
    ∙ ap (λ vs. reduction_of agg.op (map (λ (v : ValueAt). v.value) vs)) (by_number-map (value_with agg) (λ (v : ValueAt). v.at) own)
    ∙ ap (reduction_of agg.op) (map_map (λ (v : ValueAt). v.value) (value_with agg) (by_number (λ (r : RowAt). r.at) own) ∙ sym (map_map (value_in agg.column) (λ (r : RowAt). r.row) (by_number (λ (r : RowAt). r.at) own)))
    ∙ sym (ap (λ rs. reduction_of agg.op (map (value_in agg.column) rs)) (key_rows shape rows key))

-- a row is among rows by number where it is among them
among_put : {X : Type 0} (number : X → ℕ) (f : X → Row) (key : Row) (x : X) (ys : List X) → is_among key (map f (put_by number x ys)) ≡ is_among key (map f (x ∷ ys))
among_put number f key x [] = refl
among_put number f key x (y ∷ ys) = by (nat_lt (number y) (number x)) (among_put number f key x ys)
  where
    swap : (s t u : Bool) → (if s then true else (if t then true else u)) ≡ (if t then true else (if s then true else u))
    swap true true u = refl
    swap true false u = refl
    swap false true u = refl
    swap false false u = refl

    by : (t : Bool) → is_among key (map f (put_by number x ys)) ≡ is_among key (map f (x ∷ ys)) → is_among key (map f (if t then y ∷ put_by number x ys else x ∷ y ∷ ys)) ≡ is_among key (map f (x ∷ y ∷ ys))
    by true h = ap (λ u. if same_key key (f y) then true else u) h ∙ swap (same_key key (f y)) (same_key key (f x)) (is_among key (map f ys))
    by false h = refl

among_by_number : {X : Type 0} (number : X → ℕ) (f : X → Row) (key : Row) (xs : List X) → is_among key (map f (by_number number xs)) ≡ is_among key (map f xs)
among_by_number number f key [] = refl
among_by_number number f key (x ∷ xs) = among_put number f key x (by_number number xs) ∙ ap (λ u. if same_key key (f x) then true else u) (among_by_number number f key xs)

-- a key that is among those of rows is one of a row
key_of_row : (shape : GroupShape) (rows : List Row) (key : Row) → is_among key (map (cells_at shape.keys) rows) ≡ true → IsKeyOf shape rows key
key_of_row shape [] key there = absurd (false≢true there)
key_of_row shape (row ∷ rows) key there = by (same_key key (cells_at shape.keys row)) refl (λ later. key_of_row shape rows key later) there
  where
    by : (t : Bool) → same_key key (cells_at shape.keys row) ≡ t → (is_among key (map (cells_at shape.keys) rows) ≡ true → IsKeyOf shape rows key) → (if t then true else is_among key (map (cells_at shape.keys) rows)) ≡ true → IsKeyOf shape (row ∷ rows) key
    by true q further there = (zero, row, refl, sym (same_key-only key (cells_at shape.keys row) q))
    by false q further there = let later = further there in (suc later.0, later.1, later.2, later.3)

row_among : (shape : GroupShape) (rows : List Row) (key : Row) → IsKeyOf shape rows key → is_among key (map (cells_at shape.keys) rows) ≡ true
row_among shape rows key (at, row, here, is) = subst (λ k. is_among k (map (cells_at shape.keys) rows) ≡ true) is (at_among (map (cells_at shape.keys) rows) at (cells_at shape.keys row) (mapped rows at here))
  where
    mapped : (rs : List Row) (n : ℕ) → slice_get rs n ≡ Some row → slice_get (map (cells_at shape.keys) rs) n ≡ Some (cells_at shape.keys row)
    mapped [] n e = cc
    mapped (r ∷ rs) zero e = ap (λ x. Some (cells_at shape.keys x)) (same e)
      where
        same : Some r ≡ Some row → r ≡ row
        same e = cc
    mapped (r ∷ rs) (suc n) e = mapped rs n e

-- a key has arrived where it is among those of the rows in order
among_in_order : (shape : GroupShape) (rows : List RowAt) (key : Row) → is_among key (distinct_keys shape rows) ≡ is_among key (map (cells_at shape.keys) (in_order rows))
among_in_order shape rows key =
    among-arrived key [] (map (key_of shape) rows)
    ∙ sym (among_by_number (λ (r : RowAt). r.at) (key_of shape) key rows)
    ∙ sym (ap (is_among key) (map_map (cells_at shape.keys) (λ (r : RowAt). r.row) (by_number (λ (r : RowAt). r.at) rows)))

pub keeps_grouped : KeepsGrouped
keeps_grouped shape rows = record {
  keys = distinct_keys shape rows;
  once = arrived-once [] (map (key_of shape) rows) none_once;
  each = λ key. (
    (λ here. key_of_row shape (in_order rows) key (sym (among_in_order shape rows key) ∙ at_among (distinct_keys shape rows) here.0 key here.1)),
    (λ is. among_at (distinct_keys shape rows) key (among_in_order shape rows key ∙ row_among shape (in_order rows) key is)),
  );
  rows_are = map_same (kept_row shape rows) (group_row shape (in_order rows)) (distinct_keys shape rows) (λ key. ap (λ vs. key ++ vs) (map_same (λ agg. finished agg.op (kept_at shape rows agg key)) (reduced_rows (rows_of_key shape key (in_order rows))) shape.aggs (said shape rows key)));
}
