-- Values under their marks: reading one, dropping the last ones, appending; and their type.
use Rattle.std.proofs.Common.{◌≡◌, ℕ, zero, suc, ◌<◌, ◌-◌, Bool, true, false, if◌then◌else◌, List, [], ◌∷◌, ◌++◌, length, take, drop, get_or, map, replicate, refl, ap, sym, ◌∙◌, arith, length-take, min, inl, inr}
use Rattle.std.specs.Prelude.{ℤ, Result, OnOk, slice_range}
use Rattle.std.proofs.lemmas.Bool.{cases_lt, lt-ltb, le-ltb}
use Rattle.std.proofs.lemmas.List.{map-append, take-map, get_or-take, get_or_past}
use Rattle.std.proofs.lemmas.Result.{on_ok_weaker}
use Rattle.morsel_meaning.specs.declared.value.ColType.{ColType}
use Rattle.morsel_meaning.specs.declared.value.ColType.TheVariants as types
use Rattle.morsel_meaning.specs.declared.value.Value.{Value}
use Rattle.morsel_meaning.specs.declared.value.Value.TheVariants as values
use Rattle.morsel_meaning.specs.Values.{IsOfType}
use Rattle.morsel_frame.specs.declared.packed.Packed.{Packed}
use Rattle.morsel_frame.specs.declared.packed.Packed.TheVariants as packed
use Rattle.morsel_frame.specs.Columns.{Values, AreOfType, masked, value_at, value_or_null, no_row}
use Rattle.morsel_frame.specs.Cells.{not_null}
use Rattle.morsel_frame.specs.Packing.{stored, kind_of, kept_of, unpacked, IsPacked}

-- there is a value for each mark
pub length-masked : (valid : List Bool) (vs : List Value) → length vs ≡ length valid → length (masked valid vs) ≡ length valid
length-masked [] vs same = refl
length-masked (b ∷ valid) [] same = absurd (omega arith)
length-masked (b ∷ valid) (v ∷ vs) same = ap suc (length-masked valid vs (omega arith))

-- a column has as many marks as values
pub length-marks : (p : Packed) (valid : List Bool) (column : Values) → IsPacked p valid → unpacked p valid ≡ column → length valid ≡ length column.values
length-marks p valid column same seen = sym (length-masked valid (stored p) same) ∙ ap (λ (c : Values). length c.values) seen

-- and keeps as many values
pub length-kept : (p : Packed) (valid : List Bool) (column : Values) → IsPacked p valid → unpacked p valid ≡ column → length (stored p) ≡ length column.values
length-kept p valid column same seen = same ∙ length-marks p valid column same seen

-- a row that is valid has what is kept
pub value_at-valid : (valid : List Bool) (vs : List Value) (row : ℕ) (b : Bool) → row < length valid → length vs ≡ length valid → b ≡ get_or valid row b → b ≡ true → value_at (masked valid vs) row ≡ value_at vs row
value_at-valid [] vs row b within same read is = absurd (omega arith)
value_at-valid (a ∷ valid) [] row b within same read is = absurd (omega arith)
value_at-valid (a ∷ valid) (v ∷ vs) zero b within same read is = ap (λ t. if t then v else values.Null) (sym read ∙ is)
value_at-valid (a ∷ valid) (v ∷ vs) (suc row) b within same read is = value_at-valid valid vs row b (omega arith) (omega arith) read is

-- any other row has a null
pub value_at-null : (valid : List Bool) (vs : List Value) (row : ℕ) (b : Bool) → row < length valid → length vs ≡ length valid → b ≡ get_or valid row b → b ≡ false → value_at (masked valid vs) row ≡ values.Null
value_at-null [] vs row b within same read is = absurd (omega arith)
value_at-null (a ∷ valid) [] row b within same read is = absurd (omega arith)
value_at-null (a ∷ valid) (v ∷ vs) zero b within same read is = ap (λ t. if t then v else values.Null) (sym read ∙ is)
value_at-null (a ∷ valid) (v ∷ vs) (suc row) b within same read is = value_at-null valid vs row b (omega arith) (omega arith) read is

-- values after others
pub masked-append : (valid more : List Bool) (vs ws : List Value) → length vs ≡ length valid → masked (valid ++ more) (vs ++ ws) ≡ masked valid vs ++ masked more ws
masked-append [] more [] ws same = refl
masked-append [] more (v ∷ vs) ws same = absurd (omega arith)
masked-append (b ∷ valid) more [] ws same = absurd (omega arith)
masked-append (b ∷ valid) more (v ∷ vs) ws same = ap (λ us. (if b then v else values.Null) ∷ us) (masked-append valid more vs ws (omega arith))

-- one value more
pub masked-push : (valid : List Bool) (vs : List Value) (b : Bool) (v : Value) → length vs ≡ length valid → masked (valid ++ b ∷ []) (vs ++ v ∷ []) ≡ masked valid vs ++ (if b then v else values.Null) ∷ []
masked-push valid vs b v same = masked-append valid (b ∷ []) vs (v ∷ []) same

-- what is kept for a value, under its mark, is the value
pub kept-marked : (kind : ColType) (v : Value) → (if not_null v then kept_of kind v else values.Null) ≡ v
kept-marked kind values.Null = refl
kept-marked kind (values.Int n) = refl
kept-marked kind (values.Bool b) = refl
kept-marked kind (values.Text t) = refl

masked-nothing : (valid : List Bool) → masked valid [] ≡ []
masked-nothing [] = refl
masked-nothing (b ∷ valid) = refl

-- the first values
pub masked-take : (valid : List Bool) (vs : List Value) (n : ℕ) → masked (take n valid) (take n vs) ≡ take n (masked valid vs)
masked-take valid vs zero = refl
masked-take [] vs (suc n) = refl
masked-take (b ∷ valid) [] (suc n) = refl
masked-take (b ∷ valid) (v ∷ vs) (suc n) = ap (λ us. (if b then v else values.Null) ∷ us) (masked-take valid vs n)

-- the values after the first ones
pub masked-drop : (valid : List Bool) (vs : List Value) (n : ℕ) → masked (drop n valid) (drop n vs) ≡ drop n (masked valid vs)
masked-drop valid vs zero = refl
masked-drop [] vs (suc n) = refl
masked-drop (b ∷ valid) [] (suc n) = masked-nothing (drop n valid)
masked-drop (b ∷ valid) (v ∷ vs) (suc n) = masked-drop valid vs n

-- a range of the values
pub masked-range : (valid : List Bool) (vs : List Value) (i j : ℕ) → masked (slice_range valid i j) (slice_range vs i j) ≡ slice_range (masked valid vs) i j
masked-range valid vs i j = masked-take (drop i valid) (drop i vs) (j - i) ∙ ap (take (j - i)) (masked-drop valid vs i)

are_ints : (ns : List ℤ) → AreOfType types.Int (map values.Int ns)
are_ints [] = tt
are_ints (n ∷ ns) = (refl, are_ints ns)

are_bools : (bs : List Bool) → AreOfType types.Bool (map values.Bool bs)
are_bools [] = tt
are_bools (b ∷ bs) = (refl, are_bools bs)

are_texts : (ts : List (List ℕ)) → AreOfType types.Text (map values.Text ts)
are_texts [] = tt
are_texts (t ∷ ts) = (refl, are_texts ts)

-- what is kept is of its type
pub stored_of_type : (p : Packed) → AreOfType (kind_of p) (stored p)
stored_of_type (packed.Int numbers) = are_ints numbers.items
stored_of_type (packed.Bool flags) = are_bools flags.items
stored_of_type (packed.Text texts) = are_texts texts

-- and is so under marks
pub masked_of_type : (kind : ColType) (valid : List Bool) (vs : List Value) → AreOfType kind vs → AreOfType kind (masked valid vs)
masked_of_type kind [] vs typed = tt
masked_of_type kind (b ∷ valid) [] typed = tt
masked_of_type kind (true ∷ valid) (v ∷ vs) typed = (typed.0, masked_of_type kind valid vs typed.1)
masked_of_type kind (false ∷ valid) (v ∷ vs) typed = (tt, masked_of_type kind valid vs typed.1)

-- one of several values of a type
pub of_type-at : (kind : ColType) (vs : List Value) (row : ℕ) → AreOfType kind vs → IsOfType kind (value_at vs row)
of_type-at kind [] row typed = tt
of_type-at kind (v ∷ vs) zero typed = typed.0
of_type-at kind (v ∷ vs) (suc row) typed = of_type-at kind vs row typed.1

-- nulls alone
pub masked-nulls : (n : ℕ) (v : Value) → masked (replicate n false) (replicate n v) ≡ replicate n values.Null
masked-nulls zero v = refl
masked-nulls (suc n) v = ap (λ us. values.Null ∷ us) (masked-nulls n v)

pub map-replicate : {X Y : Type 0} (f : X → Y) (n : ℕ) (x : X) → map f (replicate n x) ≡ replicate n (f x)
map-replicate f zero x = refl
map-replicate f (suc n) x = ap (λ ys. f x ∷ ys) (map-replicate f n x)

-- what a function gives of an item, and of the default past the last
get_or-map : {X Y : Type 0} (f : X → Y) (xs : List X) (i : ℕ) (d : X) → f (get_or xs i d) ≡ get_or (map f xs) i (f d)
get_or-map f [] i d = refl
get_or-map f (x ∷ xs) zero d = refl
get_or-map f (x ∷ xs) (suc i) d = get_or-map f xs i d

gathered-map : {X Y R : Type 0} (f : X → Y) (place : R → ℕ) (xs : List X) (d : X) (rows : List R) → map f (map (λ row. get_or xs (place row) d) rows) ≡ map (λ row. get_or (map f xs) (place row) (f d)) rows
gathered-map f place xs d [] = refl
gathered-map f place xs d (row ∷ rows) =
    ap (λ y. y ∷ map f (map (λ r. get_or xs (place r) d) rows)) (get_or-map f xs (place row) d)
    ∙ ap (λ ys. get_or (map f xs) (place row) (f d) ∷ ys) (gathered-map f place xs d rows)

-- items of some rows after others, as values
pub kept_gather : {X Y R T E : Type 0} (f : X → Y) (r : Result T E) (new old others : List X) (limit : ℕ) (place : R → ℕ) (rows : List R) (d : X) → OnOk r (new ≡ old ++ map (λ row. get_or (take limit others) (place row) d) rows) → OnOk r (map f new ≡ map f old ++ map (λ row. get_or (take limit (map f others)) (place row) (f d)) rows)
kept_gather f r new old others limit place rows d gathered =
    on_ok_weaker r (λ (e : new ≡ old ++ map (λ row. get_or (take limit others) (place row) d) rows).
    ap (map f) e ∙ map-append f old (map (λ row. get_or (take limit others) (place row) d) rows)
    ∙ ap (λ ys. map f old ++ ys)
    (gathered-map f place (take limit others) d rows
    ∙ ap (λ ys. map (λ row. get_or ys (place row) (f d)) rows) (sym (take-map f limit others)))) gathered

-- the value of a row, by its mark
value_at-masked : (valid : List Bool) (vs : List Value) (row : ℕ) (d : Value) → length vs ≡ length valid → (if get_or valid row false then get_or vs row d else values.Null) ≡ value_at (masked valid vs) row
value_at-masked [] vs row d same = refl
value_at-masked (b ∷ valid) [] row d same = absurd (omega arith)
value_at-masked (b ∷ valid) (v ∷ vs) zero d same = refl
value_at-masked (b ∷ valid) (v ∷ vs) (suc row) d same = value_at-masked valid vs row d (omega arith)

-- marks and values of some rows
pub masked-gather : {R : Type 0} (valid : List Bool) (vs : List Value) (limit : ℕ) (place : R → ℕ) (rows : List R) (d : Value) → length vs ≡ length valid → masked (map (λ row. get_or (take limit valid) (place row) false) rows) (map (λ row. get_or (take limit vs) (place row) d) rows) ≡ map (λ row. value_at (take limit (masked valid vs)) (place row)) rows
masked-gather valid vs limit place [] d same = refl
masked-gather valid vs limit place (row ∷ rows) d same =
    let lens : length (take limit vs) ≡ length (take limit valid) = omega (arith, length-take limit vs, length-take limit valid) in
    ap (λ u. u ∷ masked (map (λ r. get_or (take limit valid) (place r) false) rows) (map (λ r. get_or (take limit vs) (place r) d) rows))
    (value_at-masked (take limit valid) (take limit vs) (place row) d lens ∙ ap (λ us. value_at us (place row)) (masked-take valid vs limit))
    ∙ ap (λ us. value_at (take limit (masked valid vs)) (place row) ∷ us) (masked-gather valid vs limit place rows d same)

value_at-below : (vs : List Value) (row limit : ℕ) → limit ≡ min (length vs) no_row → row < no_row → value_at (take limit vs) row ≡ value_at vs row
value_at-below vs row limit is below = elim (cases_lt row (length vs)) as (λ _. value_at (take limit vs) row ≡ value_at vs row) [
  | inl inside ↦ get_or-take limit vs row values.Null (omega arith)
  | inr past ↦ get_or_past (take limit vs) row values.Null (omega (arith, length-take limit vs)) ∙ sym (get_or_past vs row values.Null past)
]

-- rows below the greatest number, and those there are
pub value_at-limit : (vs : List Value) (row limit : ℕ) → limit ≡ min (length vs) no_row → value_at (take limit vs) row ≡ value_or_null vs row
value_at-limit vs row limit is = elim (cases_lt row no_row) as (λ _. value_at (take limit vs) row ≡ value_or_null vs row) [
  | inl below ↦ value_at-below vs row limit is below ∙ ap (λ b. if b then value_at vs row else values.Null) (sym (lt-ltb row no_row below))
  | inr above ↦
      get_or_past (take limit vs) row values.Null (omega (arith, length-take limit vs))
      ∙ ap (λ b. if b then value_at vs row else values.Null) (sym (le-ltb row no_row above))
]

pub gathered_or_null : (vs : List Value) (rows : List ℕ) (limit : ℕ) → limit ≡ min (length vs) no_row → map (λ row. value_at (take limit vs) row) rows ≡ map (value_or_null vs) rows
gathered_or_null vs [] limit is = refl
gathered_or_null vs (row ∷ rows) limit is =
    ap (λ u. u ∷ map (λ r. value_at (take limit vs) r) rows) (value_at-limit vs row limit is)
    ∙ ap (λ us. value_or_null vs row ∷ us) (gathered_or_null vs rows limit is)
