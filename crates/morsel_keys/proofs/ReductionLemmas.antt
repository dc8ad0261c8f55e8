-- What is kept for a reduction says of all values, by place, what the reduction says.
use Rattle.std.proofs.Common.{◌≡◌, ◌≤◌, [], ◌∷◌, List, ℕ, ◌+◌, ℤ, pos, ◌+ℤ◌, refl, ap, ◌∙◌, sym, arith, true, false, if◌then◌else◌, nat_lt, None, Some, map, length}
use Rattle.std.specs.Prelude.{Option}
use Rattle.std.proofs.lemmas.Int.{ints}
use Rattle.morsel_meaning.specs.declared.value.Value.{Value}
use Rattle.morsel_meaning.specs.declared.value.Value.TheVariants as values
use Rattle.morsel_meaning.specs.Sequences.{AllAfter, NeverFalls, by_number}
use Rattle.morsel_meaning.proofs.NumberLemmas.{numbers_rise, folds_by_number}
use Rattle.morsel_keys.specs.declared.reduction.Reduction.{Reduction}
use Rattle.morsel_keys.specs.declared.reduction.Reduction.TheVariants as ops
use Rattle.morsel_keys.specs.Groups.{both_parts}
use Rattle.morsel_keys.specs.Reductions.{addend, lesser, greater, total_of, least_of, greatest_of, first_of_values, last_of_values, reduction_of, ValueAt, Entry, one_entry, bound_of, picks_second, plus_entries, entry_of, finished}
use Rattle.morsel_keys.specs.Laws.{IsAssociative, KeepsParts, ReducesByPlace}
use Rattle.morsel_keys.proofs.GroupLemmas.{all_parts-append}
use Rattle.morsel_keys.proofs.BoundLemmas.{lesser_of_none, greater_of_none, lesser-assoc, greater-assoc, lesser-swap, greater-swap}

entries_same : (a b : Entry) → a.len ≡ b.len → a.total ≡ b.total → a.bound ≡ b.bound → a.at ≡ b.at → a.picked ≡ b.picked → a ≡ b
entries_same a b l t m p v = λ i. record { len = l i; total = t i; bound = m i; at = p i; picked = v i }

bound_of-assoc : (op : Reduction) (a b c : Value) → bound_of op a (bound_of op b c) ≡ bound_of op (bound_of op a b) c
bound_of-assoc ops.Len a b c = refl
bound_of-assoc ops.Sum a b c = refl
bound_of-assoc ops.Min a b c = lesser-assoc a b c
bound_of-assoc ops.Max a b c = greater-assoc a b c
bound_of-assoc ops.First a b c = refl
bound_of-assoc ops.Last a b c = refl

-- the place that is picked of two
abbrev at_of : Reduction → ℕ → ℕ → ℕ
at_of op p q = if picks_second op p q then q else p

at_of-assoc : (op : Reduction) (p q r : ℕ) → at_of op p (at_of op q r) ≡ at_of op (at_of op p q) r
at_of-assoc ops.Len p q r = refl
at_of-assoc ops.Sum p q r = refl
at_of-assoc ops.Min p q r = refl
at_of-assoc ops.Max p q r = refl
at_of-assoc ops.First p q r = grind arith
at_of-assoc ops.Last p q r = grind arith

picked_of-assoc : (op : Reduction) (p q r : ℕ) (u v w : Value)
    → (if picks_second op p (at_of op q r) then (if picks_second op q r then w else v) else u) ≡ (if picks_second op (at_of op p q) r then w else (if picks_second op p q then v else u))
picked_of-assoc ops.Len p q r u v w = refl
picked_of-assoc ops.Sum p q r u v w = refl
picked_of-assoc ops.Min p q r u v w = refl
picked_of-assoc ops.Max p q r u v w = refl
picked_of-assoc ops.First p q r u v w = grind arith
picked_of-assoc ops.Last p q r u v w = grind arith

pub plus_entries-assoc : (op : Reduction) → IsAssociative (plus_entries op)
plus_entries-assoc op a b c = entries_same (plus_entries op a (plus_entries op b c)) (plus_entries op (plus_entries op a b) c)
    (omega arith) (omega (arith, ints)) (bound_of-assoc op a.bound b.bound c.bound) (at_of-assoc op a.at b.at c.at)
    (picked_of-assoc op a.at b.at c.at a.picked b.picked c.picked)

pub keeps_parts : KeepsParts
keeps_parts op vs ws = all_parts-append (plus_entries op) (plus_entries-assoc op) (one_entry op) vs ws

-- of values at different places it does not matter which is named first
plus_ones-swap : (op : Reduction) (a b : ValueAt) → nat_lt b.at a.at ≡ true → plus_entries op (one_entry op a) (one_entry op b) ≡ plus_entries op (one_entry op b) (one_entry op a)
plus_ones-swap ops.Len a b q = refl
plus_ones-swap ops.Sum a b q = entries_same _ _ refl (omega (arith, ints)) refl refl refl
plus_ones-swap ops.Min a b q = entries_same _ _ refl refl (lesser-swap a.value b.value) refl refl
plus_ones-swap ops.Max a b q = entries_same _ _ refl refl (greater-swap a.value b.value) refl refl
plus_ones-swap ops.First a b q = let r : nat_lt a.at b.at ≡ false = grind (arith, q) in entries_same _ _ refl refl refl (rw (q, r) refl) (rw (q, r) refl)
plus_ones-swap ops.Last a b q = let r : nat_lt a.at b.at ≡ false = grind (arith, q) in entries_same _ _ refl refl refl (rw (q, r) refl) (rw (q, r) refl)

swaps : (op : Reduction) (a b : ValueAt) (m : Option Entry) → nat_lt b.at a.at ≡ true
    → both_parts (plus_entries op) (Some (one_entry op a)) (both_parts (plus_entries op) (Some (one_entry op b)) m)
    ≡ both_parts (plus_entries op) (Some (one_entry op b)) (both_parts (plus_entries op) (Some (one_entry op a)) m)
swaps op a b None q = ap Some (plus_ones-swap op a b q)
swaps op a b (Some m) q = ap Some (plus_entries-assoc op (one_entry op a) (one_entry op b) m ∙ ap (λ e. plus_entries op e m) (plus_ones-swap op a b q) ∙ sym (plus_entries-assoc op (one_entry op b) (one_entry op a) m))

entry_of-by_number : (op : Reduction) (vs : List ValueAt) → entry_of op (by_number (λ v. v.at) vs) ≡ entry_of op vs
entry_of-by_number op vs = folds_by_number (λ v. v.at) (λ x m. both_parts (plus_entries op) (Some (one_entry op x)) m) None (λ a b m q. swaps op a b m q) vs

abbrev with_one : Reduction → ValueAt → Option Entry → Option Entry
with_one op v m = both_parts (plus_entries op) (Some (one_entry op v)) m

len_with_one : (v : ValueAt) (m : Option Entry) (n : ℕ) → finished ops.Len m ≡ values.Int (pos n) → finished ops.Len (with_one ops.Len v m) ≡ values.Int (pos (n + 1))
len_with_one v None n e = let same : pos 0 ≡ pos n = cc in let z : 0 ≡ n = cc in ap (λ k. values.Int (pos k)) (omega arith)
len_with_one v (Some m) n e = let same : m.len ≡ n = cc in ap (λ k. values.Int (pos k)) (omega arith)

len_finished : (vs : List ValueAt) → finished ops.Len (entry_of ops.Len vs) ≡ values.Int (pos (length (map (λ v. v.value) vs)))
len_finished [] = refl
len_finished (v ∷ vs) = len_with_one v (entry_of ops.Len vs) (length (map (λ w. w.value) vs)) (len_finished vs) ∙ ap (λ k. values.Int (pos k)) (omega arith)

sum_with_one : (v : ValueAt) (m : Option Entry) (n : ℤ) → finished ops.Sum m ≡ values.Int n → finished ops.Sum (with_one ops.Sum v m) ≡ values.Int (addend v.value +ℤ n)
sum_with_one v None n e = let same : pos 0 ≡ n = cc in ap values.Int (omega (arith, ints))
sum_with_one v (Some m) n e = let same : m.total ≡ n = cc in ap (λ k. values.Int (addend v.value +ℤ k)) same

sum_finished : (vs : List ValueAt) → finished ops.Sum (entry_of ops.Sum vs) ≡ values.Int (total_of (map (λ v. v.value) vs))
sum_finished [] = refl
sum_finished (v ∷ vs) = sum_with_one v (entry_of ops.Sum vs) (total_of (map (λ w. w.value) vs)) (sum_finished vs)

min_with_one : (v : ValueAt) (m : Option Entry) → finished ops.Min (with_one ops.Min v m) ≡ lesser v.value (finished ops.Min m)
min_with_one v None = sym (lesser_of_none v.value)
min_with_one v (Some m) = refl

min_finished : (vs : List ValueAt) → finished ops.Min (entry_of ops.Min vs) ≡ least_of (map (λ v. v.value) vs)
min_finished [] = refl
min_finished (v ∷ vs) = min_with_one v (entry_of ops.Min vs) ∙ ap (lesser v.value) (min_finished vs)

max_with_one : (v : ValueAt) (m : Option Entry) → finished ops.Max (with_one ops.Max v m) ≡ greater v.value (finished ops.Max m)
max_with_one v None = sym (greater_of_none v.value)
max_with_one v (Some m) = refl

max_finished : (vs : List ValueAt) → finished ops.Max (entry_of ops.Max vs) ≡ greatest_of (map (λ v. v.value) vs)
max_finished [] = refl
max_finished (v ∷ vs) = max_with_one v (entry_of ops.Max vs) ∙ ap (greater v.value) (max_finished vs)

-- the place that was picked is not below a number
abbrev IsPickedFrom : ℕ → Option Entry → Type 0
IsPickedFrom n None = Unit {0}
IsPickedFrom n (Some e) = n ≤ e.at

first_from : (n : ℕ) (v : ValueAt) (m : Option Entry) → n ≤ v.at → IsPickedFrom n m → IsPickedFrom n (with_one ops.First v m)
first_from n v None l h = l
first_from n v (Some e) l h = grind (arith, l, h)

firsts_from : (n : ℕ) (vs : List ValueAt) → AllAfter (λ a b. a ≤ b) n (map (λ v. v.at) vs) → IsPickedFrom n (entry_of ops.First vs)
firsts_from n [] a = tt
firsts_from n (v ∷ vs) (here, later) = first_from n v (entry_of ops.First vs) here (firsts_from n vs later)

first_with_one : (v : ValueAt) (m : Option Entry) → IsPickedFrom v.at m → finished ops.First (with_one ops.First v m) ≡ v.value
first_with_one v None h = refl
first_with_one v (Some e) h = let no_earlier : nat_lt e.at v.at ≡ false = grind (arith, h) in rw no_earlier refl

first_finished : (vs : List ValueAt) → NeverFalls (map (λ v. v.at) vs) → finished ops.First (entry_of ops.First vs) ≡ first_of_values (map (λ v. v.value) vs)
first_finished [] r = refl
first_finished (v ∷ vs) (after, rises) = first_with_one v (entry_of ops.First vs) (firsts_from v.at vs after)

last_from : (n : ℕ) (v : ValueAt) (m : Option Entry) → n ≤ v.at → IsPickedFrom n m → IsPickedFrom n (with_one ops.Last v m)
last_from n v None l h = l
last_from n v (Some e) l h = grind (arith, l, h)

lasts_from : (n : ℕ) (vs : List ValueAt) → AllAfter (λ a b. a ≤ b) n (map (λ v. v.at) vs) → IsPickedFrom n (entry_of ops.Last vs)
lasts_from n [] a = tt
lasts_from n (v ∷ vs) (here, later) = last_from n v (entry_of ops.Last vs) here (lasts_from n vs later)

-- of more values behind a first one, that which is picked is one of them
last_with_one : (v w : ValueAt) (m : Option Entry) → IsPickedFrom v.at (with_one ops.Last w m) → finished ops.Last (with_one ops.Last v (with_one ops.Last w m)) ≡ finished ops.Last (with_one ops.Last w m)
last_with_one v w None h = let no_earlier : nat_lt w.at v.at ≡ false = grind (arith, h) in rw no_earlier refl
last_with_one v w (Some e) h =
    let no_earlier : nat_lt (plus_entries ops.Last (one_entry ops.Last w) e).at v.at ≡ false = grind (arith, h) in rw no_earlier refl

last_finished : (vs : List ValueAt) → NeverFalls (map (λ v. v.at) vs) → finished ops.Last (entry_of ops.Last vs) ≡ last_of_values (map (λ v. v.value) vs)
last_finished [] r = refl
last_finished (v ∷ []) r = refl
last_finished (v ∷ w ∷ vs) (after, rises) = last_with_one v w (entry_of ops.Last vs) (lasts_from v.at (w ∷ vs) after) ∙ last_finished (w ∷ vs) rises

in_order : (op : Reduction) (vs : List ValueAt) → NeverFalls (map (λ v. v.at) vs) → finished op (entry_of op vs) ≡ reduction_of op (map (λ v. v.value) vs)
in_order ops.Len vs r = len_finished vs
in_order ops.Sum vs r = sum_finished vs
in_order ops.Min vs r = min_finished vs
in_order ops.Max vs r = max_finished vs
in_order ops.First vs r = first_finished vs r
in_order ops.Last vs r = last_finished vs r

pub reduces_by_place : ReducesByPlace
reduces_by_place op vs = ap (finished op) (sym (entry_of-by_number op vs)) ∙ in_order op (by_number (λ v. v.at) vs) (numbers_rise (λ v. v.at) vs)
