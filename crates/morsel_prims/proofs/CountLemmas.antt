-- What counts of tokens keep.
use Rattle.std.proofs.Common.{◌≡◌, ◌≢◌, ℕ, zero, suc, ◌+◌, ◌<◌, ◌==◌, if◌then◌else◌, Bool, true, false, List, [], ◌∷◌, ◌++◌, length, length-append, length-set, set, slice_get, Some, None, sym, refl, ap, ◌∙◌, subst, arith, ⊎_elim}
use mathlib.Core.Logic.{dite}
use mathlib.Core.Option.{some, some-injective, some-ne-none}
use native.Mathlib.Decide.{ℕ_discrete}
use lib.ListN.{get_elem?}
use Rattle.atomic_table.proofs.Lists.{at_set, at_snoc}
use Rattle.circular_buffer.proofs.Places.{slice_get-set_same, slice_get-set_other, slice_get-last, slice_get-push}
use Rattle.morsel_prims.specs.declared.plain_counts.GroupMark.{GroupMark}
use Rattle.morsel_prims.specs.declared.plain_counts.GroupMark.TheVariants.{Group, Token, Released}
use Rattle.morsel_prims.specs.declared.plain_counts.GroupCount.{GroupCount}
use Rattle.morsel_prims.specs.Counts.{group_of, is_token, count_tokens, waits_if_last, OnlyGroup, AreCounted}

same_number : (n : ℕ) → (n == n) ≡ true
same_number n = Rattle.std.proofs.Common.eq-eqb n n refl

other_number : (m n : ℕ) → m ≢ n → (m == n) ≡ false
other_number m n apart = Rattle.std.proofs.Common.ne_eqb m n apart

pub same_group : (a b : GroupCount) → Some a ≡ Some b → a ≡ b
same_group a b e = cc

-- one where it is so
abbrev pub as_one : Bool → ℕ
as_one true = 1
as_one false = 0

one_more : (b : Bool) (n : ℕ) → (if b then n + 1 else n) ≡ n + as_one b
one_more true n = refl
one_more false n = omega arith

-- one row more
pub count_tokens-append : (i : ℕ) (rows : List (List GroupMark)) (row : List GroupMark) → count_tokens i (rows ++ row ∷ []) ≡ count_tokens i rows + as_one (is_token i row)
count_tokens-append i [] row = one_more (is_token i row) 0
count_tokens-append i (r ∷ rows) row =
    let rest = count_tokens-append i rows row in let more = one_more (is_token i r) (count_tokens i (rows ++ row ∷ [])) in let before = one_more (is_token i r) (count_tokens i rows) in omega arith

-- a row that was no token of the group, and is none
pub count_tokens-other : (i : ℕ) (rows : List (List GroupMark)) (k : ℕ) (row new : List GroupMark) → get_elem? rows k ≡ some row → is_token i row ≡ false → is_token i new ≡ false → count_tokens i (set rows k new) ≡ count_tokens i rows
count_tokens-other i [] k row new at was now = refl
count_tokens-other i (r ∷ rows) zero row new at was now =
    let is : r ≡ row = some-injective r row at in ap (λ b. if b then count_tokens i rows + 1 else count_tokens i rows) (now ∙ sym (ap (is_token i) is ∙ was))
count_tokens-other i (r ∷ rows) (suc k) row new at was now = ap (λ n. if is_token i r then n + 1 else n) (count_tokens-other i rows k row new at was now)

-- a token of the group is one no more
pub count_tokens-less : (i : ℕ) (rows : List (List GroupMark)) (k : ℕ) (row new : List GroupMark) → get_elem? rows k ≡ some row → is_token i row ≡ true → is_token i new ≡ false → count_tokens i rows ≡ count_tokens i (set rows k new) + 1
count_tokens-less i [] k row new at was now = absurd (some-ne-none row (sym at))
count_tokens-less i (r ∷ rows) zero row new at was now =
    let is : r ≡ row = some-injective r row at in
    ap (λ b. if b then count_tokens i rows + 1 else count_tokens i rows) (ap (is_token i) is ∙ was) ∙ ap (λ b. (if b then count_tokens i rows + 1 else count_tokens i rows) + 1) (sym now)
count_tokens-less i (r ∷ rows) (suc k) row new at was now = go (is_token i r) (count_tokens-less i rows k row new at was now)
  where
    go : (b : Bool) → count_tokens i rows ≡ count_tokens i (set rows k new) + 1 → (if b then count_tokens i rows + 1 else count_tokens i rows) ≡ (if b then count_tokens i (set rows k new) + 1 else count_tokens i (set rows k new)) + 1
    go true e = ap (λ n. n + 1) e
    go false e = e

-- a token is of its own group
pub token_of : (i : ℕ) (marks : List GroupMark) → is_token i marks ≡ true → group_of marks ≡ Some i
token_of i [] e = absurd cc
token_of i (Group j ∷ marks) e = absurd cc
token_of i (Token j ∷ []) e = dite (ℕ_discrete j i) (λ same. ap Some same) (λ apart. absurd (false_true (sym (other_number j i apart) ∙ e)))
  where
    false_true : false ≡ true → ⊥
    false_true e = cc
token_of i (Token j ∷ mark ∷ marks) e = absurd cc
token_of i (Released ∷ marks) e = absurd cc

-- no token is of a group that there is not
pub count_tokens-beyond : (i : ℕ) (rows : List (List GroupMark)) → ((k : ℕ) (marks : List GroupMark) → get_elem? rows k ≡ some marks → is_token i marks ≡ true → ⊥) → count_tokens i rows ≡ 0
count_tokens-beyond i [] none = refl
count_tokens-beyond i (r ∷ rows) none = go (is_token i r) refl (count_tokens-beyond i rows (λ k. none (suc k)))
  where
    go : (b : Bool) → is_token i r ≡ b → count_tokens i rows ≡ 0 → (if is_token i r then count_tokens i rows + 1 else count_tokens i rows) ≡ 0
    go true is rest = absurd (none 0 r refl is)
    go false is rest = ap (λ b. if b then count_tokens i rows + 1 else count_tokens i rows) is ∙ rest

-- a group comes last
pub group_added : (rows : List (List GroupMark)) (groups : List GroupCount) (g : GroupCount) → AreCounted rows groups → g.count ≡ 0 → AreCounted (rows ++ (Group (length groups) ∷ []) ∷ []) (groups ++ g ∷ [])
group_added rows groups g kept none = record {
  within = λ k i marks at is. let longer = length-append groups (g ∷ []) in ⊎_elim (λ was. let small = kept.within k i marks was is in omega arith)
      (λ new. let last : Some (length groups) ≡ Some i = ap group_of new ∙ is in let e = some_number (length groups) i last in omega arith)
      (at_snoc rows (Group (length groups) ∷ []) marks k at);
  counts = λ i h is. let same = count_tokens-append i rows (Group (length groups) ∷ []) in dite (ℕ_discrete i (length groups))
      (λ last. let is_g : g ≡ h = same_group g h (sym (slice_get-last groups g i last) ∙ is) in let zero_of = ap (λ z. z.count) is_g in
      let beyond = count_tokens-beyond i rows (λ k marks at token. let small = kept.within k i marks at (token_of i marks token) in absurd (omega arith)) in omega arith)
      (λ apart. let was = kept.counts i h (sym (slice_get-push groups g i apart) ∙ is) in omega arith);
}
  where
    some_number : (m n : ℕ) → Some m ≡ Some n → m ≡ n
    some_number m n e = cc

-- a token is made
pub token_added : (rows : List (List GroupMark)) (groups : List GroupCount) (i : ℕ) (was g : GroupCount) → AreCounted rows groups → i < length groups → slice_get groups i ≡ Some was → g.count ≡ was.count + 1 → AreCounted (rows ++ (Token i ∷ []) ∷ []) (set groups i g)
token_added rows groups i was g kept small there more = record {
  within = λ k j marks at is. let same = length-set groups i g in ⊎_elim (λ before. let within = kept.within k j marks before is in omega arith)
      (λ new. let last : Some i ≡ Some j = ap group_of new ∙ is in let e = some_number i j last in omega arith)
      (at_snoc rows (Token i ∷ []) marks k at);
  counts = λ j h is. let all = count_tokens-append j rows (Token i ∷ []) in dite (ℕ_discrete j i)
      (λ e. let is_g : g ≡ h = same_group g h (sym (slice_get-set_same groups i g small) ∙ subst (λ (n : ℕ). slice_get (set groups i g) n ≡ Some h) e is) in let of_h = ap (λ z. z.count) is_g in
      let before = kept.counts j was (ap (slice_get groups) e ∙ there) in
      let one : as_one (is_token j (Token i ∷ [])) ≡ 1 = ap as_one (ap (λ n. i == n) e ∙ same_number i) in omega arith)
      (λ apart. let before = kept.counts j h (sym (slice_get-set_other groups i j g apart) ∙ is) in
      let none : as_one (is_token j (Token i ∷ [])) ≡ 0 = ap as_one (other_number i j (λ e. apart (sym e))) in omega arith);
}
  where
    some_number : (m n : ℕ) → Some m ≡ Some n → m ≡ n
    some_number m n e = cc

-- a token is released
pub token_released : (rows : List (List GroupMark)) (groups : List GroupCount) (k i : ℕ) (was g : GroupCount) → AreCounted rows groups → get_elem? rows k ≡ some (Token i ∷ []) → i < length groups → slice_get groups i ≡ Some was → was.count ≡ g.count + 1 → AreCounted (set rows k ((Token i ∷ []) ++ Released ∷ [])) (set groups i g)
token_released rows groups k i was g kept at small there less = record {
  within = λ p j marks here is. let same = length-set groups i g in ⊎_elim
      (λ new. let e = some_number i j (ap group_of new.1 ∙ is) in omega arith)
      (λ before. let within = kept.within p j marks before.1 is in omega arith)
      (at_set rows k p ((Token i ∷ []) ++ Released ∷ []) marks here);
  counts = λ j h is. dite (ℕ_discrete j i)
      (λ e. let is_g : g ≡ h = same_group g h (sym (slice_get-set_same groups i g small) ∙ subst (λ (n : ℕ). slice_get (set groups i g) n ≡ Some h) e is) in let of_h = ap (λ z. z.count) is_g in
      let before = kept.counts j was (ap (slice_get groups) e ∙ there) in
      let one = count_tokens-less j rows k (Token i ∷ []) ((Token i ∷ []) ++ Released ∷ []) at (ap (λ n. i == n) e ∙ same_number i) refl in omega arith)
      (λ apart. let before = kept.counts j h (sym (slice_get-set_other groups i j g apart) ∙ is) in
      let none = count_tokens-other j rows k (Token i ∷ []) ((Token i ∷ []) ++ Released ∷ []) at (other_number i j (λ e. apart (sym e))) refl in omega arith);
}
  where
    some_number : (m n : ℕ) → Some m ≡ Some n → m ≡ n
    some_number m n e = cc

-- there is a token where one is to be released
pub counts_token : (rows : List (List GroupMark)) (groups : List GroupCount) (k i : ℕ) (was : GroupCount) → AreCounted rows groups → get_elem? rows k ≡ some (Token i ∷ []) → slice_get groups i ≡ Some was → 0 < was.count
counts_token rows groups k i was kept at there =
    let before = kept.counts i was there in let one = count_tokens-less i rows k (Token i ∷ []) ((Token i ∷ []) ++ Released ∷ []) at (same_number i) refl in omega arith

-- group i has one token more, which has written that it is one
pub one_token_more : (rows now : List (List GroupMark)) (groups : List GroupCount) (i : ℕ) (was g : GroupCount) → now ≡ rows ++ (Token i ∷ []) ∷ [] → AreCounted rows groups → i < length groups → slice_get groups i ≡ Some was → g.count ≡ was.count + 1 → AreCounted now (set groups i g)
one_token_more rows now groups i was g same kept small there more = subst (λ rs. AreCounted rs (set groups i g)) (sym same) (token_added rows groups i was g kept small there more)

-- group i has one token less, which has written that it was released
pub one_token_less : (rows now : List (List GroupMark)) (groups : List GroupCount) (k i : ℕ) (row : List GroupMark) (was g : GroupCount) → now ≡ set rows k (row ++ Released ∷ []) → row ≡ Token i ∷ [] → AreCounted rows groups → get_elem? rows k ≡ some (Token i ∷ []) → i < length groups → slice_get groups i ≡ Some was → was.count ≡ g.count + 1 → AreCounted now (set groups i g)
one_token_less rows now groups k i row was g same token kept at small there less = subst (λ rs. AreCounted rs (set groups i g)) (sym (same ∙ ap (λ z. set rows k (z ++ Released ∷ [])) token)) (token_released rows groups k i was g kept at small there less)

-- who waits is no part of a count
pub group_waits : (rows : List (List GroupMark)) (groups : List GroupCount) (i : ℕ) (was g : GroupCount) → AreCounted rows groups → i < length groups → slice_get groups i ≡ Some was → g.count ≡ was.count → AreCounted rows (set groups i g)
group_waits rows groups i was g kept small there same = record {
  within = λ k j marks at is. let long = length-set groups i g in let within = kept.within k j marks at is in omega arith;
  counts = λ j h is. dite (ℕ_discrete j i)
      (λ e. let is_g : g ≡ h = same_group g h (sym (slice_get-set_same groups i g small) ∙ subst (λ (n : ℕ). slice_get (set groups i g) n ≡ Some h) e is) in let of_h = ap (λ z. z.count) is_g in
      let before = kept.counts j was (ap (slice_get groups) e ∙ there) in omega arith)
      (λ apart. kept.counts j h (sym (slice_get-set_other groups i j g apart) ∙ is));
}

-- who waits for the last token
pub waits-last : (g : GroupCount) → g.count ≡ 1 → waits_if_last (Some g) ≡ g.waits
waits-last g one = ap (λ b. if b then g.waits else None) (Rattle.std.proofs.Common.eq-eqb g.count 1 one)

-- who waits for a token that is not the last one
pub waits-more : (g : GroupCount) → g.count ≢ 1 → waits_if_last (Some g) ≡ None
waits-more g more = ap (λ b. if b then g.waits else None) (Rattle.std.proofs.Common.ne_eqb g.count 1 more)

-- nobody waits where the last token was released
pub left-last : (g : GroupCount) → g.count ≡ 1 → None ≡ (if g.count == 1 then None else g.waits)
left-last g one = sym (ap (λ b. if b then None else g.waits) (Rattle.std.proofs.Common.eq-eqb g.count 1 one))

-- who waits still does where a token is left
pub left-more : (g : GroupCount) → g.count ≢ 1 → g.waits ≡ (if g.count == 1 then None else g.waits)
left-more g more = sym (ap (λ b. if b then None else g.waits) (Rattle.std.proofs.Common.ne_eqb g.count 1 more))

-- at most group i has changed
pub only_group : (groups : List GroupCount) (i : ℕ) (g : GroupCount) → OnlyGroup i groups (set groups i g)
only_group groups i g j apart = slice_get-set_other groups i j g apart

-- no other group has changed
pub only_last : (groups : List GroupCount) (g : GroupCount) → OnlyGroup (length groups) groups (groups ++ g ∷ [])
only_last groups g j apart = slice_get-push groups g j apart
