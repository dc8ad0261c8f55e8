-- Sums over the seats of a group, as seats change, are added, or are the group's alone.
use Rattle.std.proofs.Common.{◌≡◌, ℕ, zero, suc, ◌+◌, ◌≤◌, Bool, true, false, List, [], ◌∷◌, ◌++◌, set, sym, refl, ap, arith}
use mathlib.Core.Option.{some, some-injective, some-ne-none}
use lib.ListN.{get_elem?}
use Rattle.morsel_word_groups.specs.declared.view.GroupPart.{GroupPart}
use Rattle.morsel_word_groups.specs.declared.view.GroupPart.TheVariants as part
use Rattle.morsel_word_groups.specs.declared.view.GroupView.{GroupView}
use Rattle.morsel_word_groups.specs.Group.{counts_for, parts_of, groups_in, waits_of, counted_by, shared, grouped, named, total}

-- a seat changes
pub total-set : (f : GroupView → ℕ) (l : List GroupView) (i : ℕ) (v w : GroupView) → get_elem? l i ≡ some v → total f (set l i w) + f v ≡ total f l + f w
total-set f [] i v w e = absurd (some-ne-none v (sym e))
total-set f (x ∷ xs) zero v w e = let is : f x ≡ f v = ap f (some-injective x v e) in omega arith
total-set f (x ∷ xs) (suc i) v w e = let r = total-set f xs i v w e in omega arith

-- a seat is added
pub total-append : (f : GroupView → ℕ) (l : List GroupView) (v : GroupView) → total f (l ++ v ∷ []) ≡ total f l + f v
total-append f [] v = omega arith
total-append f (x ∷ xs) v = let r = total-append f xs v in omega arith

-- each seat has at most the sum
pub total-least : (f : GroupView → ℕ) (l : List GroupView) (i : ℕ) (v : GroupView) → get_elem? l i ≡ some v → f v ≤ total f l
total-least f [] i v e = absurd (some-ne-none v (sym e))
total-least f (x ∷ xs) zero v e = let is : f x ≡ f v = ap f (some-injective x v e) in omega arith
total-least f (x ∷ xs) (suc i) v e = let r = total-least f xs i v e in omega arith

pub total-plus : (f g : GroupView → ℕ) (l : List GroupView) → total (λ v. f v + g v) l ≡ total f l + total g l
total-plus f g [] = refl
total-plus f g (x ∷ xs) = let r = total-plus f g xs in omega arith

-- one sum is within another
pub total-within : (f g : GroupView → ℕ) (l : List GroupView) → ((v : GroupView) → f v ≤ g v) → total f l ≤ total g l
total-within f g [] h = omega arith
total-within f g (x ∷ xs) h = let r = total-within f g xs h in let s = h x in omega arith

module _ (f k : GroupView → ℕ) (quiet : (v : GroupView) → k v ≡ 0 → f v ≡ 0) where
  total-none : (l : List GroupView) → total k l ≡ 0 → total f l ≡ 0
  total-none [] e = refl
  total-none (x ∷ xs) e = let a : k x ≡ 0 = omega arith in let b = quiet x a in let c : total k xs ≡ 0 = omega arith in let r = total-none xs c in omega arith

  -- where no other seat has anything of the one, none has anything of the other
  pub total-alone : (l : List GroupView) (i : ℕ) (v : GroupView) → get_elem? l i ≡ some v → total k l ≡ k v → total f l ≡ f v
  total-alone [] i v at e = absurd (some-ne-none v (sym at))
  total-alone (x ∷ xs) zero v at e =
      let is : k x ≡ k v = ap k (some-injective x v at) in let same : f x ≡ f v = ap f (some-injective x v at) in let c : total k xs ≡ 0 = omega arith in let r = total-none xs c in omega arith
  total-alone (x ∷ xs) (suc i) v at e =
      let least = total-least k xs i v at in let a : k x ≡ 0 = omega arith in let b = quiet x a in let c : total k xs ≡ k v = omega arith in let r = total-alone xs i v at c in omega arith

-- a seat has a part for each token that it counts for
counts-within : (p : GroupPart) (a : Bool) (n : ℕ) → counts_for p a ≤ parts_of p a n
counts-within part.Group a n = omega arith
counts-within part.Token a n = omega arith
counts-within part.Released a n = omega arith

pub counted-within : (l : List GroupView) → total counted_by l ≤ total shared l
counted-within l = total-within counted_by shared l (λ v. counts-within v.part v.added v.spare)

-- a seat that is not the group's and counts for no token has no parts, and no number in the wait word
parts-quiet : (p : GroupPart) (a : Bool) (n : ℕ) → counts_for p a + groups_in p ≡ 0 → parts_of p a n ≡ 0
parts-quiet part.Group a n e = absurd (omega arith)
parts-quiet part.Token false n e = absurd (omega arith)
parts-quiet part.Token true n e = absurd (omega arith)
parts-quiet part.Released a n e = refl

waits-quiet : (p : GroupPart) (n : ℕ) → groups_in p ≡ 0 → waits_of p n ≡ 0
waits-quiet part.Group n e = absurd (omega arith)
waits-quiet part.Token n e = refl
waits-quiet part.Released n e = refl

module _ (l : List GroupView) (i : ℕ) (v : GroupView) (at : get_elem? l i ≡ some v) (group : groups_in v.part ≡ 1) (single : total grouped l ≤ 1) where
  alone : total grouped l ≡ 1
  alone = let least = total-least grouped l i v at in omega arith

  -- where no token is left the group has all parts that there are
  pub shared-alone : counts_for v.part v.added ≡ 0 → total counted_by l ≡ 0 → total shared l ≡ shared v
  shared-alone own none =
      let both = total-plus counted_by grouped l in let one = alone in
      total-alone shared (λ u. counted_by u + grouped u) (λ u e. parts-quiet u.part u.added u.spare e) l i v at (omega arith)

  -- the number of the group is the only one
  pub named-alone : total named l ≡ named v
  named-alone = total-alone named grouped (λ u e. waits-quiet u.part u.waits e) l i v at (let one = alone in omega arith)
