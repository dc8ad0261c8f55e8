-- Lists that are made of others, each in its own order.
use Rattle.std.proofs.Common.{◌≡◌, ◌++◌, [], ◌∷◌, List, ℕ, ◌+◌, sym, ap, refl, arith, inl, inr}
use Rattle.std.specs.List.{sum_by, flat_map}
use Rattle.std.proofs.lemmas.List.Sums.{sum_by-append, sum_by-cons}
use Rattle.morsel_meaning.specs.Sequences.{Interleaves, InterleavesAll}
use Rattle.morsel_meaning.specs.ListLaws.{InterleavesOften, InterleavesGrowing}

weighs_both : {X : Type 0} (weight : X → ℕ) (xs ys whole : List X) → Interleaves xs ys whole → sum_by weight xs + sum_by weight ys ≡ sum_by weight whole
weighs_both weight xs ys [] (first, second) = let a = ap (sum_by weight) first in let b = ap (sum_by weight) second in omega (arith, a, b)
weighs_both weight xs ys (x ∷ whole) (inl (rest, is, made)) =
    let a = ap (sum_by weight) is in let b = sum_by-cons weight x rest in let c = weighs_both weight rest ys whole made in
    let d = sum_by-cons weight x whole in omega (arith, a, b, c, d)
weighs_both weight xs ys (x ∷ whole) (inr (rest, is, made)) =
    let a = ap (sum_by weight) is in let b = sum_by-cons weight x rest in let c = weighs_both weight xs rest whole made in
    let d = sum_by-cons weight x whole in omega (arith, a, b, c, d)

pub interleaves_often : {X : Type 0} → InterleavesOften X
interleaves_often {X} = λ lists whole made weight. weighs X weight lists whole made
  where
    weighs : (X : Type 0) (weight : X → ℕ) (lists : List (List X)) (whole : List X) → InterleavesAll lists whole
        → sum_by weight (flat_map (λ xs. xs) lists) ≡ sum_by weight whole
    weighs X weight [] whole made = ap (sum_by weight) (sym made)
    weighs X weight (xs ∷ lists) whole (others, made, both) =
        let a = sum_by-append weight xs (flat_map (λ ys. ys) lists) in let b = weighs X weight lists others made in
        let c = weighs_both weight xs others whole both in omega (arith, a, b, c)

grows_first : {X : Type 0} (xs ys whole : List X) (x : X) → Interleaves xs ys whole → Interleaves (xs ++ (x ∷ [])) ys (whole ++ (x ∷ []))
grows_first xs ys [] x (first, second) = inl ([], ap (λ zs. zs ++ (x ∷ [])) first, (refl, second))
grows_first xs ys (w ∷ whole) x (inl (rest, is, made)) = inl (rest ++ (x ∷ []), ap (λ zs. zs ++ (x ∷ [])) is, grows_first rest ys whole x made)
grows_first xs ys (w ∷ whole) x (inr (rest, is, made)) = inr (rest, is, grows_first xs rest whole x made)

grows_second : {X : Type 0} (xs ys whole : List X) (x : X) → Interleaves xs ys whole → Interleaves xs (ys ++ (x ∷ [])) (whole ++ (x ∷ []))
grows_second xs ys [] x (first, second) = inr ([], ap (λ zs. zs ++ (x ∷ [])) second, (first, refl))
grows_second xs ys (w ∷ whole) x (inl (rest, is, made)) = inl (rest, is, grows_second rest ys whole x made)
grows_second xs ys (w ∷ whole) x (inr (rest, is, made)) = inr (rest ++ (x ∷ []), ap (λ zs. zs ++ (x ∷ [])) is, grows_second xs rest whole x made)

pub interleaves_growing : {X : Type 0} → InterleavesGrowing X
interleaves_growing {X} = λ before xs others whole x made. grows X before xs others whole x made
  where
    grows : (X : Type 0) (before : List (List X)) (xs : List X) (others : List (List X)) (whole : List X) (x : X)
        → InterleavesAll (before ++ (xs ∷ others)) whole → InterleavesAll (before ++ ((xs ++ (x ∷ [])) ∷ others)) (whole ++ (x ∷ []))
    grows X [] xs others whole x (rest, made, both) = (rest, made, grows_first xs rest whole x both)
    grows X (ys ∷ before) xs others whole x (rest, made, both) = (rest ++ (x ∷ []), grows X before xs others rest x made, grows_second ys rest whole x both)
