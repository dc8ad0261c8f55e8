-- Columns that are gathered one after the other, and values row by row.
use Rattle.std.proofs.Common.{◌≡◌, ◌<◌, ◌+◌, ◌++◌, [], ◌∷◌, List, ℕ, zero, suc, length, take, get_or, refl, arith, ap, ◌∙◌}
use Rattle.morsel_meaning.specs.declared.value.Value.{Value}
use Rattle.morsel_meaning.specs.declared.value.Field.{Field}
use Rattle.morsel_frame.specs.Columns.{value_at}
use Rattle.morsel_join.specs.declared.rules.JoinColumn.{JoinColumn}
use Rattle.morsel_join.specs.Rows.{first_value, first_values, FitsColumn, FitColumns}

-- the column at a place is one of its side's
pub fits-at : (left right : List Field) (cs : List JoinColumn) (i : ℕ) (d : JoinColumn) → FitColumns left right cs → i < length cs → FitsColumn left right (get_or cs i d)
fits-at left right [] i d fit less = absurd (omega (arith, less))
fits-at left right (c ∷ cs) zero d fit less = fit.0
fits-at left right (c ∷ cs) (suc i) d fit less = fits-at left right cs i d fit.1 (omega (arith, less))

firsts-suc : (as_ bs : List Value) (i : ℕ) → i < length as_ → length bs ≡ length as_ → first_values (take (suc i) as_) (take (suc i) bs) ≡ first_values (take i as_) (take i bs) ++ first_value (value_at as_ i) (value_at bs i) ∷ []
firsts-suc [] bs i less same = absurd (omega (arith, less))
firsts-suc (a ∷ as_) [] i less same = absurd (omega (arith, same))
firsts-suc (a ∷ as_) (b ∷ bs) zero less same = refl
firsts-suc (a ∷ as_) (b ∷ bs) (suc i) less same = ap (λ vs. first_value a b ∷ vs) (firsts-suc as_ bs i (omega (arith, less)) (omega (arith, same)))

-- one value more
pub firsts-more : (as_ bs : List Value) (i : ℕ) → i < length as_ → length bs ≡ length as_ → first_values (take (i + 1) as_) (take (i + 1) bs) ≡ first_values (take i as_) (take i bs) ++ first_value (value_at as_ i) (value_at bs i) ∷ []
firsts-more as_ bs i less same = let next : i + 1 ≡ suc i = omega arith in ap (λ n. first_values (take n as_) (take n bs)) next ∙ firsts-suc as_ bs i less same
