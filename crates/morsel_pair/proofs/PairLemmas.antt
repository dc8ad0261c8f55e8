-- Tasks of two kinds, one after the other.
use Rattle.std.proofs.Common.{◌≡◌, List, [], ◌∷◌, ◌++◌, refl, ap, sym, subst, ◌∙◌}
use Rattle.morsel_pair.specs.declared.two_of.TwoOf.{TwoOf}
use Rattle.morsel_pair.specs.declared.two_of.TwoOf.TheVariants.{First, Second}
use Rattle.morsel_pair.specs.Pairs.{ByEithers, firsts_of_two, seconds_of_two}

module _ {A Z : Type 0} where
  pub two_firsts_more : (xs ys : List (TwoOf A Z)) → firsts_of_two (xs ++ ys) ≡ firsts_of_two xs ++ firsts_of_two ys
  two_firsts_more [] ys = refl
  two_firsts_more (First x ∷ xs) ys = ap (λ zs. x ∷ zs) (two_firsts_more xs ys)
  two_firsts_more (Second x ∷ xs) ys = two_firsts_more xs ys

  pub two_seconds_more : (xs ys : List (TwoOf A Z)) → seconds_of_two (xs ++ ys) ≡ seconds_of_two xs ++ seconds_of_two ys
  two_seconds_more [] ys = refl
  two_seconds_more (First x ∷ xs) ys = two_seconds_more xs ys
  two_seconds_more (Second x ∷ xs) ys = ap (λ zs. x ∷ zs) (two_seconds_more xs ys)

-- of a task whose output is of one kind, and of what its stage owes before and after it was given back
module _ {A Z X Y : Type 0} (GA : A → X → Type 0) (GZ : Z → Y → Type 0) where
  pub two_first_owed : (P : List A → Type 0) (before after : List (TwoOf A Z)) (task : TwoOf A Z) (o : TwoOf X Y) (out : X) → o ≡ First out → P (firsts_of_two (before ++ task ∷ after)) → ByEithers task o GA GZ
      → (front : List A) × (behind : List A) × (unit : A) × P (front ++ unit ∷ behind) × GA unit out
  two_first_owed P before after task o out is owed gave = by task owed (subst (λ (x : TwoOf X Y). ByEithers task x GA GZ) is gave)
    where
      by : (task : TwoOf A Z) → P (firsts_of_two (before ++ task ∷ after)) → ByEithers task (First out) GA GZ → (front : List A) × (behind : List A) × (unit : A) × P (front ++ unit ∷ behind) × GA unit out
      by (First unit) owed gave = (firsts_of_two before, firsts_of_two after, unit, subst P (two_firsts_more before (First unit ∷ after)) owed, gave)
      by (Second unit) owed gave = absurd gave

  pub two_second_owed : (P : List Z → Type 0) (before after : List (TwoOf A Z)) (task : TwoOf A Z) (o : TwoOf X Y) (out : Y) → o ≡ Second out → P (seconds_of_two (before ++ task ∷ after)) → ByEithers task o GA GZ
      → (front : List Z) × (behind : List Z) × (unit : Z) × P (front ++ unit ∷ behind) × GZ unit out
  two_second_owed P before after task o out is owed gave = by task owed (subst (λ (x : TwoOf X Y). ByEithers task x GA GZ) is gave)
    where
      by : (task : TwoOf A Z) → P (seconds_of_two (before ++ task ∷ after)) → ByEithers task (Second out) GA GZ → (front : List Z) × (behind : List Z) × (unit : Z) × P (front ++ unit ∷ behind) × GZ unit out
      by (First unit) owed gave = absurd gave
      by (Second unit) owed gave = (seconds_of_two before, seconds_of_two after, unit, subst P (two_seconds_more before (Second unit ∷ after)) owed, gave)

  pub two_first_back : (P : List A → Type 0) (Q : List Z → Type 0) (P' : List A → Type 0) (before after : List (TwoOf A Z)) (task : TwoOf A Z) (o : TwoOf X Y) (out : X) → o ≡ First out → P (firsts_of_two (before ++ task ∷ after)) → Q (seconds_of_two (before ++ task ∷ after)) → ByEithers task o GA GZ
      → ((front behind : List A) (unit : A) → P (front ++ unit ∷ behind) → GA unit out → P' (front ++ behind)) → P' (firsts_of_two (before ++ after)) × Q (seconds_of_two (before ++ after))
  two_first_back P Q P' before after task o out is first second gave back = by task first second (subst (λ (x : TwoOf X Y). ByEithers task x GA GZ) is gave)
    where
      by : (task : TwoOf A Z) → P (firsts_of_two (before ++ task ∷ after)) → Q (seconds_of_two (before ++ task ∷ after)) → ByEithers task (First out) GA GZ → P' (firsts_of_two (before ++ after)) × Q (seconds_of_two (before ++ after))
      by (First unit) first second gave = (
        subst P' (sym (two_firsts_more before after)) (back (firsts_of_two before) (firsts_of_two after) unit (subst P (two_firsts_more before (First unit ∷ after)) first) gave),
        subst Q (two_seconds_more before (First unit ∷ after) ∙ sym (two_seconds_more before after)) second,
      )
      by (Second unit) first second gave = absurd gave

  pub two_second_back : (P : List A → Type 0) (Q : List Z → Type 0) (Q' : List Z → Type 0) (before after : List (TwoOf A Z)) (task : TwoOf A Z) (o : TwoOf X Y) (out : Y) → o ≡ Second out → P (firsts_of_two (before ++ task ∷ after)) → Q (seconds_of_two (before ++ task ∷ after)) → ByEithers task o GA GZ
      → ((front behind : List Z) (unit : Z) → Q (front ++ unit ∷ behind) → GZ unit out → Q' (front ++ behind)) → P (firsts_of_two (before ++ after)) × Q' (seconds_of_two (before ++ after))
  two_second_back P Q Q' before after task o out is first second gave back = by task first second (subst (λ (x : TwoOf X Y). ByEithers task x GA GZ) is gave)
    where
      by : (task : TwoOf A Z) → P (firsts_of_two (before ++ task ∷ after)) → Q (seconds_of_two (before ++ task ∷ after)) → ByEithers task (Second out) GA GZ → P (firsts_of_two (before ++ after)) × Q' (seconds_of_two (before ++ after))
      by (First unit) first second gave = absurd gave
      by (Second unit) first second gave = (
        subst P (two_firsts_more before (Second unit ∷ after) ∙ sym (two_firsts_more before after)) first,
        subst Q' (sym (two_seconds_more before after)) (back (seconds_of_two before) (seconds_of_two after) unit (subst Q (two_seconds_more before (Second unit ∷ after)) second) gave),
      )
