-- Tasks of two kinds, put together.
use Rattle.std.proofs.Common.{◌≡◌, zero, All, List, [], ◌∷◌, ◌++◌, ap, ◌∙◌, arith}
use Rattle.std.proofs.lemmas.List.Elements.{All-cons, All-tail}
use Rattle.morsel_pair.specs.declared.two_of.TwoOf.{TwoOf}
use Rattle.morsel_pair.specs.declared.two_of.TwoOf.TheVariants.{First, Second}
use Rattle.morsel_pair.specs.Pairs.{ByEither, firsts_of_two, seconds_of_two}

-- where all of the first kind are so, and all of the second, all are
pub all_of_two : {A Z : Type 0} (P : A → Type 0) (Q : Z → Type 0) (tasks : List (TwoOf A Z)) → All P (firsts_of_two tasks) → All Q (seconds_of_two tasks) → All (λ (task : TwoOf A Z). ByEither task P Q) tasks
all_of_two P Q [] firsts seconds = λ k d lt. absurd (omega (arith, lt))
all_of_two {A} {Z} P Q (First task ∷ tasks) firsts seconds =
    All-cons (λ (task : TwoOf A Z). ByEither task P Q) (First task) tasks (firsts zero task (omega arith)) (all_of_two P Q tasks (All-tail P task (firsts_of_two tasks) firsts) seconds)
all_of_two {A} {Z} P Q (Second task ∷ tasks) firsts seconds =
    All-cons (λ (task : TwoOf A Z). ByEither task P Q) (Second task) tasks (seconds zero task (omega arith)) (all_of_two P Q tasks firsts (All-tail Q task (seconds_of_two tasks) seconds))

-- tasks of the first kind are added to none, and then tasks of the second kind
pub added_both : {A Z : Type 0} (none one two : List (TwoOf A Z)) (firsts : List A) (seconds : List Z) → none ≡ [] → firsts_of_two one ≡ firsts_of_two none ++ firsts → seconds_of_two one ≡ seconds_of_two none
    → seconds_of_two two ≡ seconds_of_two one ++ seconds → firsts_of_two two ≡ firsts_of_two one → (firsts_of_two two ≡ firsts) × (seconds_of_two two ≡ seconds)
added_both {A} {Z} none one two firsts seconds is first no_second second same = (
  same ∙ first ∙ ap (λ (xs : List (TwoOf A Z)). firsts_of_two xs ++ firsts) is,
  second ∙ ap (λ (xs : List Z). xs ++ seconds) (no_second ∙ ap seconds_of_two is),
)
