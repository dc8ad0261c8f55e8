-- A task of one of two kinds.
use Rattle.std.specs.Prelude.{List, [], ◌∷◌}
use Rattle.morsel_pair.specs.declared.two_of.TwoOf.{TwoOf}
use Rattle.morsel_pair.specs.declared.two_of.TwoOf.TheVariants.{First, Second}

-- what is so of a task, by its kind
abbrev pub ByEither : {A Z : Type 0} → TwoOf A Z → (A → Type 0) → (Z → Type 0) → Type 0
ByEither (First task) P Q = P task
ByEither (Second task) P Q = Q task

-- what is so of two of one kind
abbrev pub ByEithers : {A Z X Y : Type 0} → TwoOf A Z → TwoOf X Y → (A → X → Type 0) → (Z → Y → Type 0) → Type 0
ByEithers (First one) (First other) P Q = P one other
ByEithers (Second one) (Second other) P Q = Q one other
ByEithers (First one) (Second other) P Q = ⊥
ByEithers (Second one) (First other) P Q = ⊥

-- what a task has, by its kind
abbrev pub by_either : {A Z X : Type 0} → TwoOf A Z → (A → X) → (Z → X) → X
by_either (First task) f g = f task
by_either (Second task) f g = g task

-- those of the first kind, in their order
abbrev pub firsts_of_two : {A Z : Type 0} → List (TwoOf A Z) → List A
firsts_of_two [] = []
firsts_of_two (First task ∷ tasks) = task ∷ firsts_of_two tasks
firsts_of_two (Second task ∷ tasks) = firsts_of_two tasks

-- those of the second kind, in their order
abbrev pub seconds_of_two : {A Z : Type 0} → List (TwoOf A Z) → List Z
seconds_of_two [] = []
seconds_of_two (First task ∷ tasks) = seconds_of_two tasks
seconds_of_two (Second task ∷ tasks) = task ∷ seconds_of_two tasks
