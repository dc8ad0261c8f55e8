-- A task of one of three kinds.
use Rattle.std.specs.Prelude.{List, [], ◌∷◌}
use Rattle.morsel_stage.specs.declared.one_of.OneOf.{OneOf}
use Rattle.morsel_stage.specs.declared.one_of.OneOf.TheVariants.{First, Second, Third}

-- what is so of a task, by its kind
abbrev pub ByKind : {A M Z : Type 0} → OneOf A M Z → (A → Type 0) → (M → Type 0) → (Z → Type 0) → Type 0
ByKind (First task) P Q R = P task
ByKind (Second task) P Q R = Q task
ByKind (Third task) P Q R = R task

-- what is so of two of one kind
abbrev pub ByKinds : {A M Z X Y W : Type 0} → OneOf A M Z → OneOf X Y W → (A → X → Type 0) → (M → Y → Type 0) → (Z → W → Type 0) → Type 0
ByKinds (First one) (First other) P Q R = P one other
ByKinds (Second one) (Second other) P Q R = Q one other
ByKinds (Third one) (Third other) P Q R = R one other
ByKinds (First one) (Second other) P Q R = ⊥
ByKinds (First one) (Third other) P Q R = ⊥
ByKinds (Second one) (First other) P Q R = ⊥
ByKinds (Second one) (Third other) P Q R = ⊥
ByKinds (Third one) (First other) P Q R = ⊥
ByKinds (Third one) (Second other) P Q R = ⊥

-- what a task has, by its kind
abbrev pub by_kind : {A M Z X : Type 0} → OneOf A M Z → (A → X) → (M → X) → (Z → X) → X
by_kind (First task) f g h = f task
by_kind (Second task) f g h = g task
by_kind (Third task) f g h = h task

-- those of the first kind, in their order
abbrev pub firsts : {A M Z : Type 0} → List (OneOf A M Z) → List A
firsts [] = []
firsts (First task ∷ tasks) = task ∷ firsts tasks
firsts (Second task ∷ tasks) = firsts tasks
firsts (Third task ∷ tasks) = firsts tasks

-- those of the second kind, in their order
abbrev pub seconds : {A M Z : Type 0} → List (OneOf A M Z) → List M
seconds [] = []
seconds (First task ∷ tasks) = seconds tasks
seconds (Second task ∷ tasks) = task ∷ seconds tasks
seconds (Third task ∷ tasks) = seconds tasks

-- those of the third kind, in their order
abbrev pub thirds : {A M Z : Type 0} → List (OneOf A M Z) → List Z
thirds [] = []
thirds (First task ∷ tasks) = thirds tasks
thirds (Second task ∷ tasks) = thirds tasks
thirds (Third task ∷ tasks) = task ∷ thirds tasks
