-- What a task of one of three kinds may end with.
use Rattle.std.proofs.Common.{◌≡◌, sym, subst}
use Rattle.morsel_stage.specs.declared.one_of.OneOf.{OneOf}
use Rattle.morsel_stage.specs.declared.one_of.OneOf.TheVariants.{First, Second, Third}
use Rattle.morsel_stage.specs.Kinds.{ByKinds}

module _ {A M Z X Y W : Type 0} (P : A → X → Type 0) (Q : M → Y → Type 0) (R : Z → W → Type 0) where
  abbrev first_kind : A → OneOf A M Z
  first_kind task = First task

  abbrev second_kind : M → OneOf A M Z
  second_kind task = Second task

  abbrev third_kind : Z → OneOf A M Z
  third_kind task = Third task

  first_before : (now before : A) → ((o : X) → P now o → P before o) → (out : OneOf X Y W) → ByKinds (first_kind now) out P Q R → ByKinds (first_kind before) out P Q R
  first_before now before then (First o) is = then o is
  first_before now before then (Second o) is = absurd is
  first_before now before then (Third o) is = absurd is

  second_before : (now before : M) → ((o : Y) → Q now o → Q before o) → (out : OneOf X Y W) → ByKinds (second_kind now) out P Q R → ByKinds (second_kind before) out P Q R
  second_before now before then (Second o) is = then o is
  second_before now before then (First o) is = absurd is
  second_before now before then (Third o) is = absurd is

  third_before : (now before : Z) → ((o : W) → R now o → R before o) → (out : OneOf X Y W) → ByKinds (third_kind now) out P Q R → ByKinds (third_kind before) out P Q R
  third_before now before then (Third o) is = then o is
  third_before now before then (First o) is = absurd is
  third_before now before then (Second o) is = absurd is

  -- what a task may still end with, it could end with before
  pub first_still : (old : OneOf A M Z) (now before : A) → old ≡ First before → ((o : X) → P now o → P before o) → (out : OneOf X Y W) → ByKinds (first_kind now) out P Q R → ByKinds old out P Q R
  first_still old now before is then out gives = subst (λ (t : OneOf A M Z). ByKinds t out P Q R) (sym is) (first_before now before then out gives)

  pub second_still : (old : OneOf A M Z) (now before : M) → old ≡ Second before → ((o : Y) → Q now o → Q before o) → (out : OneOf X Y W) → ByKinds (second_kind now) out P Q R → ByKinds old out P Q R
  second_still old now before is then out gives = subst (λ (t : OneOf A M Z). ByKinds t out P Q R) (sym is) (second_before now before then out gives)

  pub third_still : (old : OneOf A M Z) (now before : Z) → old ≡ Third before → ((o : W) → R now o → R before o) → (out : OneOf X Y W) → ByKinds (third_kind now) out P Q R → ByKinds old out P Q R
  third_still old now before is then out gives = subst (λ (t : OneOf A M Z). ByKinds t out P Q R) (sym is) (third_before now before then out gives)
