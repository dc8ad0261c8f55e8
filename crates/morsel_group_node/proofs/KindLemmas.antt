-- What a task of one of two kinds may end with.
use Rattle.std.proofs.Common.{◌≡◌, sym, subst}
use Rattle.morsel_pair.specs.declared.two_of.TwoOf.{TwoOf}
use Rattle.morsel_pair.specs.declared.two_of.TwoOf.TheVariants.{First, Second}
use Rattle.morsel_pair.specs.Pairs.{ByEithers}

module _ {A Z X Y : Type 0} (P : A → X → Type 0) (Q : Z → Y → Type 0) where
  abbrev first_kind : A → TwoOf A Z
  first_kind task = First task

  abbrev second_kind : Z → TwoOf A Z
  second_kind task = Second task

  first_before : (now before : A) → ((o : X) → P now o → P before o) → (out : TwoOf X Y) → ByEithers (first_kind now) out P Q → ByEithers (first_kind before) out P Q
  first_before now before then (First o) is = then o is
  first_before now before then (Second o) is = absurd is

  second_before : (now before : Z) → ((o : Y) → Q now o → Q before o) → (out : TwoOf X Y) → ByEithers (second_kind now) out P Q → ByEithers (second_kind before) out P Q
  second_before now before then (Second o) is = then o is
  second_before now before then (First o) is = absurd is

  -- what a task may still end with, it could end with before
  pub first_still : (old : TwoOf A Z) (now before : A) → old ≡ First before → ((o : X) → P now o → P before o) → (out : TwoOf X Y) → ByEithers (first_kind now) out P Q → ByEithers old out P Q
  first_still old now before is then out gives = subst (λ (t : TwoOf A Z). ByEithers t out P Q) (sym is) (first_before now before then out gives)

  pub second_still : (old : TwoOf A Z) (now before : Z) → old ≡ Second before → ((o : Y) → Q now o → Q before o) → (out : TwoOf X Y) → ByEithers (second_kind now) out P Q → ByEithers old out P Q
  second_still old now before is then out gives = subst (λ (t : TwoOf A Z). ByEithers t out P Q) (sym is) (second_before now before then out gives)
