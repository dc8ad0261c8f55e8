-- Schemas that do not differ are the same.
use Rattle.std.proofs.Common.{◌≡◌, ℕ, Bool, true, false, ◌&&◌, ◌==◌, if◌then◌else◌, Some, None, List, [], ◌∷◌, length, refl, ap, ◌∙◌, arith}
use Rattle.std.proofs.lemmas.Bool.{eqb-true}
use Rattle.std.proofs.lemmas.Slice.Eq.{bytes_eq-Decides}
use Rattle.std.specs.Str.{bytes_eq}
use Rattle.morsel_meaning.specs.declared.value.ColType.{ColType}
use Rattle.morsel_meaning.specs.declared.value.ColType.TheVariants as types
use Rattle.morsel_meaning.specs.declared.value.Field.{Field}
use Rattle.morsel_frame.specs.Tables.{same_kind, same_field, first_difference, difference}

kind-same : (a b : ColType) → same_kind a b ≡ true → a ≡ b
kind-same types.Int types.Int same = refl
kind-same types.Int types.Bool same = cc
kind-same types.Int types.Text same = cc
kind-same types.Bool types.Int same = cc
kind-same types.Bool types.Bool same = refl
kind-same types.Bool types.Text same = cc
kind-same types.Text types.Int same = cc
kind-same types.Text types.Bool same = cc
kind-same types.Text types.Text same = refl

both : (a b : Bool) → (a && b) ≡ true → (a ≡ true) × (b ≡ true)
both true b holds = (refl, holds)
both false b holds = cc

-- a field of this name and type
abbrev of_parts : List ℕ → ColType → Field
of_parts name kind = record { name = name; kind = kind }

field-same : (a b : Field) → same_field a b ≡ true → a ≡ b
field-same a b same =
    let parts = both (bytes_eq a.name b.name) (same_kind a.kind b.kind) same in
    ap (λ n. of_parts n a.kind) ((bytes_eq-Decides a.name b.name).0 parts.0) ∙ ap (of_parts b.name) (kind-same a.kind b.kind parts.1)

step-same : (t : Bool) (name : List ℕ) (fields others : List Field) → (if t then first_difference fields others else Some name) ≡ None → (t ≡ true) × (first_difference fields others ≡ None)
step-same true name fields others none = (refl, none)
step-same false name fields others none = cc

lists-same : (fields others : List Field) → length fields ≡ length others → first_difference fields others ≡ None → fields ≡ others
lists-same [] [] lens none = refl
lists-same [] (other ∷ others) lens none = absurd (omega arith)
lists-same (field ∷ fields) [] lens none = absurd (omega arith)
lists-same (field ∷ fields) (other ∷ others) lens none =
    let step = step-same (same_field field other) field.name fields others none in
    ap (λ f. f ∷ fields) (field-same field other step.0)
    ∙ ap (λ fs. other ∷ fs) (lists-same fields others (omega arith) step.1)

by-lengths : (t : Bool) (fields others : List Field) → (length fields == length others) ≡ t → (if t then first_difference fields others else Some []) ≡ None → fields ≡ others
by-lengths true fields others lens none = lists-same fields others (eqb-true (length fields) (length others) lens) none
by-lengths false fields others lens none = cc

-- schemas without a difference
pub same-fields : (fields others : List Field) → difference fields others ≡ None → fields ≡ others
same-fields fields others none = by-lengths (length fields == length others) fields others refl none
