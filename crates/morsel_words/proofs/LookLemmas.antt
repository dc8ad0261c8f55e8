-- What a receiver's look has found, once its bits are known.
use Rattle.std.proofs.Common.{◌≡◌, ℕ, Bool, true, false, List, [], ◌∷◌, sym, ap, ◌∙◌, subst, Option, Some, None, Err}
use Rattle.std.specs.Prelude.{IfSome}
use Rattle.morsel_prims.specs.declared.lane.RecvError.{RecvError}
use Rattle.morsel_words.specs.declared.view.Found.{Found}
use Rattle.morsel_words.specs.declared.view.Found.TheVariants as found
use Rattle.morsel_words.specs.declared.view.Taking.TheVariants as taking
use Rattle.morsel_words.specs.Steps.{AtLane}
use Rattle.morsel_words.specs.TakeSteps.{takes_at, take_noted, LookedToTake, AnsweredLook, why_no_value}

-- the value in the slot that was taken last, where it has one
abbrev value_in : {T : Type 0} → T → List (ℕ × Option T) → T
value_in x [] = x
value_in x ((k, None) ∷ c) = x
value_in x ((k, Some y) ∷ c) = y

module _ {T J : Type 0} (suits : J → T → Type 0) (job : J) (fs : List Found) (m m' : AtLane T J) where
  refused : (full closed whole : Bool) → full ≡ false → LookedToTake suits fs full closed whole m m' → AnsweredLook suits job fs m (Err (why_no_value closed whole)) m'
  refused true closed whole e l = absurd cc
  refused false true true e l = l
  refused false true false e l = l
  refused false false whole e l = l

  -- there is no value, and this is why
  pub no_value : (full closed whole : Bool) (r : RecvError) → full ≡ false → r ≡ why_no_value closed whole → LookedToTake suits fs full closed whole m m' → AnsweredLook suits job fs m (Err r) m'
  no_value full closed whole r e is l = subst (λ z. AnsweredLook suits job fs m (Err z) m') (sym is) (refused full closed whole e l)

  -- there is a value
  pub a_value : (full closed whole : Bool) → full ≡ true → m.0.job ≡ Some job → LookedToTake suits fs full closed whole m m'
      → (x : T) × suits job x × (m' ≡ (take_noted m.0 (takes_at m.0.taking (taking.Has x)) (found.Held true), (0, Some x) ∷ m.1))
  a_value true closed whole e is l = (l.0, subst (λ o. IfSome o (λ j. suits j l.0)) is l.1, l.2)
  a_value false closed whole e is l = absurd cc

  pub in_hand_is : (full closed whole : Bool) → full ≡ true → m.0.job ≡ Some job → m.1 ≡ [] → LookedToTake suits fs full closed whole m m' → (x : T) × (m'.1 ≡ (0, Some x) ∷ [])
  in_hand_is full closed whole e is empty l = let v = a_value full closed whole e is l in let x : T = v.0 in (x, ap (λ z. z.1) v.2 ∙ ap (λ c. (0, Some x) ∷ c) empty)

  -- that value was out of the slot next
  pub lifted : (full closed whole : Bool) → full ≡ true → m.0.job ≡ Some job → m.1 ≡ [] → LookedToTake suits fs full closed whole m m' → (x : T) → m'.1 ≡ (0, Some x) ∷ []
      → (now : AtLane T J) → now ≡ (m'.0, (0, None) ∷ []) → suits job x × (now ≡ (take_noted m.0 (takes_at m.0.taking (taking.Has x)) (found.Held true), (0, None) ∷ m.1))
  lifted full closed whole e is empty l x out now left =
      let v = a_value full closed whole e is l in let y : T = v.0 in let same : y ≡ x = ap (λ c. value_in y c) (sym (ap (λ z. z.1) v.2) ∙ out) in
      let seen : m'.0 ≡ take_noted m.0 (takes_at m.0.taking (taking.Has x)) (found.Held true) = ap (λ z. z.0) v.2 ∙ ap (λ z. take_noted m.0 (takes_at m.0.taking (taking.Has z)) (found.Held true)) same in
      (subst (λ z. suits job z) same v.1, left ∙ (λ i. (seen i, (0, None) ∷ sym empty i)))
