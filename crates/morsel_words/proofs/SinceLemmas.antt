-- What was found after one more step.
use Rattle.std.proofs.Common.{◌≡◌, List, [], ◌∷◌, ◌++◌, Bool, true, false, Option, append_assoc, sym, ap, ◌∙◌, inl, inr, ⊎_elim}
use Rattle.morsel_meaning.specs.declared.task.TaskNo.{TaskNo}
use Rattle.morsel_words.specs.declared.view.Found.{Found}
use Rattle.morsel_words.specs.declared.view.Found.TheVariants as found
use Rattle.morsel_words.specs.Since.{WasFound, Follows, FoundWaiter}

slid : (earlier old mid : List Found) (x : Found) → mid ≡ x ∷ old → earlier ++ mid ≡ (earlier ++ x ∷ []) ++ old
slid earlier old mid x e = ap (λ l. earlier ++ l) e ∙ sym (append_assoc earlier (x ∷ []) old)

module _ (old mid new : List Found) (x : Found) (e : mid ≡ x ∷ old) where
  pub follows_more : Follows mid new → Follows old new
  follows_more f = (f.0 ++ x ∷ [], f.1 ∙ slid f.0 old mid x e)

  pub found_more : (what : Found) → WasFound mid new what → WasFound old new what
  found_more what h = (h.0, h.1 ++ x ∷ [], h.2 ∙ (slid (h.0 ++ what ∷ h.1) old mid x e ∙ ap (λ l. l ++ old) (append_assoc h.0 (what ∷ h.1) (x ∷ []))))

  pub waiter_more : (step : Bool → Found) (task : Option TaskNo) → FoundWaiter step mid new task → FoundWaiter step old new task
  waiter_more step task w = (
    w.0 ++ x ∷ [],
    ⊎_elim (λ none. inl (none.0 ∙ ap (λ l. step false ∷ l) (slid w.0 old mid x e), none.1))
        (λ one. inr (one.0, one.1 ∙ ap (λ l. found.Waiter one.0 ∷ step true ∷ l) (slid w.0 old mid x e), one.2)) w.1,
  )
