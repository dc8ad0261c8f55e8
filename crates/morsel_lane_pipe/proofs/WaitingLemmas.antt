-- Where a task between several ends may wait.
use Rattle.std.proofs.Common.{List, ◌++◌, Option, inl, inr, refl}
use Rattle.std.proofs.lemmas.List.Elements.{Contains-append_left, Contains-append_right}
use Rattle.morsel_meaning.specs.declared.task.TaskNo.{TaskNo}
use Rattle.morsel_prims.specs.Waiting.{KeepsOthersWaiting, KeepsWaiting, WaitPlace}
use Rattle.morsel_prims.specs.Woken.{KeepsWakes, Woken}
use Rattle.morsel_merge.proofs.AskLemmas.{wait_next}
use Rattle.morsel_merge.proofs.BoardLemmas.{others_wait}

module _ (me : TaskNo) (old new : WaitPlace → Option TaskNo) (w : Woken) where
  -- places of the first end are among those of both
  pub wait_left : (from to : List WaitPlace) → KeepsOthersWaiting from me old new w → KeepsOthersWaiting (from ++ to) me old new w
  wait_left from to keeps place = elim (keeps place) [ inl held ↦ inl held | inr mine ↦ inr (Contains-append_left from to place mine.0, mine.1) ]

  -- and so are those of the second one
  pub wait_right : (from to : List WaitPlace) → KeepsOthersWaiting to me old new w → KeepsOthersWaiting (from ++ to) me old new w
  wait_right from to keeps place = elim (keeps place) [ inl held ↦ inl held | inr mine ↦ inr (Contains-append_right from to place mine.0, mine.1) ]

-- a call in which nobody begins to wait comes after
pub wait_then : (own : List WaitPlace) (me : TaskNo) (old mid new : WaitPlace → Option TaskNo) (w v : Woken) → KeepsWakes w v → KeepsOthersWaiting own me old mid w → KeepsWaiting mid new v → KeepsOthersWaiting own me old new v
wait_then own me old mid new w v kept first second = wait_next own own me me old mid new w v refl kept (λ place has. has) first (others_wait own me mid new v second)
