-- No call forgets a task that waits, and neither do two.
use Rattle.std.proofs.Common.{◌≡◌, ◌⊎◌, ◌<◌, List, ◌++◌, Contains, Option, None, Some, inl, inr, ◌∙◌, subst}
use Rattle.std.proofs.lemmas.List.Elements.{Contains-append_left, Contains-append_right}
use Rattle.morsel_meaning.specs.declared.task.TaskNo.{TaskNo}
use Rattle.morsel_prims.specs.Waiting.{IsHeldOrWoken, KeepsOthersWaiting, WaitPlace}
use Rattle.morsel_prims.specs.Woken.{IsWoken, KeepsWakes, Woken}

-- who was woken before still is
woken_still : (task : Option TaskNo) (w v : Woken) → KeepsWakes w v → IsWoken task w → IsWoken task v
woken_still None w v kept is = tt
woken_still (Some task) w v kept is = λ below. kept.1 task.0 (is (subst (λ n. task.0 < n) kept.0 below))

-- what holds of some of its places holds of them and others
more_places : (own more : List WaitPlace) (me : TaskNo) (old new : WaitPlace → Option TaskNo) (w : Woken) → ((place : WaitPlace) → Contains own place → Contains more place) → KeepsOthersWaiting own me old new w → KeepsOthersWaiting more me old new w
more_places own more me old new w within keeps place = elim (keeps place) [ inl held ↦ inl held | inr mine ↦ inr (within place mine.0, mine.1) ]

-- one call after the other
held_on : (old mid new : Option TaskNo) (w v : Woken) → KeepsWakes w v → IsHeldOrWoken old mid w → IsHeldOrWoken mid new v → IsHeldOrWoken old new v
held_on old mid new w v kept (inl same) next = subst (λ task. IsHeldOrWoken task new v) same next
held_on old mid new w v kept (inr left) (inl same) = inr (same ∙ left.0, woken_still old w v kept left.1)
held_on old mid new w v kept (inr left) (inr next) = inr (next.0, woken_still old w v kept left.1)

wait_on : (own : List WaitPlace) (me : TaskNo) (old mid new : WaitPlace → Option TaskNo) (w v : Woken) → KeepsWakes w v → KeepsOthersWaiting own me old mid w → KeepsOthersWaiting own me mid new v → KeepsOthersWaiting own me old new v
wait_on own me old mid new w v kept first second place = go (first place) (second place)
  where
    go : IsHeldOrWoken (old place) (mid place) w ⊎ (Contains own place × IsHeldOrWoken (Some me) (mid place) w) → IsHeldOrWoken (mid place) (new place) v ⊎ (Contains own place × IsHeldOrWoken (Some me) (new place) v)
        → IsHeldOrWoken (old place) (new place) v ⊎ (Contains own place × IsHeldOrWoken (Some me) (new place) v)
    go (inl a) (inl b) = inl (held_on _ _ _ w v kept a b)
    go (inl a) (inr b) = inr b
    go (inr a) (inl b) = inr (a.0, held_on _ _ _ w v kept a.1 b)
    go (inr a) (inr b) = inr b

-- what one end's call leaves, and then another end's
pub wait_both : (from to mid_to : List WaitPlace) (me mid_me : TaskNo) (old mid new : WaitPlace → Option TaskNo) (w v : Woken) → mid_to ≡ to → mid_me ≡ me → KeepsWakes w v → KeepsOthersWaiting from me old mid w → KeepsOthersWaiting mid_to mid_me mid new v → KeepsOthersWaiting (from ++ to) me old new v
wait_both from to mid_to me mid_me old mid new w v same_to same_me kept first second =
    let after = subst (λ own. KeepsOthersWaiting own me mid new v) same_to (subst (λ task. KeepsOthersWaiting mid_to task mid new v) same_me second) in
    wait_on (from ++ to) me old mid new w v kept (more_places from (from ++ to) me old mid w (Contains-append_left from to) first) (more_places to (from ++ to) me mid new v (Contains-append_right from to) after)
