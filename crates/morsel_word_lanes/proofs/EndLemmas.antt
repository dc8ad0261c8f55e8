-- What a call on a connector found, once it was made of two calls of an end; and who was found waiting is woken.
use Rattle.std.proofs.Common.{◌≡◌, ◌⊎◌, ◌+◌, subst, List, [], ◌∷◌, ◌++◌, Bool, true, false, append_assoc, append-nil, sym, refl, ap, ◌∙◌, inl, inr, ⊎_elim, Option, Some, None}
use Rattle.morsel_meaning.specs.declared.task.TaskNo.{TaskNo}
use Rattle.morsel_prims.specs.Polled.{held_list, ByRefusal, IfFull, IfClosed}
use Rattle.morsel_prims.specs.declared.lane.RecvError.{RecvError}
use Rattle.morsel_prims.specs.declared.lane.RecvError.TheVariants as refusal
use Rattle.morsel_prims.specs.declared.lane.SendError.{SendError}
use Rattle.morsel_prims.specs.declared.lane.SendError.TheVariants as unsent
use Rattle.morsel_prims.specs.Woken.{Woken, IsWoken, AreWoken, AreFoundWoken}
use Rattle.morsel_words.specs.declared.view.Found.{Found}
use Rattle.morsel_words.specs.declared.view.Found.TheVariants as found
use Rattle.morsel_words.specs.Since.{WasFound, FoundWaiter}
use Rattle.morsel_word_lanes.specs.Ends.{FoundWaiting, FoundWaitingAtClose, HasClosed}

slid : (earlier old mid : List Found) (more : List Found) → mid ≡ more ++ old → earlier ++ mid ≡ (earlier ++ more) ++ old
slid earlier old mid more e = ap (λ l. earlier ++ l) e ∙ sym (append_assoc earlier more old)

-- what was found since a later point was found since an earlier one, before which something was found
module _ (old mid new : List Found) (first : Found) (h : WasFound old mid first) where
  abbrev more : List Found
  more = h.0 ++ first ∷ h.1

  pub found_after : (what : Found) → WasFound mid new what → WasFound old new what
  found_after what k = (k.0, k.1 ++ more, k.2 ∙ (slid (k.0 ++ what ∷ k.1) old mid more h.2 ∙ ap (λ l. l ++ old) (append_assoc k.0 (what ∷ k.1) more)))

  pub waiter_after : (step : Bool → Found) (task : Option TaskNo) → FoundWaiter step mid new task → FoundWaiter step old new task
  waiter_after step task w = (
    w.0 ++ more,
    ⊎_elim (λ none. inl (none.0 ∙ ap (λ l. step false ∷ l) (slid w.0 old mid more h.2), none.1))
        (λ one. inr (one.0, one.1 ∙ ap (λ l. found.Waiter one.0 ∷ step true ∷ l) (slid w.0 old mid more h.2), one.2)) w.1,
  )

-- the task that is held, if there is one, is woken
are_woken-held : (task : Option TaskNo) (w : Woken) → IsWoken task w → AreWoken (held_list task) w
are_woken-held None w h = tt
are_woken-held (Some task) w h = (h, tt)

pub found_woken : (step : Bool → Found) (old new : List Found) (task : Option TaskNo) (w : Woken) → FoundWaiter step old new task → IsWoken task w → AreFoundWoken (FoundWaiting step old new) w
found_woken step old new task w found woken = (held_list task, (task, found, refl), are_woken-held task w woken)

pub found_woken-close : (old new : List Found) (task : Option TaskNo) (w : Woken) → FoundWaiter found.Closing old new task → IsWoken task w → AreFoundWoken (FoundWaitingAtClose old) w
found_woken-close old new task w found woken = (held_list task, (new, (task, found, refl)), are_woken-held task w woken)

-- who was found waiting since a later point was found so since an earlier one
pub waiting_after : (old mid new : List Found) (first : Found) → WasFound old mid first → (step : Bool → Found) (w : Woken) → AreFoundWoken (FoundWaiting step mid new) w → AreFoundWoken (FoundWaiting step old new) w
waiting_after old mid new first h step w a = (a.0, (a.1.0, waiter_after old mid new first h step a.1.0 a.1.1, a.1.2), a.2)

-- a sender that has finished has closed its lane
pub has_closed : (old new : List Found) (task : Option TaskNo) → FoundWaiter found.Closing old new task → HasClosed new
has_closed old new task w = ⊎_elim
    (λ none. (false, ([], w.0 ++ old, none.0 ∙ sym (append-nil (found.Closing false ∷ w.0 ++ old)))))
    (λ one. (true, (found.Waiter one.0 ∷ [], w.0 ++ old, one.1 ∙ sym (append-nil (found.Waiter one.0 ∷ found.Closing true ∷ w.0 ++ old)))))
    w.1

-- who polls is the same
pub registered_as : (old new : List Found) (me you : TaskNo) → me ≡ you → WasFound old new (found.Waits (me.0 + 1)) → WasFound old new (found.Waits (you.0 + 1))
registered_as old new me you same = subst (λ (t : TaskNo). WasFound old new (found.Waits (t.0 + 1))) same

-- the fact for a refusal that is known
pub when_empty : (E W C : Type 0) (r : RecvError) → r ≡ refusal.Empty → ByRefusal r E W C → E
when_empty E W C refusal.Empty is h = h
when_empty E W C refusal.Whole is h = absurd cc
when_empty E W C refusal.Cut is h = absurd cc

pub when_full : {T P : Type 0} (r : SendError T) (x : T) → r ≡ unsent.Full x → IfFull r P → P
when_full (unsent.Full y) x is h = h
when_full (unsent.Closed y) x is h = absurd cc

pub when_closed : {T P : Type 0} (r : SendError T) (x : T) → r ≡ unsent.Closed x → IfClosed r P → P
when_closed (unsent.Full y) x is h = absurd cc
when_closed (unsent.Closed y) x is h = h
