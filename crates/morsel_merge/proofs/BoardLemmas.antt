-- What the boards of one call tell of each other, and who is woken by several calls.
use Rattle.std.proofs.Common.{◌≡◌, ◌⊎◌, List, [], ◌∷◌, ◌++◌, Contains, All, Option, None, Some, refl, sym, ap, subst, ◌∙◌, inl, inr, append_assoc}
use Rattle.std.proofs.lemmas.List.{append-nil}
use Rattle.morsel_meaning.specs.declared.task.TaskNo.{TaskNo}
use Rattle.morsel_prims.specs.Waiting.{KeepsOthersWaiting, KeepsWaiting, WaitPlace}
use Rattle.morsel_prims.specs.Woken.{AreFoundWoken, AreWoken, KeepsWakes, Woken}
use Rattle.morsel_merge.specs.Boards.{OnEarlier, OnEarlierEnd}
use Rattle.morsel_merge.specs.Spread.{AreFoundEach}
use Rattle.morsel_merge.proofs.AskLemmas.{held_on, wait_next, woken_still}

-- who waits goes on waiting or is woken by two calls
pub waits_next : (old mid new : WaitPlace → Option TaskNo) (w v : Woken) → KeepsWakes w v → KeepsWaiting old mid w → KeepsWaiting mid new v → KeepsWaiting old new v
waits_next old mid new w v kept first second place = held_on (old place) (mid place) (new place) w v kept (first place) (second place)

pub waits_none : (old : WaitPlace → Option TaskNo) (w : Woken) → KeepsWaiting old old w
waits_none old w place = inl refl

module _ {B : Type 0} (waits : B → WaitPlace → Option TaskNo) where
  -- a board that was earlier still is after another call
  pub earlier_end-next : (fact : B → Type 0) (mid new : B) (w v : Woken) → KeepsWakes w v → KeepsWaiting (waits mid) (waits new) v → OnEarlierEnd waits mid w fact → OnEarlierEnd waits new v fact
  earlier_end-next fact mid new w v kept next was = (was.0, waits_next (waits was.0) (waits mid) (waits new) w v kept was.1 next, was.2)

  -- of each of several, and of one more that holds of the board itself
  pub earlier_ends-push : {R : Type 0} (fact : B → R → Type 0) (items items' : List R) (item : R) (mid new : B) (w v : Woken) → items' ≡ items ++ item ∷ [] → KeepsWakes w v → KeepsWaiting (waits mid) (waits new) v → fact new item
      → All (λ r. OnEarlierEnd waits mid w (λ b. fact b r)) items → All (λ r. OnEarlierEnd waits new v (λ b. fact b r)) items'
  earlier_ends-push fact items items' item mid new w v same kept next last all =
      subst (λ rs. All (λ r. OnEarlierEnd waits new v (λ b. fact b r)) rs) (sym same)
      (Rattle.std.proofs.lemmas.List.Elements.All-push (λ r. OnEarlierEnd waits new v (λ b. fact b r)) items item (λ k d within. earlier_end-next (λ b. fact b (Rattle.std.proofs.Common.get_or items k d)) mid new w v kept next (all k d within)) (new, waits_none (waits new) v, last))

  -- the same, where the task of the calls may have begun to wait
  pub earlier-next : (own other : List WaitPlace) (me mid_me : TaskNo) (fact : B → Type 0) (mid new : B) (w v : Woken) → mid_me ≡ me → KeepsWakes w v → ((place : WaitPlace) → Contains other place → Contains own place) → KeepsOthersWaiting other mid_me (waits mid) (waits new) v → OnEarlier waits own me mid w fact → OnEarlier waits own me new v fact
  earlier-next own other me mid_me fact mid new w v same kept within next was = (was.0, wait_next own other me mid_me (waits was.0) (waits mid) (waits new) w v same kept within was.1 next, was.2)

-- where nobody begins to wait, no other does
pub others_wait : (own : List WaitPlace) (me : TaskNo) (old new : WaitPlace → Option TaskNo) (w : Woken) → KeepsWaiting old new w → KeepsOthersWaiting own me old new w
others_wait own me old new w keeps place = inl (keeps place)

-- whoever was woken before still is
pub are_woken-still : (tasks : List TaskNo) (w v : Woken) → KeepsWakes w v → AreWoken tasks w → AreWoken tasks v
are_woken-still [] w v kept is = tt
are_woken-still (task ∷ tasks) w v kept is = (woken_still (Some task) w v kept is.0, are_woken-still tasks w v kept is.1)

pub are_woken-append : (tasks more : List TaskNo) (w : Woken) → AreWoken tasks w → AreWoken more w → AreWoken (tasks ++ more) w
are_woken-append [] more w is also = also
are_woken-append (task ∷ tasks) more w is also = (is.0, are_woken-append tasks more w is.1 also)

module _ {E R : Type 0} (found : E → R → List TaskNo → Type 0) where
  -- one end more
  pub found_each-push : (ends : List E) (lefts : List R) (tasks : List TaskNo) (end : E) (left : R) (own : List TaskNo) → AreFoundEach found ends lefts tasks → found end left own → AreFoundEach found (ends ++ end ∷ []) (lefts ++ left ∷ []) (tasks ++ own)
  found_each-push [] [] tasks end left own are is = (own, [], ap (λ ts. ts ++ own) are ∙ sym (append-nil own), is, refl)
  found_each-push [] (l ∷ ls) tasks end left own are is = absurd are
  found_each-push (e ∷ es) [] tasks end left own are is = absurd are
  found_each-push (e ∷ es) (l ∷ ls) tasks end left own are is = (are.0, are.1 ++ own, ap (λ ts. ts ++ own) are.2 ∙ append_assoc are.0 are.1 own, are.3, found_each-push es ls are.1 end left own are.4 is)

  -- and those that waited for it are woken too
  pub found_woken-push : (ends : List E) (lefts lefts' : List R) (end : E) (left : R) (w v : Woken) → lefts' ≡ lefts ++ left ∷ [] → KeepsWakes w v → AreFoundWoken (AreFoundEach found ends lefts) w → AreFoundWoken (found end left) v → AreFoundWoken (AreFoundEach found (ends ++ end ∷ []) lefts') v
  found_woken-push ends lefts lefts' end left w v same kept before last =
      (before.0 ++ last.0, subst (λ ls. AreFoundEach found (ends ++ end ∷ []) ls (before.0 ++ last.0)) (sym same) (found_each-push ends lefts before.0 end left last.0 before.1 last.1), are_woken-append before.0 last.0 v (are_woken-still before.0 w v kept before.2) last.2)
