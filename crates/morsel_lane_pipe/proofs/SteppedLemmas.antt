-- What a task that goes on step by step keeps.
use Rattle.std.proofs.Common.{◌≡◌, Option, None, Some, refl, subst, ap, ◌∙◌}
use Rattle.morsel_meaning.specs.declared.fault.Fault.{Fault}
use Rattle.morsel_meaning.specs.declared.task.TaskNo.{TaskNo}
use Rattle.morsel_prims.specs.Waiting.{KeepsOthersWaiting, KeepsWaiting, WaitPlace}
use Rattle.morsel_prims.specs.Woken.{KeepsWakes, Woken}
use Rattle.morsel_merge.specs.Boards.{OnEarlierEnd}
use Rattle.morsel_merge.proofs.AskLemmas.{wait_next}
use Rattle.morsel_lane_pipe.specs.declared.receipts.PipeOut.{PipeOut}
use Rattle.morsel_lane_pipe.specs.declared.receipts.PipeOut.TheVariants.{Whole, Cut, OutOfMemory, Failed}
use Rattle.morsel_lane_pipe.specs.declared.stepwise.Ending.{Ending}
use Rattle.morsel_lane_pipe.specs.declared.stepwise.Ending.TheVariants as ending
use Rattle.morsel_lane_pipe.specs.Stepped.{IsOn, places_if}
use Rattle.morsel_lane_pipe.specs.Tasks.{Has, IfFailed, IfWhole, OnCut, TaskSeen}

module _ {T R : Type 0} (can : T → Type 0) (seen : T → TaskSeen) (fails : T → Fault → Type 0) (leaves : T → R → Type 0) where
  pub on-begin : (task : Option T) → Has task can → IsOn can seen fails leaves task task
  on-begin None is = absurd is
  on-begin (Some task) is = (is, (refl, (λ fault has. has), (λ receipts has. has)))

  pub on-next : (begun mid now : Option T) → IsOn can seen fails leaves begun mid → IsOn can seen fails leaves mid now → IsOn can seen fails leaves begun now
  on-next begun mid None first second = absurd second
  on-next begun None (Some now) first second = absurd first
  on-next None (Some mid) (Some now) first second = absurd first.1
  on-next (Some begun) (Some mid) (Some now) first second = (second.0, (second.1.0 ∙ first.1.0, (λ fault has. first.1.1 fault (second.1.1 fault has)), (λ receipts has. first.1.2 receipts (second.1.2 receipts has))))

  pub on-can : (begun now : Option T) → IsOn can seen fails leaves begun now → Has now can
  on-can begun None on = absurd on
  on-can begun (Some now) on = on.0

  -- what holds of what is seen of it held before
  pub on-back : (P : TaskSeen → Type 0) (begun now : Option T) → IsOn can seen fails leaves begun now → Has now (λ task. P (seen task)) → Has begun (λ task. P (seen task))
  on-back P begun None on is = absurd on
  on-back P None (Some now) on is = absurd on.1
  on-back P (Some begun) (Some now) on is = subst P on.1.0 is

  -- a fault that it may have now it might have at first
  pub on-fault : (begun now : Option T) (fault : Fault) → IsOn can seen fails leaves begun now → Has now (λ task. fails task fault) → Has begun (λ task. fails task fault)
  on-fault begun None fault on is = absurd on
  on-fault None (Some now) fault on is = absurd on.1
  on-fault (Some begun) (Some now) fault on is = on.1.1 fault is

  pub on-places : (begun now : Option T) → IsOn can seen fails leaves begun now → places_if now (λ task. (seen task).places) ≡ places_if begun (λ task. (seen task).places)
  on-places begun None on = absurd on
  on-places None (Some now) on = absurd on.1
  on-places (Some begun) (Some now) on = ap (λ s. s.places) on.1.0

  -- it waits at no other places than at first
  pub on-waiting : (begun mid : Option T) (me mid_me : TaskNo) (old was new : WaitPlace → Option TaskNo) (w v : Woken) → IsOn can seen fails leaves begun mid → mid_me ≡ me → KeepsWakes w v → KeepsOthersWaiting (places_if begun (λ task. (seen task).places)) me old was w → KeepsOthersWaiting (places_if mid (λ task. (seen task).places)) mid_me was new v → KeepsOthersWaiting (places_if begun (λ task. (seen task).places)) me old new v
  on-waiting begun mid me mid_me old was new w v on same kept first second =
      wait_next (places_if begun (λ task. (seen task).places)) (places_if begun (λ task. (seen task).places)) me mid_me old was new w v same kept (λ place has. has) first (subst (λ places. KeepsOthersWaiting places mid_me was new v) (on-places begun mid on) second)

  -- a cut is told only where an end was met closed or cut, before the ends were cut
  pub on-met : {B Q : Type 0} (waits : B → WaitPlace → Option TaskNo) (met : B → T → Type 0) (out : PipeOut Q) (how : Ending) (begun now : Option T) (mid new : B) (w : Woken) → OnCut out (how ≡ ending.Cut) → (Some how ≡ Some ending.Cut → Has now (met mid)) → IsOn can seen fails leaves begun now → KeepsWaiting (waits mid) (waits new) w
      → Has begun (λ task. OnCut out ((last : T) × (seen last ≡ seen task) × OnEarlierEnd waits new w (λ board. met board last)))
  on-met waits met out how begun None mid new w asked is on keeps = absurd on
  on-met waits met out how None (Some now) mid new w asked is on keeps = absurd on.1
  on-met waits met (Whole receipts) how (Some begun) (Some now) mid new w asked is on keeps = tt
  on-met waits met Cut how (Some begun) (Some now) mid new w asked is on keeps = (now, on.1.0, (mid, keeps, is (ap Some asked)))
  on-met waits met OutOfMemory how (Some begun) (Some now) mid new w asked is on keeps = tt
  on-met waits met (Failed fault) how (Some begun) (Some now) mid new w asked is on keeps = tt

  -- what it may end with now it might end with at first
  pub on-leaves : (out : PipeOut R) (begun now : Option T) → IsOn can seen fails leaves begun now → Has now (λ task. IfWhole out (leaves task)) → Has begun (λ task. IfWhole out (leaves task))
  on-leaves out begun None on is = absurd on
  on-leaves out None (Some now) on is = absurd on.1
  on-leaves (Whole receipts) (Some begun) (Some now) on is = on.1.2 receipts is
  on-leaves Cut (Some begun) (Some now) on is = tt
  on-leaves OutOfMemory (Some begun) (Some now) on is = tt
  on-leaves (Failed fault) (Some begun) (Some now) on is = tt

  -- what a task ends with is what it might end with at first
  pub on-ready : (gives : TaskSeen → R → Type 0) (out : PipeOut R) (how : Ending) (begun mid now : Option T) → IsOn can seen fails leaves begun mid → IsOn can seen fails leaves mid now → Has now (λ task. IfWhole out (gives (seen task)) × IfWhole out (leaves task))
      → IfFailed out (λ fault. how ≡ ending.Failed fault) → ((fault : Fault) → Some how ≡ Some (ending.Failed fault) → Has mid (λ task. fails task fault)) → Has begun (λ task. IfWhole out (gives (seen task)) × IfFailed out (fails task) × IfWhole out (leaves task))
  on-ready gives out how begun mid None first second given told fault = absurd second
  on-ready gives out how begun None (Some now) first second given told fault = absurd first
  on-ready gives out how None (Some mid) (Some now) first second given told fault = absurd first.1
  on-ready gives (Whole receipts) how (Some begun) (Some mid) (Some now) first second given told fault = (subst (λ s. gives s receipts) (second.1.0 ∙ first.1.0) given.0, tt, first.1.2 receipts (second.1.2 receipts given.1))
  on-ready gives Cut how (Some begun) (Some mid) (Some now) first second given told fault = (tt, tt, tt)
  on-ready gives OutOfMemory how (Some begun) (Some mid) (Some now) first second given told fault = (tt, tt, tt)
  on-ready gives (Failed what) how (Some begun) (Some mid) (Some now) first second given told fault = (tt, first.1.1 what (fault what (ap Some told)), tt)
