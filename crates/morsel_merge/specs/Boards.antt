-- What an earlier or a later board of the same call tells of the one at hand. The lanes of a sender are asked one after the other, each with the board that the one before it left.
use Rattle.std.specs.Prelude.{List, Option}
use Rattle.morsel_meaning.specs.declared.task.TaskNo.{TaskNo}
use Rattle.morsel_prims.specs.Waiting.{KeepsOthersWaiting, KeepsWaiting, WaitPlace}
use Rattle.morsel_prims.specs.Woken.{Woken}

-- the fact holds of an earlier board of the call; since then each task that waits goes on waiting or is woken, and at a place of these this task may have begun to wait
abbrev pub OnEarlier : {B : Type 0} → (B → WaitPlace → Option TaskNo) → List WaitPlace → TaskNo → B → Woken → (B → Type 0) → Type 0
OnEarlier waits own me board wakes fact = (mid : _) × KeepsOthersWaiting own me (waits mid) (waits board) wakes × fact mid

-- the fact holds of a later board of the call; until then each task that waits goes on waiting or is woken, and at a place of these one task may have begun to wait
abbrev pub OnLater : {B : Type 0} → (B → WaitPlace → Option TaskNo) → List WaitPlace → B → (B → Type 0) → Type 0
OnLater waits own board fact = (mid : _) × (me : TaskNo) × (wakes : Woken) × KeepsOthersWaiting own me (waits board) (waits mid) wakes × fact mid

-- the fact holds of an earlier board of the call; since then each task that waits goes on waiting or is woken, and nobody began to wait
abbrev pub OnEarlierEnd : {B : Type 0} → (B → WaitPlace → Option TaskNo) → B → Woken → (B → Type 0) → Type 0
OnEarlierEnd waits board wakes fact = (mid : _) × KeepsWaiting (waits mid) (waits board) wakes × fact mid

-- the fact holds of a later board of the call; until then each task that waits goes on waiting or is woken, and nobody begins to wait
abbrev pub OnLaterEnd : {B : Type 0} → (B → WaitPlace → Option TaskNo) → B → (B → Type 0) → Type 0
OnLaterEnd waits board fact = (mid : _) × (wakes : Woken) × KeepsWaiting (waits board) (waits mid) wakes × fact mid
