-- Outputs that are left to be joined.
use Rattle.std.proofs.Common.{◌≡◌, ℕ, List, Result, Ok, Err, OnOk}
use Rattle.morsel_local.specs.declared.local_task.LocalTask.{LocalTask}
use Rattle.morsel_stage.specs.Joined.{AreJoined, outputs_left}
use Rattle.morsel_stage.proofs.JoinLemmas.{none_counted}

-- where all was joined, none is left
pub none_left_if : {T O X E : Type 0} (P : O → Type 0) (count : ℕ) (before after : List (LocalTask T O)) (result : Result X E) → OnOk result (AreJoined P count before after) → OnOk result (outputs_left count after ≡ 0)
none_left_if P count before after (Ok x) joined = none_counted count after joined.taken
none_left_if P count before after (Err e) joined = tt
