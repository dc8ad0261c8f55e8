-- Who was found waiting for the last token is woken.
use Rattle.std.proofs.Common.{List, refl, Option, Some, None}
use Rattle.morsel_meaning.specs.declared.task.TaskNo.{TaskNo}
use Rattle.morsel_prims.specs.Polled.{held_list}
use Rattle.morsel_prims.specs.Woken.{Woken, IsWoken, AreWoken, AreFoundWoken}
use Rattle.morsel_word_groups.specs.declared.view.GroupFound.{GroupFound}
use Rattle.morsel_word_groups.specs.Seen.{FoundLast, FoundWaitingForLast}

-- the task that is held, if there is one, is woken
pub are_woken-held : (task : Option TaskNo) (w : Woken) → IsWoken task w → AreWoken (held_list task) w
are_woken-held None w h = tt
are_woken-held (Some task) w h = (h, tt)

pub found_woken : (old new : List GroupFound) (task : Option TaskNo) (w : Woken) → FoundLast old new task → IsWoken task w → AreFoundWoken (FoundWaitingForLast old) w
found_woken old new task w found woken = (held_list task, (new, task, found, refl), are_woken-held task w woken)
