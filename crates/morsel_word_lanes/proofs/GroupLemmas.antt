-- What a release found.
use Rattle.std.proofs.Common.{List, [], ◌∷◌, true, false, ⊎_elim, Option}
use Rattle.morsel_meaning.specs.declared.task.TaskNo.{TaskNo}
use Rattle.morsel_prims.specs.Woken.{Woken, AreFoundWoken}
use Rattle.morsel_word_groups.specs.declared.view.GroupFound.{GroupFound}
use Rattle.morsel_word_groups.specs.declared.view.GroupFound.TheVariants as found
use Rattle.morsel_word_groups.specs.Seen.{FoundLast, FoundWaitingForLast}
use Rattle.morsel_word_lanes.specs.Groups.{FoundLess}

less_of : (old new : List GroupFound) (task : Option TaskNo) → FoundLast old new task → FoundLess old
less_of old new task l = ⊎_elim
    (λ more. (new, false, ([], [], more.0)))
    (λ last. (new, true, (found.Waiter last.0 ∷ [], [], last.1)))
    l

-- a release that woke who waited took one from the count
pub found_less : (old : List GroupFound) (w : Woken) → AreFoundWoken (FoundWaitingForLast old) w → FoundLess old
found_less old w a = less_of old a.1.0 a.1.1 a.1.2
