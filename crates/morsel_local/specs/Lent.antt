-- What the tasks of one thread end as, where what their polls work with is lent.
use Rattle.std.specs.Borrow.{Lends, Fml, RattleType, MutBor}
use Rattle.morsel_prims.specs.declared.task.Cx.{Cx}
use Rattle.morsel_prims.specs.declared.task.Task.{Ghosts as TaskOf}
use Rattle.morsel_prims.specs.declared.task.Board.{Ghosts as BoardOf}
use Rattle.morsel_prims.specs.contracts.task.Cx.{the_row as cx_row}
use Rattle.morsel_local.specs.Sweeps.{LocalSeen}
use Rattle.morsel_local.specs.contracts.local.Local.{the_row}

-- nothing changes but what polls work with, which is the last value written through the borrow
abbrev pub with_cx : {T B O : Type 0} → LocalSeen T B O → Cx B → LocalSeen T B O
with_cx local cx = record local { cx = cx }

abbrev pub LendsCx : (T B O : RattleType) (task : TaskOf T.Denot B.Denot O.Denot) (board : BoardOf B.Denot) → MutBor (LocalSeen T.Denot B.Denot O.Denot) → MutBor (Cx B.Denot) → Fml
LendsCx T B O task board local lent = Lends (the_row T B O task board) (cx_row B) local lent (with_cx local.now)
