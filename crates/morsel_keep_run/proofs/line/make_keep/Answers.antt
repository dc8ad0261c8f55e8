use Rattle.std.proofs.Common.{sym, subst}
use Rattle.morsel_keep_run.proofs.line.make_keep.Goals as goal

pub new-requires-clause-fails : goal.new-requires-clause-fails
new-requires-clause-fails g c fault fails =
    let tasks = rw (sym c.in-Some.ensures.value) at c.requires.tasks in
    tasks.faults fault (subst (λ (stage : g.row.S.Denot). g.S.Stage.fails stage fault) c.in_ok-local.ensures.stage fails)
