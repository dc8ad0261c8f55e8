use Rattle.std.proofs.Common.{sym, subst}
use Rattle.std.proofs.lemmas.Result.{err_from_is_err_and}
use Rattle.morsel_probe_run.proofs.run.probe_orders.Goals as goal

-- what stayed of the middle node's stage goes on to stay, as a part of all of them
pub returns-clause-stays : goal.returns-clause-stays
returns-clause-stays g c begun was =
    let middle = rw (sym c.in-Some.ensures.value) at was in
    let early = subst (λ (stage : g.row.T.Denot). g.T.Stage.stays begun stage) (sym c.in-Ok-node_tasks.ensures.middle) middle in
    let here = rw (sym c.in-Ok-probe_tasks.ensures.nodes) at early in
    let stage = c.in-Ok-probe_tasks.tasks.stage in
    let all = c.in_ok-stages.ensures.stays stage ((λ from so. so), (λ from so. so)) in
    let nodes = all.0 stage.first ((λ from so. so), (λ from so. so)) in
    let two = nodes.0 stage.first.first ((λ from so. so), (λ from so. so)) in
    subst (λ (stage : g.row.T.Denot). g.T.Stage.stays begun stage) (sym c.middle_of-middle.ensures) (two.1 begun here)

-- the fault of the run is passed on
pub returns-in_err-stages-clause-writes : goal.returns-in_err-stages-clause-writes
returns-in_err-stages-clause-writes g c side is =
    let p = err_from_is_err_and c.from_residual.result c.from_residual.ensures.1 in
    rw (p.1, p.2) (c.in_err-stages.ensures.writes side is)
