use Rattle.std.proofs.Common.{sym, subst}
use Rattle.morsel_keep_run.proofs.KeepLemmas.{part_back}
use Rattle.morsel_keep_run.proofs.run.keep_orders.Goals as goal

-- what stayed of the last node's stage goes on to stay, as a part of all of them
pub returns-clause-stays : goal.returns-clause-stays
returns-clause-stays g c begun was =
    let last = rw (sym c.in-Some.ensures.value) at was in
    let here = subst (λ (stage : g.row.T.Denot). g.T.Stage.stays begun stage) (sym c.in-Ok-keep_tasks.ensures.last) last in
    let stage = c.in-Ok-keep_tasks.tasks.stage in
    part_back c.keep_parts-kept.result c.last_of.result (λ whole. whole.first.second) (g.T.Stage.stays begun) _ c.last_of.ensures.stage c.last_of.ensures.same
    (c.keep_parts-kept.ensures.stays stage ((λ from so. so), (λ from so. so))) (λ end so. (so.0 stage.first ((λ from so. so), (λ from so. so))).1 begun here)
