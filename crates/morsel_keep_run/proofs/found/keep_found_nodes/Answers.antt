use Rattle.std.proofs.Common.{◌≡◌, sym, subst}
use Rattle.morsel_keep_run.proofs.KeepLemmas.{some_back}
use Rattle.morsel_keep_run.proofs.found.keep_found_nodes.Goals as goal

-- a stage stays as its node does
pub returns-clause-finding_stays : goal.returns-clause-finding_stays
returns-clause-finding_stays g c begun was =
    let stages = c.in-Ok.start.base.last.stage in
    let first = stages.first in
    some_back c.keep_orders-kept.result c.nodes_of.result (λ whole end. (end.0.finds ≡ whole.0.first.node) × (end.0.keeps ≡ whole.0.second.node)) (λ end. g.M.ComputeNode.stays begun end.0.finds) _ c.nodes_of.ensures.nodes c.nodes_of.ensures.same
    (c.keep_orders-kept.ensures.stays stages ((λ from so. so), (λ from so. so)))
    (λ whole end so are. subst (g.M.ComputeNode.stays begun) (sym are.0) (so.0 (record first { node = begun }) (c.in-Ok.ensures.finding_stays begun was)))

pub returns-clause-keeping_stays : goal.returns-clause-keeping_stays
returns-clause-keeping_stays g c begun was =
    let stages = c.in-Ok.start.base.last.stage in
    let second = stages.second in
    some_back c.keep_orders-kept.result c.nodes_of.result (λ whole end. (end.0.finds ≡ whole.0.first.node) × (end.0.keeps ≡ whole.0.second.node)) (λ end. g.Z.ComputeNode.stays begun end.0.keeps) _ c.nodes_of.ensures.nodes c.nodes_of.ensures.same
    (c.keep_orders-kept.ensures.stays stages ((λ from so. so), (λ from so. so)))
    (λ whole end so are. subst (g.Z.ComputeNode.stays begun) (sym are.1) (so.1 (record second { node = begun }) (c.in-Ok.ensures.keeping_stays begun was)))
