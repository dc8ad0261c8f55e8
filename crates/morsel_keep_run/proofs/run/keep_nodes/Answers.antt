use Rattle.std.proofs.Common.{arith}
use Rattle.morsel_keep_run.proofs.KeepLemmas.{part_back}
use Rattle.morsel_keep_run.proofs.run.keep_nodes.Goals as goal

-- a stage stays as its node does
pub returns-clause-stays : goal.returns-clause-stays
returns-clause-stays g c begun was =
    let stage = c.in-Ok.start.base.last.stage in
    part_back c.keep_orders-kept.result c.node_of.result (λ whole. whole.node) (g.M.ComputeNode.stays begun) _ c.node_of.ensures.node c.node_of.ensures.same
    (c.keep_orders-kept.ensures.stays (record stage { node = begun }) (c.in-Ok.ensures.stays begun was)) (λ end so. so)

-- no row finds any
pub returns-clause-sweeps : goal.returns-clause-sweeps
returns-clause-sweeps g c = let few = c.keep_orders-kept.ensures.sweeps.few in omega (arith, few)
