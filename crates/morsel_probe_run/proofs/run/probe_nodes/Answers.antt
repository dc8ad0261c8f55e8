use Rattle.std.proofs.lemmas.Result.{err_from_is_err_and}
use Rattle.morsel_probe_run.proofs.run.probe_nodes.Goals as goal

-- a stage stays as its node does
pub returns-clause-stays : goal.returns-clause-stays
returns-clause-stays g c begun was =
    let stage = c.in-Ok.start.base.nodes.middle.stage in
    c.in_ok-stage.ensures.stays (record stage { node = begun }) (c.in-Ok.ensures.stays begun was)

-- the fault of the run is passed on
pub returns-in_err-stage-clause-writes : goal.returns-in_err-stage-clause-writes
returns-in_err-stage-clause-writes g c side is =
    let p = err_from_is_err_and c.from_residual.result c.from_residual.ensures.1 in
    rw (p.1, p.2) (c.in_err-stage.ensures.writes side is)
