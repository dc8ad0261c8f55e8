use Rattle.std.proofs.Common.{◌∷◌, [], sym, subst}
use Rattle.morsel_scan_units.specs.LaneJobs.{LaneFor, IsUnitFault}
use Rattle.morsel_plan.proofs.FaultLemmas.{either_fault}
use Rattle.morsel_plan.proofs.run.make_line.Goals as goal

pub new-requires-clause-fails : goal.new-requires-clause-fails
new-requires-clause-fails g c fault fails =
    let ends = rw (sym c.in-Some.ensures.value) at c.requires.ends in
    let first = rw (sym c.in-Some.ensures.value) at c.requires.first_fails in
    let last = rw (sym c.in-Some.ensures.value) at c.requires.last_fails in
    subst (λ (lane : LaneFor). IsUnitFault lane fault) (sym ends.parts_lane)
    (either_fault c.args.lane.now fault (g.A.ComputeNode.fails c.in-Some.field-0.nodes.first.begun.value (c.in-Some.field-0.nodes.first.job.value ∷ []) fault) (g.Z.ComputeNode.fails c.in-Some.field-0.nodes.last.begun.value (c.in-Some.field-0.nodes.last.job.value ∷ []) fault) (c.in_ok-local.ensures.fails fault fails) (first fault) (last fault))
