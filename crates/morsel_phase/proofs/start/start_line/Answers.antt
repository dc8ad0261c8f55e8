use Rattle.std.proofs.Common.{◌∷◌, [], All, sym, subst}
use Rattle.morsel_phase.specs.Stages.{HasNoFault, HasOut}
use Rattle.morsel_phase.proofs.StageLemmas.{all_both}
use Rattle.morsel_phase.proofs.start.start_line.Goals as goal

pub returns-clause-owed : goal.returns-clause-owed
returns-clause-owed g c =
    let first = c.args.nodes.first in
    let last = c.args.nodes.last in (
      subst (HasOut (g.A.ComputeNode.seen first.node).units (g.A.ComputeNode.is_unit first.node) g.A.ComputeNode.unit_fails (g.A.ComputeNode.fails first.begun.value (first.job.value ∷ []))) (sym c.in_ok-local.ensures.firsts) c.requires.first_out,
      subst (HasOut (g.Z.ComputeNode.seen last.node).units (g.Z.ComputeNode.is_unit last.node) g.Z.ComputeNode.unit_fails (g.Z.ComputeNode.fails last.begun.value (last.job.value ∷ []))) (sym c.in_ok-local.ensures.seconds) c.requires.last_out,
      subst (All (HasNoFault g.P.Task.gives)) (sym c.in_ok-local.ensures.thirds) (all_both (HasNoFault g.P.Task.gives) c.args.spreading.items c.args.merging.items c.requires.spreading_faults c.requires.merging_faults),
    )
