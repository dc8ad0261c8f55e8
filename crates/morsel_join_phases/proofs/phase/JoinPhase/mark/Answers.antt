use Rattle.std.proofs.Common.{◌≡◌, Some, ap}
use Rattle.std.specs.Arc.{arc_value}
use Rattle.morsel_join_phases.specs.JoinPhases.{build_of}
use Rattle.morsel_join_phases.specs.declared.phase.JoinPhase.TheVariants as phases
use Rattle.morsel_join_phases.proofs.phase.JoinPhase.mark.Goals as goal

pub mark-requires-clause-hit : goal.mark-requires-clause-hit
mark-requires-clause-hit g c =
    let there : build_of c.args.self.now ≡ Some (arc_value c.in-Probe.probe.build) = ap build_of c.in-Probe.is in
    (rw c.in-Some.is at c.requires.hit) (arc_value c.in-Probe.probe.build) there
