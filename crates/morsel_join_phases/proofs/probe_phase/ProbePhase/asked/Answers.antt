use Rattle.std.proofs.Math.Logic.{∥∥₁_map}
use Rattle.std.specs.Arc.{arc_value}
use Rattle.morsel_join_phases.proofs.BuildFacts.{both_known}
use Rattle.morsel_join_phases.proofs.probe_phase.ProbePhase.asked.Goals as goal

pub invariant_of-result-clause-asked : goal.invariant_of-result-clause-asked
invariant_of-result-clause-asked g c = both_known c.args.self.asks c.args.self.looked_of (λ asks looked. c.in_ok-ordered.ensures.gives c.args.self.asked_job.value (arc_value c.args.self.build).asked asks looked)

pub invariant_of-result-clause-marked : goal.invariant_of-result-clause-marked
invariant_of-result-clause-marked g c = ∥∥₁_map c.args.self.marked (λ hit. c.in_ok-ordered.ensures.hit (arc_value c.args.self.build) c.args.self.hits.seen.items hit)
