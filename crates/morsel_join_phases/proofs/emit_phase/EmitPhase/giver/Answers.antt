use Rattle.std.specs.Arc.{arc_value}
use Rattle.morsel_join_phases.proofs.BuildFacts.{is_build}
use Rattle.morsel_join_phases.proofs.emit_phase.EmitPhase.giver.Goals as goal

pub new-requires-2-clause-built : goal.new-requires-2-clause-built
new-requires-2-clause-built g c = is_build (arc_value c.args.self.build) c.args.self.built
