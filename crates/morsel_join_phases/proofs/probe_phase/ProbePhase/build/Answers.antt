use Rattle.std.proofs.Common.{rules, ◌≡◌, sym, subst}
use Rattle.std.specs.Arc.{arc_value}
use Rattle.morsel_join.specs.declared.build_side.Build.{Build}
use Rattle.morsel_join.specs.BuildSides.{IsBuild}
use Rattle.morsel_join_phases.proofs.BuildFacts.{is_build}
use Rattle.morsel_join_phases.proofs.probe_phase.ProbePhase.build.Goals as goal

pub returns-clause-built : goal.returns-clause-built
returns-clause-built g c =
    let same : arc_value c.in_ok-build.build ≡ arc_value c.args.self.now.build = search rules in
    is_build (arc_value c.in_ok-build.build) (subst (λ (b : Build). ∥ IsBuild b ∥₁) (sym same) c.args.self.now.built)
