use Rattle.std.proofs.Common.{[], List, sym, subst, rules}
use Rattle.std.proofs.Math.Logic.{∥∥₁_map}
use Rattle.std.specs.Arc.{arc_value}
use Rattle.morsel_meaning.specs.declared.value.Field.{Field}
use Rattle.morsel_meaning.specs.Values.{Row}
use Rattle.morsel_join.specs.declared.build_side.Build.{Build}
use Rattle.morsel_join.specs.BuildSides.{IsBuild, kept_side}
use Rattle.morsel_join.specs.Hits.{HaveHit}
use Rattle.morsel_join_units.specs.LookedUps.{rows_looked_up}
use Rattle.morsel_join_units.specs.declared.looked_up.LookedUp.{LookedUp}
use Rattle.morsel_join_phases.proofs.BuildFacts.{both_known, of_columns}
use Rattle.morsel_join_phases.proofs.build_phase.BuildPhase.keyed.Goals as goal

pub new-requires-clause-columns : goal.new-requires-clause-columns
new-requires-clause-columns g c = of_columns c.args.self.columns c.in_ok-frames.frames.items (both_known c.args.self.rows c.args.self.kept_of (λ rows kept. c.in_ok-frames.ensures.columns c.args.self.job.value c.args.self.columns rows kept))

pub invariant_of-result-clause-built : goal.invariant_of-result-clause-built
invariant_of-result-clause-built g c = ∥∥₁_map c.args.self.fit (λ fit. subst IsBuild (sym c.in_ok-shared.ensures.ok) c.in_ok-build.ensures.built)

pub invariant_of-result-clause-gives : goal.invariant_of-result-clause-gives
invariant_of-result-clause-gives g c =
    let job = c.args.self.job.value in
    let to = c.greatest_end-kept_to.result in
    both_known c.args.self.rows c.args.self.kept_of (λ rows kept.
    subst (λ (b : Build). g.J.RowsJob.gives job 0 to (kept_side b).rows) (sym c.in_ok-shared.ensures.ok)
    (subst (λ (rs : List Row). g.J.RowsJob.gives job 0 to rs) (sym c.in_ok-build.ensures.rows) (c.in_ok-frames.ensures.gives job c.args.self.columns rows kept)))

pub invariant_of-result-clause-asks : goal.invariant_of-result-clause-asks
invariant_of-result-clause-asks g c =
    let job = c.args.self.asked_job.value in
    subst (λ (b : Build). ∥ g.J.RowsJob.gives_rows job b.asked ∥₁) (sym c.in_ok-shared.ensures.ok) (subst (λ (columns : List Field). ∥ g.J.RowsJob.gives_rows job columns ∥₁) (sym c.in_ok-build.ensures.asked) c.args.self.asks)

pub invariant_of-result-clause-marked : goal.invariant_of-result-clause-marked
invariant_of-result-clause-marked g c =
    let build = arc_value c.in_ok-shared.shared in
    let marks = c.in_ok-hits.hits.seen.items in
    let hit : HaveHit build marks [] = search rules in
    subst (λ (looked : List LookedUp). ∥ HaveHit build marks (rows_looked_up looked) ∥₁) (sym c.new-4.ensures.items) (∥∥₁_map c.args.self.fit (λ fit. hit))
