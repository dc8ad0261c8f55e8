use Rattle.std.proofs.Common.{ap, sym, subst, ◌∙◌}
use Rattle.std.specs.Prelude.{Option}
use Rattle.morsel_group.specs.Asked.{GroupAsked}
use Rattle.morsel_query.specs.Queries.{QueryParts, query_parts, HaveTheirColumns}
use Rattle.morsel_engine.specs.SweepBounds.{SweepsWithin}
use Rattle.morsel_engine.proofs.RunLemmas.{runs_refused, refused_by}
use Rattle.morsel_engine.proofs.SweepLemmas.{no_sweeps}
use Rattle.morsel_engine.proofs.run.run_pipelines.Goals as goal

pub returns-in-Err-clause-runs : goal.returns-in-Err-clause-runs
returns-in-Err-clause-runs g c = runs_refused _ _ _ _ (refused_by (Unit {0}) _ _ c.in-Err.ensures.refused)

pub returns-in-Err-clause-sweeps : goal.returns-in-Err-clause-sweeps
returns-in-Err-clause-sweeps g c = no_sweeps (g.H.Io.seen c.args.io.now) (g.H.Io.seen c.args.io.now) c.args.query c.args.options.now c.args.steps.now

pub returns-in-None-clause-sweeps : goal.returns-in-None-clause-sweeps
returns-in-None-clause-sweeps g c =
    subst (λ (query : QueryParts). SweepsWithin (g.H.Io.seen c.args.io.now) query c.args.options.now c.args.steps.now (g.H.Io.seen c.run_ungrouped.new.io) c.run_ungrouped.new.steps)
    (ap (λ (group : Option GroupAsked). query_parts c.into_parts-left.result.0 c.into_parts-left.result.1 group c.into_parts-left.result.3) (sym c.in-None.is) ∙ c.into_parts-left.ensures.value) c.run_ungrouped.ensures.sweeps

pub run_grouped-requires-clause-reductions : goal.run_grouped-requires-clause-reductions
run_grouped-requires-clause-reductions g c =
    subst HaveTheirColumns c.in-Some.is (subst (λ (query : QueryParts). HaveTheirColumns query.group) (sym c.into_parts-left.ensures.value) c.into_parts-left.ensures.columns)

pub returns-in-Some-grouped-clause-sweeps : goal.returns-in-Some-grouped-clause-sweeps
returns-in-Some-grouped-clause-sweeps g c =
    subst (λ (query : QueryParts). SweepsWithin (g.H.Io.seen c.args.io.now) query c.args.options.now c.args.steps.now (g.H.Io.seen c.run_grouped.new.io) c.run_grouped.new.steps)
    (ap (λ (group : Option GroupAsked). query_parts c.into_parts-left.result.0 c.into_parts-left.result.1 group c.into_parts-left.result.3) (sym c.in-Some.is) ∙ c.into_parts-left.ensures.value) c.run_grouped.ensures.sweeps
