use Rattle.std.proofs.Common.{ap, sym, subst}
use Rattle.std.specs.Prelude.{Option, None}
use Rattle.morsel_query.specs.declared.join.JoinSpec.{JoinSpec}
use Rattle.morsel_query.specs.Queries.{QueryParts, query_parts}
use Rattle.morsel_engine.specs.SweepBounds.{SweepsWithin}
use Rattle.morsel_engine.proofs.run.run_ungrouped.Goals as goal

pub returns-in-None-clause-sweeps : goal.returns-in-None-clause-sweeps
returns-in-None-clause-sweeps g c =
    subst (λ (query : QueryParts). SweepsWithin (g.H.Io.seen c.args.io.now) query c.args.options.now c.args.steps.now (g.H.Io.seen c.run_parts.new.io) c.run_parts.new.steps)
    (ap (λ (join : Option JoinSpec). query_parts c.args.left join None c.args.sink) (sym c.in-None.is)) c.run_parts.ensures.sweeps

pub returns-in-Some-joined-clause-sweeps : goal.returns-in-Some-joined-clause-sweeps
returns-in-Some-joined-clause-sweeps g c =
    subst (λ (query : QueryParts). SweepsWithin (g.H.Io.seen c.args.io.now) query c.args.options.now c.args.steps.now (g.H.Io.seen c.run_join.new.io) c.run_join.new.steps)
    (ap (λ (join : Option JoinSpec). query_parts c.args.left join None c.args.sink) (sym c.in-Some.is)) c.run_join.ensures.sweeps
