use Rattle.std.proofs.Common.{◌<◌, ◌≤◌, ◌+◌, ◌*◌, ℕ, inl, refl, sym, subst, arith}
use Rattle.morsel_meaning.specs.declared.fault.Fault.TheVariants as faults
use Rattle.morsel_join.specs.declared.build_side.Build.{Build}
use Rattle.morsel_join.specs.BuildSides.{kept_side}
use Rattle.morsel_join.specs.Sides.{IsRightSide}
use Rattle.morsel_join_phases.specs.JoinPhases.{build_of}
use Rattle.morsel_join_plan.proofs.CourseLemmas.{joins_kept, joins_stopped}
use Rattle.morsel_join_plan.proofs.PortFacts.{for_each}
use Rattle.morsel_join_plan.proofs.SweepLemmas.{suits_later, swept, swept_kept}
use Rattle.morsel_join_plan.proofs.TurnFacts.{home_tokens}
use Rattle.morsel_join_plan.proofs.join.write_join.Goals as goal

pub keep_side-requires-clause-tokens : goal.keep_side-requires-clause-tokens
keep_side-requires-clause-tokens g c = home_tokens _ _ _ c.in-Ok.ensures.home

pub write_rest-requires-clause-made : goal.write_rest-requires-clause-made
write_rest-requires-clause-made g c = subst (λ (n : ℕ). 0 < n) (sym c.in-Ok-keep_side.ensures.kept.has.keeps.leaves.sinks) c.requires.made

pub write_rest-requires-clause-suits : goal.write_rest-requires-clause-suits
write_rest-requires-clause-suits g c = suits_later _ _ c.args.asked.reader c.requires.asked_start c.in-Ok-keep_side.ensures.kept.has.keeps.leaves.sizes c.requires.asked_suits

pub write_rest-requires-clause-right : goal.write_rest-requires-clause-right
write_rest-requires-clause-right g c build is =
    let kept = c.in-Ok-keep_side.ensures.kept in
    for_each (λ (b : Build). IsRightSide (kept_side b)) (build_of c.in-Ok-keep_side.join.phase) kept.build kept.build_is kept.has.is_right build is

pub returns-in-Err-clause-sweeps : goal.returns-in-Err-clause-sweeps
returns-in-Err-clause-sweeps g c =
    swept_kept (record { scan = c.args.kept.node; reader = c.args.kept.reader }) (record { scan = c.args.asked.node; reader = c.args.asked.reader }) c.args.rules (g.H.Io.seen c.args.io.now) c.args.steps.now c.keep_side.new.steps c.in-Err.ensures.sweeps

pub returns-in-Err-clause-joins : goal.returns-in-Err-clause-joins
returns-in-Err-clause-joins g c =
    joins_stopped (record { scan = c.args.kept.node; reader = c.args.kept.reader }) (record { scan = c.args.asked.node; reader = c.args.asked.reader }) c.args.rules c.args.run.bound _ _ _ c.in-Err.ensures.stops

pub returns-clause-sweeps : goal.returns-clause-sweeps
returns-clause-sweeps g c =
    let kept = c.in-Ok-keep_side.ensures.kept in
    swept (record { scan = c.args.kept.node; reader = c.args.kept.reader }) (record { scan = c.args.asked.node; reader = c.args.asked.reader }) c.args.rules (kept_side kept.build) _ _ _ _ _ c.in-Ok-keep_side.ensures.sweeps kept.has
    (c.write_rest.ensures.sweeps kept.build kept.build_is)

pub returns-clause-joins : goal.returns-clause-joins
returns-clause-joins g c =
    let kept = c.in-Ok-keep_side.ensures.kept in
    joins_kept (record { scan = c.args.kept.node; reader = c.args.kept.reader }) (record { scan = c.args.asked.node; reader = c.args.asked.reader }) c.args.rules (kept_side kept.build) c.args.run.bound _ _ _ _ kept.has
    (c.write_rest.ensures.writes kept.build kept.build_is)

pub returns-in_default-clause-sweeps : goal.returns-in_default-clause-sweeps
returns-in_default-clause-sweeps g c =
    swept_kept (record { scan = c.args.kept.node; reader = c.args.kept.reader }) (record { scan = c.args.asked.node; reader = c.args.asked.reader }) c.args.rules (g.H.Io.seen c.args.io.now) c.args.steps.now c.args.steps.now (omega arith)

pub returns-in_default-clause-joins : goal.returns-in_default-clause-joins
returns-in_default-clause-joins g c =
    joins_stopped (record { scan = c.args.kept.node; reader = c.args.kept.reader }) (record { scan = c.args.asked.node; reader = c.args.asked.reader }) c.args.rules c.args.run.bound _ _ faults.OutOfMemory (inl (refl, refl))
