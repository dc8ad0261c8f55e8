use Rattle.std.proofs.Common.{◌≡◌, ◌<◌, ◌≤◌, ◌+◌, ◌*◌, ℕ, inl, refl, sym, ap, subst, ◌∙◌, arith}
use Rattle.morsel_meaning.specs.declared.fault.Fault.TheVariants as faults
use Rattle.morsel_meaning.specs.declared.value.Field.{Field}
use Rattle.morsel_join.specs.declared.build_side.Build.{Build}
use Rattle.morsel_join.specs.declared.rules.JoinRules.{JoinRules}
use Rattle.morsel_join.specs.BuildSides.{kept_side}
use Rattle.morsel_join.specs.Sides.{IsRightSide}
use Rattle.morsel_join_phases.specs.JoinPhases.{build_of}
use Rattle.morsel_join_plan.specs.JoinRuns.{JoinScan}
use Rattle.morsel_join_plan.proofs.PortFacts.{for_each}
use Rattle.morsel_join_plan.proofs.SweepLemmas.{suits_later}
use Rattle.morsel_join_plan.proofs.TurnFacts.{home_tokens}
use Rattle.morsel_group_plan.proofs.JoinedCourse.{joined_kept, joined_stopped, joined_swept, joined_swept_kept}
use Rattle.morsel_group_plan.proofs.joined.write_joined_groups.Goals as goal

pub keep_side-requires-clause-tokens : goal.keep_side-requires-clause-tokens
keep_side-requires-clause-tokens g c = home_tokens _ _ _ c.in-Ok.ensures.home

pub write_grouped-requires-clause-made : goal.write_grouped-requires-clause-made
write_grouped-requires-clause-made g c = subst (λ (n : ℕ). 0 < n) (sym c.in-Ok-keep_side.ensures.kept.has.keeps.leaves.sinks) c.requires.made

pub write_grouped-requires-clause-suits : goal.write_grouped-requires-clause-suits
write_grouped-requires-clause-suits g c = suits_later _ _ c.args.asked.reader c.requires.asked_start c.in-Ok-keep_side.ensures.kept.has.keeps.leaves.sizes c.requires.asked_suits

pub write_grouped-requires-clause-right : goal.write_grouped-requires-clause-right
write_grouped-requires-clause-right g c build is =
    let kept = c.in-Ok-keep_side.ensures.kept in
    for_each (λ (b : Build). IsRightSide (kept_side b)) (build_of c.in-Ok-keep_side.join.phase) kept.build kept.build_is kept.has.is_right build is

pub write_grouped-requires-clause-grouped : goal.write_grouped-requires-clause-grouped
write_grouped-requires-clause-grouped g c build is =
    let kept = c.in-Ok-keep_side.ensures.kept in
    for_each (λ (b : Build). c.args.group.rules.columns ≡ b.rules.output) (build_of c.in-Ok-keep_side.join.phase) kept.build kept.build_is (c.requires.columns ∙ sym (ap (λ (rules : JoinRules). rules.output) kept.has.rules_are)) build is

pub returns-in-Err-clause-sweeps : goal.returns-in-Err-clause-sweeps
returns-in-Err-clause-sweeps g c =
    joined_swept_kept (record { scan = c.args.kept.node; reader = c.args.kept.reader }) (record { scan = c.args.asked.node; reader = c.args.asked.reader }) c.args.rules (g.H.Io.seen c.args.io.now) c.args.steps.now c.keep_side.new.steps c.in-Err.ensures.sweeps

pub returns-in-Err-clause-groups : goal.returns-in-Err-clause-groups
returns-in-Err-clause-groups g c =
    joined_stopped (record { scan = c.args.kept.node; reader = c.args.kept.reader }) (record { scan = c.args.asked.node; reader = c.args.asked.reader }) c.args.rules c.args.group.rules _ _ _ c.in-Err.ensures.stops

pub returns-clause-sweeps : goal.returns-clause-sweeps
returns-clause-sweeps g c =
    let kept = c.in-Ok-keep_side.ensures.kept in
    joined_swept (record { scan = c.args.kept.node; reader = c.args.kept.reader }) (record { scan = c.args.asked.node; reader = c.args.asked.reader }) c.args.rules (kept_side kept.build) _ _ _ _ _ c.in-Ok-keep_side.ensures.sweeps kept.has
    (c.write_grouped.ensures.sweeps kept.build kept.build_is)

pub returns-clause-groups : goal.returns-clause-groups
returns-clause-groups g c =
    let kept = c.in-Ok-keep_side.ensures.kept in
    joined_kept (record { scan = c.args.kept.node; reader = c.args.kept.reader }) (record { scan = c.args.asked.node; reader = c.args.asked.reader }) c.args.rules c.args.group.rules (kept_side kept.build) _ _ _ _ kept.has
    (c.write_grouped.ensures.groups kept.build kept.build_is)

pub returns-in_default-clause-sweeps : goal.returns-in_default-clause-sweeps
returns-in_default-clause-sweeps g c =
    joined_swept_kept (record { scan = c.args.kept.node; reader = c.args.kept.reader }) (record { scan = c.args.asked.node; reader = c.args.asked.reader }) c.args.rules (g.H.Io.seen c.args.io.now) c.args.steps.now c.args.steps.now (omega arith)

pub returns-in_default-clause-groups : goal.returns-in_default-clause-groups
returns-in_default-clause-groups g c =
    joined_stopped (record { scan = c.args.kept.node; reader = c.args.kept.reader }) (record { scan = c.args.asked.node; reader = c.args.asked.reader }) c.args.rules c.args.group.rules _ _ faults.OutOfMemory (inl (refl, refl))
