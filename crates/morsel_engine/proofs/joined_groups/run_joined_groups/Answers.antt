use Rattle.std.proofs.Common.{◌≡◌, length, ap, sym, refl, inr, ◌∙◌}
use Rattle.std.specs.Prelude.{Some}
use Rattle.morsel_meaning.specs.declared.fault.Fault.TheVariants as faults
use Rattle.morsel_group_units.specs.GroupAsks.{GroupRulesSeen, rules_output}
use Rattle.morsel_group_reads.proofs.SideLemmas.{as_many_columns, rules_fit}
use Rattle.morsel_query.specs.declared.scan_plan.ScanPlan.{ScanPlan}
use Rattle.morsel_query.specs.Queries.{file_scan, join_part, query_parts}
use Rattle.morsel_engine.proofs.RunLemmas.{runs_refused}
use Rattle.morsel_engine.proofs.JoinFilesLemmas.{fit_made}
use Rattle.morsel_engine.proofs.JoinPartLemmas.{as_named, sides_not_opened, sides_not_made, left_open_side, right_open_side}
use Rattle.morsel_engine.proofs.GroupJoinLemmas.{output_read}
use Rattle.morsel_engine.proofs.GroupJoinPartLemmas.{rules_are, reads_columns, joined_names_met, runs_group_sides, swept_group_sides}
use Rattle.morsel_engine.proofs.joined_groups.run_joined_groups.Goals as goal

pub returns-in_default-clause-runs : goal.returns-in_default-clause-runs
returns-in_default-clause-runs g c =
    runs_refused (g.H.Io.seen c.args.io.now) (query_parts c.args.left (Some c.args.join) (Some c.args.group) c.args.sink) c.args.options.now faults.OutOfMemory (inr refl)

pub returns-in_default-copied-clause-runs : goal.returns-in_default-copied-clause-runs
returns-in_default-copied-clause-runs g c =
    runs_refused (g.H.Io.seen c.args.io.now) (query_parts c.args.left (Some c.args.join) (Some c.args.group) c.args.sink) c.args.options.now faults.OutOfMemory (inr refl)

pub columns_read-requires : goal.columns_read-requires
columns_read-requires g c = as_many_columns _ _ c.args.plan.rules c.requires.plan.fit

pub returns-in-Err-clause-runs : goal.returns-in-Err-clause-runs
returns-in-Err-clause-runs g c = sides_not_opened _ _ c.args.left c.args.join (Some c.args.group) c.args.sink _ _ _ _ c.deref.ensures.value c.deref-2.ensures.value c.requires.planned c.in-Err.ensures.opens

pub returns-in-Err-make_sink-clause-runs : goal.returns-in-Err-make_sink-clause-runs
returns-in-Err-make_sink-clause-runs g c =
    let opened = c.in-Ok-open_sides.ensures.opens in
    sides_not_made _ _ _ c.args.left c.args.join (Some c.args.group) c.args.sink _ _ opened.0 _ c.requires.planned (as_named _ _ c.args.left c.args.join _ _ _ _ c.deref.ensures.value c.deref-2.ensures.value opened.1)
    c.in-Err-make_sink.ensures.made

pub group_joined_files-requires-clause-left_open : goal.group_joined_files-requires-clause-left_open
group_joined_files-requires-clause-left_open g c =
    let opened = c.in-Ok-open_sides.ensures.opens in
    left_open_side _ _ _ c.args.left c.args.join (Some c.args.group) c.args.sink c.in-Ok-open_sides.files.left.items c.in-Ok-open_sides.files.right.items opened.0 c.requires.sound c.requires.planned
    (as_named _ _ c.args.left c.args.join _ _ _ _ c.deref.ensures.value c.deref-2.ensures.value opened.1) (c.in-Ok-open_sides.ensures.one_each ∙ ap length c.deref.ensures.value) c.in-Ok-make_sink.ensures.made _ c.requires.columns

pub group_joined_files-requires-clause-right_open : goal.group_joined_files-requires-clause-right_open
group_joined_files-requires-clause-right_open g c =
    let opened = c.in-Ok-open_sides.ensures.opens in
    right_open_side _ _ _ c.args.left c.args.join (Some c.args.group) c.args.sink c.in-Ok-open_sides.files.left.items c.in-Ok-open_sides.files.right.items opened.0 c.requires.sound c.requires.planned
    (as_named _ _ c.args.left c.args.join _ _ _ _ c.deref.ensures.value c.deref-2.ensures.value opened.1) (c.in-Ok-open_sides.ensures.one_each ∙ ap length c.deref.ensures.value) c.in-Ok-make_sink.ensures.made _
    (ap (λ (plan : ScanPlan). plan.output) c.requires.plan.right)

pub group_joined_files-requires-clause-fit : goal.group_joined_files-requires-clause-fit
group_joined_files-requires-clause-fit g c =
    rules_fit c.args.group _ _ c.args.plan.rules c.in-Ok.rules c.in-Ok.ensures.keeps (fit_made _ _ _ _ c.args.plan.rules c.requires.columns (ap (λ (plan : ScanPlan). plan.output) c.requires.plan.right) c.requires.plan.fit)

pub new-requires-clause-sound : goal.new-requires-clause-sound
new-requires-clause-sound g c =
    joined_names_met c.in-Ok-copied.input c.args.left c.args.join c.args.group c.args.plan.rules c.in-Ok.rules c.in-Ok-copied.ensures.ok
    (reads_columns c.args.left c.args.join c.args.group c.args.sink c.args.plan.rules c.in-Ok.rules c.in-Ok.ensures.keeps c.requires.plan.rules c.requires.planned)

pub group_joined_files-requires-clause-columns : goal.group_joined_files-requires-clause-columns
group_joined_files-requires-clause-columns g c =
    let cloned : c.in-Ok-copied.input ≡ c.in-Ok.rules.output = c.in-Ok-copied.ensures.ok in ap (λ (rules : GroupRulesSeen). rules.columns) c.new.ensures ∙ cloned

pub group_joined_files-requires-clause-output : goal.group_joined_files-requires-clause-output
group_joined_files-requires-clause-output g c =
    let cloned : c.in-Ok-copied.input ≡ c.in-Ok.rules.output = c.in-Ok-copied.ensures.ok in
    c.requires.output
    ∙ sym (ap rules_output (rules_are c.new.result c.in-Ok-copied.input c.args.group c.in-Ok.rules c.new.ensures cloned) ∙ output_read (file_scan c.args.left) (join_part c.args.join) c.args.group c.args.plan.rules c.in-Ok.rules
    (reads_columns c.args.left c.args.join c.args.group c.args.sink c.args.plan.rules c.in-Ok.rules c.in-Ok.ensures.keeps c.requires.plan.rules c.requires.planned))

pub returns-clause-runs : goal.returns-clause-runs
returns-clause-runs g c =
    let cloned : c.in-Ok-copied.input ≡ c.in-Ok.rules.output = c.in-Ok-copied.ensures.ok in
    let opened = c.in-Ok-open_sides.ensures.opens in
    runs_group_sides _ _ _ c.args.left c.args.join c.args.group c.args.sink c.in-Ok-open_sides.files.left.items c.in-Ok-open_sides.files.right.items opened.0 c.requires.sound c.requires.planned
    (as_named _ _ c.args.left c.args.join _ _ _ _ c.deref.ensures.value c.deref-2.ensures.value opened.1) (c.in-Ok-open_sides.ensures.one_each ∙ ap length c.deref.ensures.value) c.in-Ok-make_sink.ensures.made
    c.args.plan.rules c.args.options.now c.requires.plan.rules c.in-Ok.rules
    (reads_columns c.args.left c.args.join c.args.group c.args.sink c.args.plan.rules c.in-Ok.rules c.in-Ok.ensures.keeps c.requires.plan.rules c.requires.planned)
    _ (rules_are c.new.result c.in-Ok-copied.input c.args.group c.in-Ok.rules c.new.ensures cloned) _ _ c.group_joined_files.ensures.groups

pub returns-clause-sweeps : goal.returns-clause-sweeps
returns-clause-sweeps g c =
    let cloned : c.in-Ok-copied.input ≡ c.in-Ok.rules.output = c.in-Ok-copied.ensures.ok in
    let opened = c.in-Ok-open_sides.ensures.opens in
    swept_group_sides _ _ _ c.args.left c.args.join c.args.group c.args.sink c.in-Ok-open_sides.files.left.items c.in-Ok-open_sides.files.right.items opened.0 c.requires.sound c.requires.planned
    (as_named _ _ c.args.left c.args.join _ _ _ _ c.deref.ensures.value c.deref-2.ensures.value opened.1) (c.in-Ok-open_sides.ensures.one_each ∙ ap length c.deref.ensures.value) c.in-Ok-make_sink.ensures.made
    c.args.plan.rules c.args.options.now c.requires.plan.rules c.in-Ok.rules
    (reads_columns c.args.left c.args.join c.args.group c.args.sink c.args.plan.rules c.in-Ok.rules c.in-Ok.ensures.keeps c.requires.plan.rules c.requires.planned)
    _ (rules_are c.new.result c.in-Ok-copied.input c.args.group c.in-Ok.rules c.new.ensures cloned) _ _ c.group_joined_files.ensures.groups
    _ _ c.group_joined_files.ensures.sweeps
