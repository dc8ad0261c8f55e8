use Rattle.std.proofs.Common.{length, ap, ◌∙◌}
use Rattle.std.specs.Prelude.{None}
use Rattle.morsel_query.specs.declared.scan_plan.ScanPlan.{ScanPlan}
use Rattle.morsel_query.specs.Queries.{file_scan}
use Rattle.morsel_engine.proofs.JoinFilesLemmas.{fit_made}
use Rattle.morsel_engine.proofs.JoinPartLemmas.{as_named, sides_not_opened, sides_not_made, left_open_side, right_open_side, runs_sides, swept_sides}
use Rattle.morsel_engine.proofs.JoinStayLemmas.{joined_same}
use Rattle.morsel_engine.proofs.run.run_join.Goals as goal

pub returns-in-Err-clause-runs : goal.returns-in-Err-clause-runs
returns-in-Err-clause-runs g c = sides_not_opened _ _ c.args.left c.args.join None c.args.sink _ _ _ _ c.deref.ensures.value c.deref-2.ensures.value c.requires.planned c.in-Err.ensures.opens

pub returns-in-Err-make_writers-clause-runs : goal.returns-in-Err-make_writers-clause-runs
returns-in-Err-make_writers-clause-runs g c =
    let opened = c.in-Ok.ensures.opens in
    sides_not_made _ _ _ c.args.left c.args.join None c.args.sink _ _ opened.0 _ c.requires.planned (as_named _ _ c.args.left c.args.join _ _ _ _ c.deref.ensures.value c.deref-2.ensures.value opened.1)
    c.in-Err-make_writers.ensures.made

pub join_files-requires-clause-left_open : goal.join_files-requires-clause-left_open
join_files-requires-clause-left_open g c =
    let opened = c.in-Ok.ensures.opens in
    left_open_side _ _ _ c.args.left c.args.join None c.args.sink c.in-Ok.files.left.items c.in-Ok.files.right.items opened.0 c.requires.sound c.requires.planned
    (as_named _ _ c.args.left c.args.join _ _ _ _ c.deref.ensures.value c.deref-2.ensures.value opened.1) (c.in-Ok.ensures.one_each ∙ ap length c.deref.ensures.value) c.in-Ok-make_writers.ensures.made _ c.requires.columns

pub join_files-requires-clause-right_open : goal.join_files-requires-clause-right_open
join_files-requires-clause-right_open g c =
    let opened = c.in-Ok.ensures.opens in
    right_open_side _ _ _ c.args.left c.args.join None c.args.sink c.in-Ok.files.left.items c.in-Ok.files.right.items opened.0 c.requires.sound c.requires.planned
    (as_named _ _ c.args.left c.args.join _ _ _ _ c.deref.ensures.value c.deref-2.ensures.value opened.1) (c.in-Ok.ensures.one_each ∙ ap length c.deref.ensures.value) c.in-Ok-make_writers.ensures.made _
    (ap (λ (plan : ScanPlan). plan.output) c.requires.plan.right)

pub join_files-requires-clause-fit : goal.join_files-requires-clause-fit
join_files-requires-clause-fit g c = fit_made _ _ _ _ c.args.plan.rules c.requires.columns (ap (λ (plan : ScanPlan). plan.output) c.requires.plan.right) c.requires.plan.fit

pub returns-clause-runs : goal.returns-clause-runs
returns-clause-runs g c =
    let opened = c.in-Ok.ensures.opens in
    runs_sides _ _ _ c.args.left c.args.join c.args.sink c.in-Ok.files.left.items c.in-Ok.files.right.items opened.0 c.requires.sound c.requires.planned
    (as_named _ _ c.args.left c.args.join _ _ _ _ c.deref.ensures.value c.deref-2.ensures.value opened.1) (c.in-Ok.ensures.one_each ∙ ap length c.deref.ensures.value) c.in-Ok-make_writers.ensures.made
    c.args.plan.rules c.args.options.now c.requires.plan.rules _ _ c.join_files.ensures.joins

pub returns-clause-sweeps : goal.returns-clause-sweeps
returns-clause-sweeps g c =
    let opened = c.in-Ok.ensures.opens in
    let same = joined_same _ (file_scan c.args.left) (file_scan c.args.join.right) c.in-Ok.files.left.items c.in-Ok.files.right.items c.args.plan.rules c.args.options.now _ _ c.join_files.ensures.joins in
    swept_sides _ _ _ c.args.left c.args.join c.args.sink c.in-Ok.files.left.items c.in-Ok.files.right.items opened.0 c.requires.sound c.requires.planned
    (as_named _ _ c.args.left c.args.join _ _ _ _ c.deref.ensures.value c.deref-2.ensures.value opened.1) (c.in-Ok.ensures.one_each ∙ ap length c.deref.ensures.value) c.in-Ok-make_writers.ensures.made
    c.args.plan.rules c.args.options.now c.requires.plan.rules _ _ _ same.0 same.1 c.join_files.ensures.sweeps
