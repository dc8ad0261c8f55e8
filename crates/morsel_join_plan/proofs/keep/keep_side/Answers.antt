use Rattle.std.proofs.Common.{Ok, Some, refl, ap, subst, ◌∙◌}
use Rattle.morsel_meaning.specs.declared.fault.Fault.TheVariants as faults
use Rattle.morsel_scan.specs.Scans.{CsvScan}
use Rattle.morsel_scan_units.specs.LaneJobs.{LaneFor}
use Rattle.morsel_keep_run.specs.KeepRuns.{KeepsOrNot}
use Rattle.morsel_join_plan.proofs.CourseLemmas.{stops_behind, was_kept}
use Rattle.morsel_join_plan.proofs.LaneFacts.{kept_scan, still_asks}
use Rattle.morsel_join_plan.proofs.PortFacts.{some_follows}
use Rattle.morsel_join_plan.proofs.TurnFacts.{tokens_again}
use Rattle.morsel_join_plan.proofs.keep.keep_side.Goals as goal

pub keep_rows-requires-clause-tokens : goal.keep_rows-requires-clause-tokens
keep_rows-requires-clause-tokens g c = some_follows _ _ c.args.board.now c.requires.tokens (λ board hold. tokens_again _ _ c.in_ok-lanes.lanes.rows _ _ (ap (λ (lane : LaneFor). lane.tokens) c.in_ok-lanes.ensures.rows) hold)

pub returns-in_default-clause-stops : goal.returns-in_default-clause-stops
returns-in_default-clause-stops g c =
    stops_behind (record { scan = c.args.kept.node; reader = c.args.kept.reader }) (g.H.Io.seen c.args.io.now) (g.H.Io.seen c.keep_rows.new.io) c.in_ok-join.given faults.OutOfMemory
    (subst (λ (s : CsvScan). KeepsOrNot s c.args.kept.reader (g.H.Io.seen c.args.io.now) (Ok c.in_ok-join.given) (g.H.Io.seen c.keep_rows.new.io)) c.in_ok-source.ensures.ok c.in_ok-join.ensures.keeps) refl

pub returns-clause-kept : goal.returns-clause-kept
returns-clause-kept g c =
    kept_scan c.new-join.result.phase c.in_ok-join.join.phase c.end_keeping.new.join.phase c.in_ok-join.ensures.stays c.in-Ok.ensures.had c.args.kept.node c.args.kept.reader (g.H.Io.seen c.args.io.now) (g.H.Io.seen c.keep_rows.new.io) _ c.args.rules c.in_ok-join.given
    c.new-join.ensures.rules (c.new-join.ensures.job.0 ∙ ap Some c.in_ok-lanes.ensures.rows) c.in-Ok.ensures.kept
    (was_kept (record { scan = c.args.kept.node; reader = c.args.kept.reader }) (g.H.Io.seen c.args.io.now) (g.H.Io.seen c.keep_rows.new.io) c.in_ok-join.given
    (subst (λ (s : CsvScan). KeepsOrNot s c.args.kept.reader (g.H.Io.seen c.args.io.now) (Ok c.in_ok-join.given) (g.H.Io.seen c.keep_rows.new.io)) c.in_ok-source.ensures.ok c.in_ok-join.ensures.keeps))

pub returns-clause-asks : goal.returns-clause-asks
returns-clause-asks g c =
    still_asks c.new-join.result.phase c.in_ok-join.join.phase c.end_keeping.new.join.phase c.in_ok-join.ensures.stays c.in-Ok.ensures.had c.args.asked.now.columns (c.new-join.ensures.asked ∙ ap Some c.in_ok-asked_columns.ensures.ok)
