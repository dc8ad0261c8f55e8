use Rattle.std.proofs.Common.{Ok, Err, Some, inl, refl, sym, ap, subst, ◌∙◌}
use Rattle.morsel_meaning.specs.declared.fault.Fault.TheVariants as faults
use Rattle.morsel_scan.specs.Scans.{CsvScan}
use Rattle.morsel_scan.specs.ScanColumns.{output_fields}
use Rattle.morsel_scan_units.specs.LaneJobs.{LaneFor}
use Rattle.morsel_scan_units.specs.LaneRows.{CarriesCuts}
use Rattle.morsel_group_units.specs.GroupAsks.{GroupRulesSeen}
use Rattle.morsel_keep_run.specs.KeepRuns.{KeepsOrNot}
use Rattle.morsel_join_plan.proofs.CourseLemmas.{stops_behind, was_kept}
use Rattle.morsel_join_plan.proofs.PortFacts.{some_follows}
use Rattle.morsel_join_plan.proofs.TurnFacts.{lane_again, tokens_again}
use Rattle.morsel_join_plan.specs.JoinLanes.{StopsKept}
use Rattle.morsel_group_plan.proofs.CourseFacts.{of_due, takes_one}
use Rattle.morsel_group_plan.proofs.JoinedCourse.{taken_stopped}
use Rattle.morsel_group_plan.proofs.NodeFacts.{carries_cuts}
use Rattle.morsel_group_plan.proofs.scan.take_scan.Goals as goal

pub new-taking-requires-clause-cuts : goal.new-taking-requires-clause-cuts
new-taking-requires-clause-cuts g c =
    carries_cuts c.args.scan.node c.args.scan.reader (g.H.Io.seen c.args.io.now) _ c.in_ok-lanes.lanes.rows _ c.in_ok-lanes.ensures.rows (ap (λ (r : GroupRulesSeen). r.columns) c.in_ok-rules.ensures.ok ∙ c.requires.columns)

pub take_rows-requires-clause-tokens : goal.take_rows-requires-clause-tokens
take_rows-requires-clause-tokens g c = some_follows _ _ c.args.board.now c.requires.tokens (λ board hold. tokens_again _ _ c.in_ok-lanes.lanes.rows _ _ (ap (λ (lane : LaneFor). lane.tokens) c.in_ok-lanes.ensures.rows) hold)

pub returns-in_default-clause-stops : goal.returns-in_default-clause-stops
returns-in_default-clause-stops g c =
    stops_behind (record { scan = c.args.scan.node; reader = c.args.scan.reader }) (g.H.Io.seen c.args.io.now) (g.H.Io.seen c.take_rows.new.io) c.in_ok-taken.given faults.OutOfMemory
    (subst (λ (s : CsvScan). KeepsOrNot s c.args.scan.reader (g.H.Io.seen c.args.io.now) (Ok c.in_ok-taken.given) (g.H.Io.seen c.take_rows.new.io)) c.in_ok-source.ensures.ok c.in_ok-taken.ensures.keeps) refl

pub returns-clause-taken : goal.returns-clause-taken
returns-clause-taken g c = record {
  given = c.in_ok-taken.given;
  keeps = was_kept (record { scan = c.args.scan.node; reader = c.args.scan.reader }) (g.H.Io.seen c.args.io.now) (g.H.Io.seen c.take_rows.new.io) c.in_ok-taken.given
      (subst (λ (s : CsvScan). KeepsOrNot s c.args.scan.reader (g.H.Io.seen c.args.io.now) (Ok c.in_ok-taken.given) (g.H.Io.seen c.take_rows.new.io)) c.in_ok-source.ensures.ok c.in_ok-taken.ensures.keeps);
  tokens = g.K.AtHome.home c.args.group.now;
  takes = takes_one c.new-taking.result.phase c.in_ok-taken.taken.phase c.args.rules _ c.in_ok-taken.given (c.new-taking.ensures.rules ∙ ap Some c.in_ok-rules.ensures.ok) (c.new-taking.ensures.job ∙ ap Some c.in_ok-lanes.ensures.rows)
      c.new-taking.ensures.ends c.in_ok-taken.ensures.stays c.in-Ok.ensures.at c.in-Ok.ensures.ends;
}

pub take_rows-requires-clause-suits : goal.take_rows-requires-clause-suits
take_rows-requires-clause-suits g c = c.requires.suits

pub take_rows-requires-clause-start : goal.take_rows-requires-clause-start
take_rows-requires-clause-start g c = c.requires.start

pub take_rows-requires-clause-fed : goal.take_rows-requires-clause-fed
take_rows-requires-clause-fed g c = c.in_ok-lanes.ensures.fed

pub take_rows-requires-clause-first : goal.take_rows-requires-clause-first
take_rows-requires-clause-first g c = c.in_ok-lanes.ensures.first

pub take_rows-requires-clause-last : goal.take_rows-requires-clause-last
take_rows-requires-clause-last g c = c.in_ok-lanes.ensures.last

pub take_rows-requires-clause-fits : goal.take_rows-requires-clause-fits
take_rows-requires-clause-fits g c = c.new-taking.ensures.fits c.in_ok-lanes.lanes.rows

pub take_rows-requires-clause-at : goal.take_rows-requires-clause-at
take_rows-requires-clause-at g c = c.new-taking.ensures.at

pub take_rows-requires-clause-new : goal.take_rows-requires-clause-new
take_rows-requires-clause-new g c = c.new-taking.ensures.none

pub take_rows-requires-clause-rows : goal.take_rows-requires-clause-rows
take_rows-requires-clause-rows g c = lane_again c.in_ok-lanes.lanes.rows _ _ _ _ _ _ c.in_ok-lanes.ensures.rows c.in_ok-source.ensures.ok refl

pub returns-in_err-rules-clause-stops : goal.returns-in_err-rules-clause-stops
returns-in_err-rules-clause-stops g c =
    of_due (λ fault. StopsKept (record { scan = c.args.scan.node; reader = c.args.scan.reader }) (g.H.Io.seen c.args.io.now) fault (g.H.Io.seen c.args.io.now)) faults.OutOfMemory
    c.from_residual-in_err-rules.result c.from_residual-in_err-rules.ensures.1 (inl (refl, refl))

pub returns-in_err-source-clause-stops : goal.returns-in_err-source-clause-stops
returns-in_err-source-clause-stops g c =
    of_due (λ fault. StopsKept (record { scan = c.args.scan.node; reader = c.args.scan.reader }) (g.H.Io.seen c.args.io.now) fault (g.H.Io.seen c.args.io.now)) faults.OutOfMemory
    c.from_residual-in_err-source.result c.from_residual-in_err-source.ensures.1 (inl (refl, refl))

pub returns-in_err-taken-clause-stops : goal.returns-in_err-taken-clause-stops
returns-in_err-taken-clause-stops g c =
    of_due (λ fault. StopsKept (record { scan = c.args.scan.node; reader = c.args.scan.reader }) (g.H.Io.seen c.args.io.now) fault (g.H.Io.seen c.take_rows.new.io)) c.in_err-taken.field-0.0
    c.from_residual-in_err-taken.result c.from_residual-in_err-taken.ensures.1
    (taken_stopped (record { scan = c.args.scan.node; reader = c.args.scan.reader }) (g.H.Io.seen c.args.io.now) (g.H.Io.seen c.take_rows.new.io) c.in_err-taken.field-0.0
    (subst (λ (s : CsvScan). KeepsOrNot s c.args.scan.reader (g.H.Io.seen c.args.io.now) (Err c.in_err-taken.field-0.0) (g.H.Io.seen c.take_rows.new.io)) c.in_ok-source.ensures.ok c.in_err-taken.ensures.keeps))
