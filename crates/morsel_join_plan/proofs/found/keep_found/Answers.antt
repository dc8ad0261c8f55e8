use Rattle.std.proofs.Common.{ap, refl, subst, sym, ◌∙◌}
use Rattle.std.specs.Arc.{arc_value}
use Rattle.morsel_scan.specs.Scans.{CsvScan}
use Rattle.morsel_scan_units.specs.LaneJobs.{DecodesBetween, LaneFor}
use Rattle.morsel_join_tasks.specs.Beside.{answer_beside}
use Rattle.morsel_keep_run.specs.KeepRuns.{KeepsOrNot, SweepsKept}
use Rattle.morsel_join_plan.proofs.LaneFacts.{unit_out_of_memory}
use Rattle.morsel_join_plan.proofs.PortFacts.{decodes_rows, fed_by, holds_all, holds_one, holds_two, maker_fault, some_follows}
use Rattle.morsel_join_plan.proofs.found.keep_found.Goals as goal

pub keep_found_nodes-requires-clause-lane : goal.keep_found_nodes-requires-clause-lane
keep_found_nodes-requires-clause-lane g c = fed_by _ _ _ _ _ _ c.requires.rows c.requires.fed

pub keep_found_nodes-requires-clause-middle_jobs : goal.keep_found_nodes-requires-clause-middle_jobs
keep_found_nodes-requires-clause-middle_jobs g c = record {
  other = c.args.lanes.now.rows;
  takes = c.requires.middle_recv;
  gives = c.requires.middle_send;
}

pub keep_found_nodes-requires-clause-first_fits : goal.keep_found_nodes-requires-clause-first_fits
keep_found_nodes-requires-clause-first_fits g c =
    let made = ap (λ node. arc_value node.makers.node) c.new-first.ensures ∙ c.new.ensures in
    c.initialize.ensures.fits c.args.lanes.now.first.recv.items c.args.lanes.now.first.send.items (
      c.args.lanes.now.fed,
      c.args.lanes.now.rows,
      c.requires.first.0,
      c.requires.first.1,
      subst (λ (s : CsvScan). DecodesBetween s c.args.lanes.now.fed c.args.lanes.now.rows) (sym made) (decodes_rows _ _ _ _ _ _ c.requires.rows c.requires.fed),
    )

pub keep_found_nodes-requires-clause-middle_fits : goal.keep_found_nodes-requires-clause-middle_fits
keep_found_nodes-requires-clause-middle_fits g c = rw (sym c.in-Some.ensures.value) at c.requires.fits

pub keep_found_nodes-requires-clause-last_fits : goal.keep_found_nodes-requires-clause-last_fits
keep_found_nodes-requires-clause-last_fits g c = rw (sym c.in-Some-take.ensures.value) at c.requires.last_fits

pub keep_found_nodes-requires-clause-middle : goal.keep_found_nodes-requires-clause-middle
keep_found_nodes-requires-clause-middle g c = rw (sym c.in-Some.ensures.value) at c.requires.finds

pub keep_found_nodes-requires-clause-last : goal.keep_found_nodes-requires-clause-last
keep_found_nodes-requires-clause-last g c = rw (sym c.in-Some-take.ensures.value) at c.requires.keeps

pub keep_found_nodes-requires-clause-first_fails : goal.keep_found_nodes-requires-clause-first_fails
keep_found_nodes-requires-clause-first_fails g c fault may = maker_fault c.args.lanes.now.fed c.args.lanes.now.first.recv.items fault c.requires.first.0 may

pub keep_found_nodes-requires-clause-middle_fails : goal.keep_found_nodes-requires-clause-middle_fails
keep_found_nodes-requires-clause-middle_fails g c fault may =
    let fails = rw (sym c.in-Some.ensures.value) at c.requires.fails in
    unit_out_of_memory c.args.lanes.now.fed fault (fails fault may)

pub keep_found_nodes-requires-clause-last_fails : goal.keep_found_nodes-requires-clause-last_fails
keep_found_nodes-requires-clause-last_fails g c fault may =
    let fails = rw (sym c.in-Some-take.ensures.value) at c.requires.last_fails in
    unit_out_of_memory c.args.lanes.now.fed fault (fails fault may)

pub keep_found_nodes-requires-clause-fed_tokens : goal.keep_found_nodes-requires-clause-fed_tokens
keep_found_nodes-requires-clause-fed_tokens g c = some_follows _ _ c.args.board.now c.requires.tokens (λ board hold. hold c.args.lanes.now.fed (ap (λ (lane : LaneFor). lane.tokens) c.requires.fed))

pub keep_found_nodes-requires-clause-first_tokens : goal.keep_found_nodes-requires-clause-first_tokens
keep_found_nodes-requires-clause-first_tokens g c =
    some_follows _ _ c.args.board.now c.requires.tokens (λ board hold. holds_one _ _ _ _ c.args.lanes.now.fed _ (ap (λ (lane : LaneFor). lane.tokens) c.requires.fed) c.requires.first.0 hold)

pub keep_found_nodes-requires-clause-middle_tokens : goal.keep_found_nodes-requires-clause-middle_tokens
keep_found_nodes-requires-clause-middle_tokens g c =
    some_follows _ _ c.args.board.now c.requires.tokens (λ board hold. holds_two _ _ _ _ c.args.lanes.now.rows _ refl c.requires.middle_recv hold)

pub keep_found_nodes-requires-clause-last_tokens : goal.keep_found_nodes-requires-clause-last_tokens
keep_found_nodes-requires-clause-last_tokens g c =
    some_follows _ _ c.args.board.now c.requires.tokens (λ board hold. holds_all _ _ _ _ c.args.lanes.now.last.recv.items c.requires.last_tokens hold)

pub returns-clause-sweeps : goal.returns-clause-sweeps
returns-clause-sweeps g c =
    let scan_is = ap (λ (lane : LaneFor). lane.scan) c.requires.fed ∙ ap (λ (lane : LaneFor). lane.scan) c.requires.rows in
    subst (λ (s : CsvScan). SweepsKept s c.args.reader c.args.per_row (g.H.Io.seen c.args.io.now) c.args.steps.now c.keep_found_nodes.new.steps) scan_is c.keep_found_nodes.ensures.sweeps

pub returns-clause-finding_stays : goal.returns-clause-finding_stays
returns-clause-finding_stays g c begun was = c.keep_found_nodes.ensures.finding_stays begun (rw (sym c.in-Some.ensures.value) at was)

pub returns-clause-keeping_stays : goal.returns-clause-keeping_stays
returns-clause-keeping_stays g c begun was = c.keep_found_nodes.ensures.keeping_stays begun (rw (sym c.in-Some-take.ensures.value) at was)

pub returns-clause-keeps : goal.returns-clause-keeps
returns-clause-keeps g c =
    let scan_is = ap (λ (lane : LaneFor). lane.scan) c.requires.fed ∙ ap (λ (lane : LaneFor). lane.scan) c.requires.rows in
    subst (λ (s : CsvScan). KeepsOrNot s c.args.reader (g.H.Io.seen c.args.io.now) (answer_beside c.keep_found_nodes.result) (g.H.Io.seen c.keep_found_nodes.new.io)) scan_is c.keep_found_nodes.ensures.keeps
