use Rattle.std.proofs.Common.{IfOk, ap, refl, subst, sym, ◌∙◌}
use Rattle.std.specs.Arc.{arc_value}
use Rattle.morsel_load.specs.declared.load.LoadKind.TheVariants.{Pieces}
use Rattle.morsel_scan.specs.Scans.{CsvScan}
use Rattle.morsel_line.specs.RowStages.{ScannedRows}
use Rattle.morsel_scan_units.specs.LaneJobs.{DecodesBetween, LaneFor}
use Rattle.morsel_probe_run.specs.ProbeRuns.{AreAllUpTo, SweepsFound, WritesFoundOrNot, rows_written}
use Rattle.morsel_join_plan.proofs.LaneFacts.{unit_out_of_memory}
use Rattle.morsel_join_plan.proofs.PortFacts.{decodes_rows, holds_one, holds_two, made_fault, maker_fault, some_follows}
use Rattle.morsel_join_plan.proofs.look_up.find_between.Goals as goal

pub probe_nodes-requires-clause-reader : goal.probe_nodes-requires-clause-reader
probe_nodes-requires-clause-reader g c = ap (λ (lane : LaneFor). lane.reader) c.requires.given ∙ ap (λ (lane : LaneFor). lane.reader) c.requires.rows

pub probe_nodes-requires-clause-outside : goal.probe_nodes-requires-clause-outside
probe_nodes-requires-clause-outside g c = ap (λ (lane : LaneFor). lane.outside) c.requires.given ∙ ap (λ (lane : LaneFor). lane.outside) c.requires.rows

pub probe_nodes-requires-clause-kind : goal.probe_nodes-requires-clause-kind
probe_nodes-requires-clause-kind g c = ap (λ (lane : LaneFor). lane.kind) c.requires.given

pub probe_nodes-requires-clause-fed : goal.probe_nodes-requires-clause-fed
probe_nodes-requires-clause-fed g c =
    c.requires.fed ∙ ap (λ (lane : LaneFor). record lane { kind = Pieces }) c.requires.rows ∙ sym (ap (λ (lane : LaneFor). record lane { kind = Pieces; stage = ScannedRows }) c.requires.given ∙ ap (λ (lane : LaneFor). record lane { kind = Pieces; stage = ScannedRows }) c.requires.rows)

pub probe_nodes-requires-clause-middle_jobs : goal.probe_nodes-requires-clause-middle_jobs
probe_nodes-requires-clause-middle_jobs g c = record {
  other = c.args.lanes.now.rows;
  takes = c.requires.middle_recv;
  gives = c.requires.middle_send;
}

pub probe_nodes-requires-clause-first_fits : goal.probe_nodes-requires-clause-first_fits
probe_nodes-requires-clause-first_fits g c =
    let made = ap (λ node. arc_value node.makers.node) c.new-first.ensures ∙ c.new.ensures in
    c.initialize.ensures.fits c.args.lanes.now.first.recv.items c.args.lanes.now.first.send.items (
      c.args.lanes.now.fed,
      c.args.lanes.now.rows,
      c.requires.first.0,
      c.requires.first.1,
      subst (λ (s : CsvScan). DecodesBetween s c.args.lanes.now.fed c.args.lanes.now.rows) (sym made) (decodes_rows _ _ _ _ _ _ c.requires.rows c.requires.fed),
    )

pub probe_nodes-requires-clause-first_fails : goal.probe_nodes-requires-clause-first_fails
probe_nodes-requires-clause-first_fails g c fault may =
    made_fault _ c.args.lanes.now.rows c.args.lanes.now.found c.args.lanes.now.given (ap (λ (lane : LaneFor). lane.kind) c.requires.rows) c.requires.found c.requires.given c.args.lanes.now.fed fault
    (ap (λ (lane : LaneFor). lane.stage) c.requires.rows) c.requires.fed (maker_fault c.args.lanes.now.fed c.args.lanes.now.first.recv.items fault c.requires.first.0 may)

pub probe_nodes-requires-clause-fed_tokens : goal.probe_nodes-requires-clause-fed_tokens
probe_nodes-requires-clause-fed_tokens g c = some_follows _ _ c.args.board.now c.requires.tokens (λ board hold. hold c.args.lanes.now.fed (ap (λ (lane : LaneFor). lane.tokens) c.requires.fed))

pub probe_nodes-requires-clause-first_tokens : goal.probe_nodes-requires-clause-first_tokens
probe_nodes-requires-clause-first_tokens g c = some_follows _ _ c.args.board.now c.requires.tokens (λ board hold. holds_one _ _ _ _ c.args.lanes.now.fed _ (ap (λ (lane : LaneFor). lane.tokens) c.requires.fed) c.requires.first.0 hold)

pub probe_nodes-requires-clause-middle_tokens : goal.probe_nodes-requires-clause-middle_tokens
probe_nodes-requires-clause-middle_tokens g c = some_follows _ _ c.args.board.now c.requires.tokens (λ board hold. holds_two _ _ _ _ c.args.lanes.now.rows _ refl c.requires.middle_recv hold)

pub probe_nodes-requires-clause-last_tokens : goal.probe_nodes-requires-clause-last_tokens
probe_nodes-requires-clause-last_tokens g c = some_follows _ _ c.args.board.now c.requires.tokens (λ board hold. holds_one _ _ _ _ c.args.lanes.now.found _ (ap (λ (lane : LaneFor). lane.tokens) c.requires.found) c.requires.last.0 hold)

pub probe_nodes-requires-clause-given_tokens : goal.probe_nodes-requires-clause-given_tokens
probe_nodes-requires-clause-given_tokens g c = some_follows _ _ c.args.board.now c.requires.tokens (λ board hold. hold c.args.lanes.now.given (ap (λ (lane : LaneFor). lane.tokens) c.requires.given))

pub returns-clause-sweeps : goal.returns-clause-sweeps
returns-clause-sweeps g c side is =
    let scan_is = ap (λ (lane : LaneFor). lane.scan) c.requires.given ∙ ap (λ (lane : LaneFor). lane.scan) c.requires.rows in
    subst (λ (s : CsvScan). SweepsFound s c.args.reader side (g.H.Io.seen c.args.io.now) c.args.steps.now c.probe_nodes.new.steps) scan_is (c.probe_nodes.ensures.sweeps side is)

pub returns-clause-all : goal.returns-clause-all
returns-clause-all g c side is =
    let scan_is = ap (λ (lane : LaneFor). lane.scan) c.requires.given ∙ ap (λ (lane : LaneFor). lane.scan) c.requires.rows in
    subst (λ (s : CsvScan). IfOk c.probe_nodes.result (λ end. AreAllUpTo s c.args.reader (g.H.Io.seen c.args.io.now) end.given)) scan_is (c.probe_nodes.ensures.all side is)

pub returns-clause-writes : goal.returns-clause-writes
returns-clause-writes g c side is =
    let scan_is = ap (λ (lane : LaneFor). lane.scan) c.requires.given ∙ ap (λ (lane : LaneFor). lane.scan) c.requires.rows in
    subst (λ (s : CsvScan). WritesFoundOrNot s c.args.reader side c.args.run.bound (g.H.Io.seen c.args.io.now) (rows_written c.probe_nodes.result) (g.H.Io.seen c.probe_nodes.new.io)) scan_is (c.probe_nodes.ensures.writes side is)

pub probe_nodes-requires-clause-middle : goal.probe_nodes-requires-clause-middle
probe_nodes-requires-clause-middle g c = rw (sym c.in-Some.ensures.value) at c.requires.finds

pub probe_nodes-requires-clause-last : goal.probe_nodes-requires-clause-last
probe_nodes-requires-clause-last g c = rw (sym c.in-Some-take.ensures.value) at c.requires.gives

pub probe_nodes-requires-clause-middle_fits : goal.probe_nodes-requires-clause-middle_fits
probe_nodes-requires-clause-middle_fits g c = rw (sym c.in-Some.ensures.value) at c.requires.fits

pub probe_nodes-requires-clause-last_fits : goal.probe_nodes-requires-clause-last_fits
probe_nodes-requires-clause-last_fits g c = rw (sym c.in-Some-take.ensures.value) at c.requires.last_fits

pub probe_nodes-requires-clause-middle_fails : goal.probe_nodes-requires-clause-middle_fails
probe_nodes-requires-clause-middle_fails g c fault may =
    let fails = rw (sym c.in-Some.ensures.value) at c.requires.fails in
    unit_out_of_memory c.args.lanes.now.given fault (fails fault may)

pub probe_nodes-requires-clause-last_fails : goal.probe_nodes-requires-clause-last_fails
probe_nodes-requires-clause-last_fails g c = rw (sym c.in-Some-take.ensures.value) at c.requires.last_fails

pub returns-clause-stays : goal.returns-clause-stays
returns-clause-stays g c begun was = c.probe_nodes.ensures.stays begun (rw (sym c.in-Some.ensures.value) at was)
