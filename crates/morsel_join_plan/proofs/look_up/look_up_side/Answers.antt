use Rattle.std.proofs.Common.{◌≡◌, IfOk, inl, refl, sym, ap, subst, ◌∙◌}
use Rattle.std.specs.Arc.{arc_value}
use Rattle.morsel_scan.specs.Scans.{CsvScan}
use Rattle.morsel_scan.specs.ScanColumns.{output_fields}
use Rattle.morsel_read.specs.ScanReads.{PiecesRead, SuitsPieces, pieces_at_start}
use Rattle.morsel_line.specs.RowStages.{FoundRows, StageSeen, staged_columns}
use Rattle.morsel_join.specs.BuildSides.{kept_side}
use Rattle.morsel_scan_units.specs.LaneJobs.{LaneFor}
use Rattle.morsel_probe_run.specs.ProbeRuns.{AreAllUpTo, SweepsFound, WritesFoundOrNot, rows_written}
use Rattle.morsel_join_plan.proofs.NodeFacts.{stays_same}
use Rattle.morsel_join_plan.proofs.PortFacts.{carries_rows, if_ok, some_follows}
use Rattle.morsel_join_plan.proofs.TurnFacts.{finding_node, finds_there, has_looked_up, lane_again, staged_again, texts_again, tokens_again, unswept_found}
use Rattle.morsel_join_plan.proofs.look_up.look_up_side.Goals as goal

pub find_into-requires-clause-tokens : goal.find_into-requires-clause-tokens
find_into-requires-clause-tokens g c = some_follows _ _ c.args.board.now c.requires.tokens (λ board hold. tokens_again _ _ c.in-Ok.ready.lanes.rows _ _ (ap (λ (lane : LaneFor). lane.tokens) c.in-Ok.ensures.rows) hold)

pub find_into-requires-clause-rows : goal.find_into-requires-clause-rows
find_into-requires-clause-rows g c = lane_again c.in-Ok.ready.lanes.rows c.args.asked.node _ c.args.asked.reader c.in-Ok.ready.reader (g.H.Io.seen c.args.io.now) _ c.in-Ok.ensures.rows c.in-Ok.ensures.source c.in-Ok.ensures.reader

pub find_into-requires-clause-found : goal.find_into-requires-clause-found
find_into-requires-clause-found g c =
    staged_again (FoundRows (kept_side (arc_value c.args.build.now))) c.in-Ok.ready.lanes.rows c.in-Ok.ready.lanes.found c.in-Ok.ready.lanes.given (ap (λ (lane : LaneFor). lane.stage) c.in-Ok.ensures.given) c.in-Ok.ensures.found

pub find_into-requires-clause-given : goal.find_into-requires-clause-given
find_into-requires-clause-given g c =
    texts_again (FoundRows (kept_side (arc_value c.args.build.now))) c.in-Ok.ready.lanes.rows c.in-Ok.ready.lanes.given (ap (λ (lane : LaneFor). lane.stage) c.in-Ok.ensures.given) c.in-Ok.ensures.given

pub find_into-requires-clause-columns : goal.find_into-requires-clause-columns
find_into-requires-clause-columns g c =
    c.in-Ok.ensures.sink ∙ sym (ap (λ (st : StageSeen). staged_columns st (output_fields (arc_value c.in-Ok.ready.nodes.source).scan)) (ap (λ (lane : LaneFor). lane.stage) c.in-Ok.ensures.given))

pub find_into-requires-clause-finds : goal.find_into-requires-clause-finds
find_into-requires-clause-finds g c =
    let ready = rw (sym c.in-Some.ensures.value) at c.requires.ready in
    let idle = rw (sym c.in-Some.ensures.value) at c.requires.idle in
    finding_node _ _ _ (c.in-Ok-look_up_in.ensures.none.0 ∙ ready) refl refl (c.in-Ok-look_up_in.ensures.none.1 ∙ idle) c.in-Ok-look_up_in.ensures.looks.0

pub find_into-requires-clause-fits : goal.find_into-requires-clause-fits
find_into-requires-clause-fits g c =
    let asks = rw (sym c.in-Some.ensures.value) at c.requires.asks in
    let build = rw (sym c.in-Some.ensures.value) at c.requires.build in (
      c.in-Ok.ready.lanes.rows,
      c.in-Ok.ready.lanes.rows,
      c.in-Ok.ready.lanes.found,
      c.in-Ok.ensures.middle_recv,
      c.in-Ok.ensures.middle_send,
      finds_there _ (arc_value c.args.build.now) c.in-Ok.ready.lanes.rows c.in-Ok.ready.lanes.found c.args.asked.columns c.in-Ok-look_up_in.ensures.looks.0 (c.in-Ok-look_up_in.ensures.same.3 ∙ build) c.in-Ok-look_up_in.ensures.looks.1
          (λ columns is. asks columns (sym c.in-Ok-look_up_in.ensures.same.1 ∙ is)) (carries_rows _ _ _ _ c.in-Ok.ready.lanes.rows c.args.asked.columns c.in-Ok.ensures.rows c.requires.columns) (ap (λ (lane : LaneFor). lane.stage) c.in-Ok.ensures.rows) c.in-Ok.ensures.found,
    )

pub find_into-requires-clause-fails : goal.find_into-requires-clause-fails
find_into-requires-clause-fails g c fault is = is

pub returns-clause-sweeps : goal.returns-clause-sweeps
returns-clause-sweeps g c =
    let side = kept_side (arc_value c.args.build.now) in
    subst (λ (r : PiecesRead). SweepsFound c.args.asked.node r side (g.H.Io.seen c.args.io.now) c.args.steps.now c.find_into.new.steps) c.in-Ok.ensures.reader (subst (λ (s : CsvScan). SweepsFound s c.in-Ok.ready.reader side (g.H.Io.seen c.args.io.now) c.args.steps.now c.find_into.new.steps) c.in-Ok.ensures.source (c.find_into.ensures.sweeps side (ap (λ (lane : LaneFor). lane.stage) c.in-Ok.ensures.given)))

pub returns-clause-all : goal.returns-clause-all
returns-clause-all g c =
    let side = kept_side (arc_value c.args.build.now) in
    subst (λ (r : PiecesRead). IfOk c.find_into.result (λ end. AreAllUpTo c.args.asked.node r (g.H.Io.seen c.args.io.now) end.given)) c.in-Ok.ensures.reader (subst (λ (s : CsvScan). IfOk c.find_into.result (λ end. AreAllUpTo s c.in-Ok.ready.reader (g.H.Io.seen c.args.io.now) end.given)) c.in-Ok.ensures.source (c.find_into.ensures.all side (ap (λ (lane : LaneFor). lane.stage) c.in-Ok.ensures.given)))

pub returns-clause-writes : goal.returns-clause-writes
returns-clause-writes g c =
    let side = kept_side (arc_value c.args.build.now) in
    subst (λ (r : PiecesRead). WritesFoundOrNot c.args.asked.node r side c.args.run.bound (g.H.Io.seen c.args.io.now) (rows_written c.find_into.result) (g.H.Io.seen c.find_into.new.io)) c.in-Ok.ensures.reader (subst (λ (s : CsvScan). WritesFoundOrNot s c.in-Ok.ready.reader side c.args.run.bound (g.H.Io.seen c.args.io.now) (rows_written c.find_into.result) (g.H.Io.seen c.find_into.new.io)) c.in-Ok.ensures.source (c.find_into.ensures.writes side (ap (λ (lane : LaneFor). lane.stage) c.in-Ok.ensures.given)))

pub returns-clause-ready : goal.returns-clause-ready
returns-clause-ready g c =
    let ready = rw (sym c.in-Some.ensures.value) at c.requires.ready in
    if_ok _ _ c.find_into.result (λ end so. so.0 c.args.run.line.pipelines (c.in-Ok-look_up_in.ensures.none.0 ∙ ready)) (c.find_into.ensures.stays c.look_up_in.new.self (stays_same c.look_up_in.new.self))

pub returns-clause-has : goal.returns-clause-has
returns-clause-has g c =
    let build = rw (sym c.in-Some.ensures.value) at c.requires.build in
    if_ok _ _ c.find_into.result (λ end so. has_looked_up _ _ (arc_value c.args.build.now) c.in-Ok.ready.lanes.rows _ c.in-Ok.ensures.rows c.in-Ok-look_up_in.ensures.looks.0 (c.in-Ok-look_up_in.ensures.same.3 ∙ build) c.in-Ok-look_up_in.ensures.looks.1 so.1)
    (c.find_into.ensures.stays c.look_up_in.new.self (stays_same c.look_up_in.new.self))

pub returns-in_default-clause-sweeps : goal.returns-in_default-clause-sweeps
returns-in_default-clause-sweeps g c = unswept_found c.args.asked.node c.args.asked.reader (kept_side (arc_value c.args.build.now)) (g.H.Io.seen c.args.io.now) c.args.steps.now

pub returns-in_default-look_up_in-clause-sweeps : goal.returns-in_default-look_up_in-clause-sweeps
returns-in_default-look_up_in-clause-sweeps g c = unswept_found c.args.asked.node c.args.asked.reader (kept_side (arc_value c.args.build.now)) (g.H.Io.seen c.args.io.now) c.args.steps.now

pub find_into-requires-clause-made : goal.find_into-requires-clause-made
find_into-requires-clause-made g c = c.requires.made

pub find_into-requires-clause-suits : goal.find_into-requires-clause-suits
find_into-requires-clause-suits g c = subst (SuitsPieces (g.H.Io.seen c.args.io.now)) (sym c.in-Ok.ensures.reader) c.requires.suits

pub find_into-requires-clause-start : goal.find_into-requires-clause-start
find_into-requires-clause-start g c = subst (λ (r : PiecesRead). r ≡ pieces_at_start r.sources) (sym c.in-Ok.ensures.reader) c.requires.start

pub find_into-requires-clause-none_written : goal.find_into-requires-clause-none_written
find_into-requires-clause-none_written g c = c.requires.none_written

pub find_into-requires-clause-fed : goal.find_into-requires-clause-fed
find_into-requires-clause-fed g c = c.in-Ok.ensures.fed

pub find_into-requires-clause-first : goal.find_into-requires-clause-first
find_into-requires-clause-first g c = c.in-Ok.ensures.first

pub find_into-requires-clause-middle_recv : goal.find_into-requires-clause-middle_recv
find_into-requires-clause-middle_recv g c = c.in-Ok.ensures.middle_recv

pub find_into-requires-clause-middle_send : goal.find_into-requires-clause-middle_send
find_into-requires-clause-middle_send g c = c.in-Ok.ensures.middle_send

pub find_into-requires-clause-last : goal.find_into-requires-clause-last
find_into-requires-clause-last g c = c.in-Ok.ensures.last

pub returns-in_default-clause-writes : goal.returns-in_default-clause-writes
returns-in_default-clause-writes g c = inl (refl, refl)

pub returns-in_default-look_up_in-clause-writes : goal.returns-in_default-look_up_in-clause-writes
returns-in_default-look_up_in-clause-writes g c = inl (refl, refl)
