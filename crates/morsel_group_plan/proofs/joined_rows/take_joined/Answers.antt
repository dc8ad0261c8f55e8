use Rattle.std.proofs.Common.{◌≡◌, ◌∷◌, [], Ok, inl, refl, sym, ap, subst, ◌∙◌}
use Rattle.std.specs.Arc.{arc_value}
use Rattle.morsel_scan.specs.Scans.{CsvScan}
use Rattle.morsel_scan.specs.ScanColumns.{output_fields}
use Rattle.morsel_read.specs.ScanReads.{PiecesRead, SuitsPieces, pieces_at_start}
use Rattle.morsel_join.specs.BuildSides.{kept_side}
use Rattle.morsel_scan_units.specs.LaneJobs.{LaneFor}
use Rattle.morsel_keep_run.specs.KeepRuns.{KeepsScan, SweepsKept}
use Rattle.morsel_join_plan.specs.JoinLanes.{StopsKept, rows_lane}
use Rattle.morsel_join_plan.specs.JoinRuns.{JoinScan}
use Rattle.morsel_join_plan.proofs.PortFacts.{if_ok, some_follows}
use Rattle.morsel_join_plan.proofs.TurnFacts.{all_there, lane_again, lane_itself, tokens_again}
use Rattle.morsel_group_plan.specs.GroupLanes.{TakesTo}
use Rattle.morsel_group_plan.specs.JoinedLanes.{alone_lane, found_lane}
use Rattle.morsel_group_plan.proofs.JoinedCourse.{others_stopped, taken_swept, taken_unswept}
use Rattle.morsel_group_plan.proofs.JoinedFacts.{kept_all}
use Rattle.morsel_group_plan.proofs.LoneFacts.{columns_kept}
use Rattle.morsel_group_plan.proofs.joined_rows.take_joined.Goals as goal

pub take_found-requires-clause-suits : goal.take_found-requires-clause-suits
take_found-requires-clause-suits g c = subst (SuitsPieces (g.H.Io.seen c.args.io.now)) (sym c.in-Ok.ensures.reader) c.requires.suits

pub take_found-requires-clause-start : goal.take_found-requires-clause-start
take_found-requires-clause-start g c = subst (λ (r : PiecesRead). r ≡ pieces_at_start r.sources) (sym c.in-Ok.ensures.reader) c.requires.start

pub take_found-requires-clause-tokens : goal.take_found-requires-clause-tokens
take_found-requires-clause-tokens g c = some_follows _ _ c.args.board.now c.requires.tokens (λ board hold. tokens_again _ _ c.in-Ok.ready.lanes.rows _ _ (ap (λ (lane : LaneFor). lane.tokens) c.in-Ok.ensures.rows) hold)

pub take_found-requires-clause-rows : goal.take_found-requires-clause-rows
take_found-requires-clause-rows g c = lane_again c.in-Ok.ready.lanes.rows c.args.asked.node _ c.args.asked.reader c.in-Ok.ready.reader (g.H.Io.seen c.args.io.now) _ c.in-Ok.ensures.rows c.in-Ok.ensures.source c.in-Ok.ensures.reader

pub take_found-requires-clause-asks : goal.take_found-requires-clause-asks
take_found-requires-clause-asks g c = some_follows _ _ c.args.join.now c.requires.asks (λ join asks columns is. asks columns is ∙ c.requires.columns ∙ ap (λ (s : CsvScan). output_fields s.scan) (sym c.in-Ok.ensures.source))

pub take_others-requires-clause-has : goal.take_others-requires-clause-has
take_others-requires-clause-has g c =
    let asked : JoinScan = record { scan = c.args.asked.node; reader = c.args.asked.reader } in
    let opened = g.H.Io.seen c.args.io.now in
    let after = g.H.Io.seen c.take_found.new.io in
    let given = c.in-Ok-take_found.taken.1 in
    let ready = c.in-Ok.ensures in
    let keeps = subst (λ (r : PiecesRead). KeepsScan asked.scan r opened (Ok given) after) ready.reader (subst (λ (s : CsvScan). KeepsScan s c.in-Ok.ready.reader opened (Ok given) after) ready.source c.in-Ok-take_found.ensures.keeps) in (
      c.in-Ok.ready.lanes.rows,
      c.in-Ok-take_found.ensures.has,
      lane_itself c.in-Ok.ready.lanes.rows _ _ _ _ ready.rows,
      all_there c.in-Ok.ready.lanes.rows _ _ _ _ ready.rows given (kept_all asked.scan asked.reader opened after given keeps),
      ready.alone,
      columns_kept _ c.args.rules _ _ (c.in-Ok-take_found.ensures.takes c.args.rules ready.none) c.requires.grouped,
    )

pub returns-clause-sweeps : goal.returns-clause-sweeps
returns-clause-sweeps g c =
    let asked : JoinScan = record { scan = c.args.asked.node; reader = c.args.asked.reader } in
    let opened = g.H.Io.seen c.args.io.now in
    taken_swept asked (kept_side (arc_value c.args.build.now)) opened c.in-Ok.ready.per_row c.args.steps.now c.take_found.new.steps c.in-Ok.ensures.small c.in-Ok.ensures.within
    (subst (λ (r : PiecesRead). SweepsKept asked.scan r c.in-Ok.ready.per_row opened c.args.steps.now c.take_found.new.steps) c.in-Ok.ensures.reader
    (subst (λ (s : CsvScan). SweepsKept s c.in-Ok.ready.reader c.in-Ok.ready.per_row opened c.args.steps.now c.take_found.new.steps) c.in-Ok.ensures.source c.in-Ok-take_found.ensures.sweeps))

pub returns-clause-taken : goal.returns-clause-taken
returns-clause-taken g c =
    let asked : JoinScan = record { scan = c.args.asked.node; reader = c.args.asked.reader } in
    let side = kept_side (arc_value c.args.build.now) in
    let opened = g.H.Io.seen c.args.io.now in
    let after = g.H.Io.seen c.take_found.new.io in
    let given = c.in-Ok-take_found.taken.1 in
    let ready = c.in-Ok.ensures in
    let lane = rows_lane asked.scan asked.reader opened (g.K.AtHome.home c.args.tokens.now) in
    let keeps = subst (λ (r : PiecesRead). KeepsScan asked.scan r opened (Ok given) after) ready.reader (subst (λ (s : CsvScan). KeepsScan s c.in-Ok.ready.reader opened (Ok given) after) ready.source c.in-Ok-take_found.ensures.keeps) in
    let found_is = ready.found ∙ ap (found_lane side) ready.rows in
    let first = subst (λ (l : LaneFor). TakesTo c.in-Ok-take_found.taken.0.keeps.phase c.args.rules ((l, given) ∷ [])) found_is (c.in-Ok-take_found.ensures.takes c.args.rules ready.none) in
    if_ok _ _ c.take_others.result (λ node takes. record { given = given; keeps = keeps; tokens = _; takes = takes }) (c.take_others.ensures.takes c.args.rules lane (ready.alone ∙ ap (alone_lane side) ready.rows) first)

pub returns-clause-pipelines : goal.returns-clause-pipelines
returns-clause-pipelines g c = if_ok _ _ c.take_others.result (λ node same. same ∙ c.in-Ok-take_found.ensures.pipelines) c.take_others.ensures.pipelines

pub returns-clause-idle : goal.returns-clause-idle
returns-clause-idle g c = if_ok _ _ c.take_others.result (λ node same. same ∙ c.in-Ok-take_found.ensures.idle) c.take_others.ensures.units

pub returns-clause-stops : goal.returns-clause-stops
returns-clause-stops g c =
    let asked : JoinScan = record { scan = c.args.asked.node; reader = c.args.asked.reader } in
    let opened = g.H.Io.seen c.args.io.now in
    let after = g.H.Io.seen c.take_found.new.io in
    let given = c.in-Ok-take_found.taken.1 in
    let ready = c.in-Ok.ensures in
    let keeps = subst (λ (r : PiecesRead). KeepsScan asked.scan r opened (Ok given) after) ready.reader (subst (λ (s : CsvScan). KeepsScan s c.in-Ok.ready.reader opened (Ok given) after) ready.source c.in-Ok-take_found.ensures.keeps) in
    others_stopped asked opened after given c.take_others.result keeps c.take_others.ensures.out_of_memory

pub returns-in-Err-clause-sweeps : goal.returns-in-Err-clause-sweeps
returns-in-Err-clause-sweeps g c =
    let asked : JoinScan = record { scan = c.args.asked.node; reader = c.args.asked.reader } in
    let opened = g.H.Io.seen c.args.io.now in
    taken_swept asked (kept_side (arc_value c.args.build.now)) opened c.in-Ok.ready.per_row c.args.steps.now c.take_found.new.steps c.in-Ok.ensures.small c.in-Ok.ensures.within
    (subst (λ (r : PiecesRead). SweepsKept asked.scan r c.in-Ok.ready.per_row opened c.args.steps.now c.take_found.new.steps) c.in-Ok.ensures.reader
    (subst (λ (s : CsvScan). SweepsKept s c.in-Ok.ready.reader c.in-Ok.ready.per_row opened c.args.steps.now c.take_found.new.steps) c.in-Ok.ensures.source c.in-Err.ensures.sweeps))

pub returns-in-Err-clause-stops : goal.returns-in-Err-clause-stops
returns-in-Err-clause-stops g c =
    let opened = g.H.Io.seen c.args.io.now in
    let after = g.H.Io.seen c.take_found.new.io in
    subst (λ (r : PiecesRead). StopsKept (record { scan = c.args.asked.node; reader = r }) opened c.in-Err.fault after) c.in-Ok.ensures.reader
    (subst (λ (s : CsvScan). StopsKept (record { scan = s; reader = c.in-Ok.ready.reader }) opened c.in-Err.fault after) c.in-Ok.ensures.source c.in-Err.ensures.stops)

pub returns-in_default-clause-sweeps : goal.returns-in_default-clause-sweeps
returns-in_default-clause-sweeps g c = taken_unswept (record { scan = c.args.asked.node; reader = c.args.asked.reader }) (kept_side (arc_value c.args.build.now)) (g.H.Io.seen c.args.io.now) c.args.steps.now

pub returns-in_default-clause-stops : goal.returns-in_default-clause-stops
returns-in_default-clause-stops g c = inl (refl, refl)
