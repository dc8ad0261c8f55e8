use Rattle.std.proofs.Common.{ap, subst, sym, ◌∙◌}
use Rattle.std.specs.Arc.{arc_value}
use Rattle.morsel_scan_units.specs.LaneJobs.{LaneFor}
use Rattle.morsel_emit_run.specs.EmitRuns.{SweepsPlace, WritesPlaceOrNot}
use Rattle.morsel_join_plan.proofs.LaneFacts.{unit_out_of_memory}
use Rattle.morsel_join_plan.proofs.PortFacts.{encodes_behind, holds_all, holds_one, maker_fault, some_follows, text_fault}
use Rattle.morsel_join_plan.proofs.alone.give_into.Goals as goal

pub emit_nodes-requires-clause-kind : goal.emit_nodes-requires-clause-kind
emit_nodes-requires-clause-kind g c = ap (λ (lane : LaneFor). lane.kind) c.requires.texts

pub emit_nodes-requires-clause-last_fits : goal.emit_nodes-requires-clause-last_fits
emit_nodes-requires-clause-last_fits g c =
    let made = ap (λ node. arc_value node.makers.node) c.new-last.ensures ∙ c.new.ensures in
    c.initialize.ensures.fits c.args.lanes.now.last.recv.items c.args.lanes.now.last.send.items (
      c.args.lanes.now.kept,
      c.args.lanes.now.given,
      c.requires.last.0,
      c.requires.last.1,
      encodes_behind c.args.lanes.now.given.stage c.args.lanes.now.rows c.args.lanes.now.kept c.args.lanes.now.given (ap (λ (lane : LaneFor). lane.kind) c.requires.rows) c.requires.kept c.requires.texts _ (made ∙ c.requires.columns),
    )

pub emit_nodes-requires-clause-first_fails : goal.emit_nodes-requires-clause-first_fails
emit_nodes-requires-clause-first_fails g c fault may =
    let fails = rw (sym c.in-Some.ensures.value) at c.requires.fails in
    unit_out_of_memory c.args.lanes.now.given fault (fails fault may)

pub emit_nodes-requires-clause-last_fails : goal.emit_nodes-requires-clause-last_fails
emit_nodes-requires-clause-last_fails g c fault may =
    text_fault c.args.lanes.now.given.stage c.args.lanes.now.rows c.args.lanes.now.kept c.args.lanes.now.given (ap (λ (lane : LaneFor). lane.kind) c.requires.rows) c.requires.kept c.requires.texts fault (maker_fault c.args.lanes.now.kept c.args.lanes.now.last.recv.items fault c.requires.last.0 may)

pub emit_nodes-requires-clause-kept_tokens : goal.emit_nodes-requires-clause-kept_tokens
emit_nodes-requires-clause-kept_tokens g c = some_follows _ _ c.args.board.now c.requires.tokens (λ board hold. hold c.args.lanes.now.kept (ap (λ (lane : LaneFor). lane.tokens) c.requires.kept))

pub emit_nodes-requires-clause-first_tokens : goal.emit_nodes-requires-clause-first_tokens
emit_nodes-requires-clause-first_tokens g c = some_follows _ _ c.args.board.now c.requires.tokens (λ board hold. holds_all _ _ _ _ c.args.lanes.now.first.recv.items c.requires.first_tokens hold)

pub emit_nodes-requires-clause-last_tokens : goal.emit_nodes-requires-clause-last_tokens
emit_nodes-requires-clause-last_tokens g c = some_follows _ _ c.args.board.now c.requires.tokens (λ board hold. holds_one _ _ _ _ c.args.lanes.now.kept _ (ap (λ (lane : LaneFor). lane.tokens) c.requires.kept) c.requires.last.0 hold)

pub emit_nodes-requires-clause-given_tokens : goal.emit_nodes-requires-clause-given_tokens
emit_nodes-requires-clause-given_tokens g c = some_follows _ _ c.args.board.now c.requires.tokens (λ board hold. hold c.args.lanes.now.given (ap (λ (lane : LaneFor). lane.tokens) c.requires.texts))

pub returns-clause-sweeps : goal.returns-clause-sweeps
returns-clause-sweeps g c stage is one =
    subst (λ (lane : LaneFor). SweepsPlace lane.scan lane.reader lane.outside stage c.args.steps.now c.emit_nodes.new.steps) c.requires.texts (c.emit_nodes.ensures.sweeps stage is one)

pub returns-clause-writes : goal.returns-clause-writes
returns-clause-writes g c stage is one =
    subst (λ (lane : LaneFor). WritesPlaceOrNot lane.scan lane.reader lane.outside stage (g.H.Io.seen c.args.io.now) c.emit_nodes.result (g.H.Io.seen c.emit_nodes.new.io)) c.requires.texts (c.emit_nodes.ensures.writes stage is one)
