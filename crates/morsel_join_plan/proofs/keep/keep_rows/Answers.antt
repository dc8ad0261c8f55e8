use Rattle.std.proofs.Common.{sym, ap, ◌∙◌}
use Rattle.morsel_ports.specs.Nodes.{NodeSeen}
use Rattle.morsel_join_phases.specs.JoinTables.{recv_kinds_at, send_kinds_at}
use Rattle.morsel_join_lines.proofs.PortLemmas.{keeps_by_first}
use Rattle.morsel_join_plan.proofs.PortFacts.{if_ok, some_here, tokens_two}
use Rattle.morsel_join_plan.proofs.NodeFacts.{stays_same}
use Rattle.morsel_join_plan.proofs.keep.keep_rows.Goals as goal

pub initialize-requires-clause-once : goal.initialize-requires-clause-once
initialize-requires-clause-once g c = (rw (sym c.in-Some.ensures.value) at c.requires.new).0

pub keep_with-requires-clause-keeps : goal.keep_with-requires-clause-keeps
keep_with-requires-clause-keeps g c =
    let place = rw (sym c.in-Some.ensures.value) at c.requires.at in
    let new = rw (sym c.in-Some.ensures.value) at c.requires.new in
    let ready = c.initialize.ensures.ready in
    keeps_by_first c.args.run.line.pipelines c.args.lanes.now.rows c.args.lanes.now.last.recv.items c.args.lanes.now.last.send.items _
    (record {
      ready = ap (λ (s : NodeSeen). s.pipelines) ready;
      takes = ap (λ (s : NodeSeen). s.recv_kinds) ready ∙ ap recv_kinds_at place;
      gives = ap (λ (s : NodeSeen). s.send_kinds) ready ∙ ap send_kinds_at place;
      none_out = ap (λ (s : NodeSeen). s.units) ready ∙ new.1;
    })
    (record { other = c.args.lanes.now.rows; unused = c.args.lanes.now.rows; takes = c.requires.last_recv; gives = c.requires.last_send })

pub keep_with-requires-clause-fits : goal.keep_with-requires-clause-fits
keep_with-requires-clause-fits g c =
    let fits = rw (sym c.in-Some.ensures.value) at c.requires.fits in
    c.initialize.ensures.fits c.args.lanes.now.last.recv.items c.args.lanes.now.last.send.items (
      c.args.lanes.now.rows,
      c.args.lanes.now.rows,
      c.args.lanes.now.rows,
      c.requires.last_recv,
      c.requires.last_send,
      fits c.args.lanes.now.rows c.args.lanes.now.rows,
    )

pub keep_with-requires-clause-fails : goal.keep_with-requires-clause-fails
keep_with-requires-clause-fails g c fault is = is

pub returns-clause-pipelines : goal.returns-clause-pipelines
returns-clause-pipelines g c =
    let ready = ap (λ (s : NodeSeen). s.pipelines) c.initialize.ensures.ready in
    if_ok _ _ c.keep_with.result (λ kept so. so.0 c.args.run.line.pipelines ready) (c.keep_with.ensures.stays c.initialize.new.self (stays_same c.initialize.new.self))

pub returns-clause-stays : goal.returns-clause-stays
returns-clause-stays g c =
    some_here _ c.args.join.now c.in-Some.last c.in-Some.ensures.value (if_ok _ _ c.keep_with.result (λ kept so. so.1) (c.keep_with.ensures.stays c.in-Some.last (c.initialize.ensures.stays c.in-Some.last (stays_same c.in-Some.last))))

pub keep_with-requires-clause-suits : goal.keep_with-requires-clause-suits
keep_with-requires-clause-suits g c = c.requires.suits

pub keep_with-requires-clause-start : goal.keep_with-requires-clause-start
keep_with-requires-clause-start g c = c.requires.start

pub keep_with-requires-clause-tokens : goal.keep_with-requires-clause-tokens
keep_with-requires-clause-tokens g c = c.requires.tokens

pub keep_with-requires-clause-rows : goal.keep_with-requires-clause-rows
keep_with-requires-clause-rows g c = c.requires.rows

pub keep_with-requires-clause-fed : goal.keep_with-requires-clause-fed
keep_with-requires-clause-fed g c = c.requires.fed

pub keep_with-requires-clause-first : goal.keep_with-requires-clause-first
keep_with-requires-clause-first g c = c.requires.first

pub keep_with-requires-clause-last_tokens : goal.keep_with-requires-clause-last_tokens
keep_with-requires-clause-last_tokens g c = tokens_two c.args.lanes.now.rows c.args.lanes.now.last.recv.items c.requires.last_recv

pub returns-clause-sweeps : goal.returns-clause-sweeps
returns-clause-sweeps g c = c.keep_with.ensures.sweeps

pub returns-clause-keeps : goal.returns-clause-keeps
returns-clause-keeps g c = c.keep_with.ensures.keeps
