use Rattle.std.proofs.Common.{◌≡◌, [], All, sym, ap, subst, ◌∙◌}
use Rattle.std.proofs.lemmas.List.Elements.{All-cons, All-nil}
use Rattle.morsel_ports.specs.Nodes.{NodeSeen}
use Rattle.morsel_scan_units.specs.LaneJobs.{LaneFor}
use Rattle.morsel_join_plan.proofs.PortFacts.{if_ok, some_here}
use Rattle.morsel_group_plan.proofs.NodeFacts.{no_unit_fault, stays_same, taking_node}
use Rattle.morsel_group_plan.proofs.joined_rows.take_found_by.Goals as goal

pub initialize-requires-clause-once : goal.initialize-requires-clause-once
initialize-requires-clause-once g c = (rw (sym c.in-Some.ensures.value) at c.requires.new).0

pub keep_found-requires-clause-keeps : goal.keep_found-requires-clause-keeps
keep_found-requires-clause-keeps g c =
    let place = rw (sym c.in-Some.ensures.value) at c.requires.at in
    let new = rw (sym c.in-Some.ensures.value) at c.requires.new in
    let ready = c.initialize.ensures.ready in
    taking_node c.args.run.line.pipelines c.args.lanes.now.found c.args.lanes.now.given c.args.lanes.now.last.recv.items c.args.lanes.now.last.send.items _ _ c.requires.last.0 c.requires.last.1
    (ap (λ (s : NodeSeen). s.pipelines) ready) (ap (λ (s : NodeSeen). s.recv_kinds) ready) (ap (λ (s : NodeSeen). s.send_kinds) ready) (ap (λ (s : NodeSeen). s.units) ready ∙ new.1) place

pub keep_found-requires-clause-last_fits : goal.keep_found-requires-clause-last_fits
keep_found-requires-clause-last_fits g c =
    let fits = rw (sym c.in-Some.ensures.value) at c.requires.takes in
    c.initialize.ensures.fits c.args.lanes.now.last.recv.items c.args.lanes.now.last.send.items (c.args.lanes.now.found, c.args.lanes.now.given, c.requires.last.0, c.requires.last.1, fits)

pub keep_found-requires-clause-last_fails : goal.keep_found-requires-clause-last_fails
keep_found-requires-clause-last_fails g c fault may = no_unit_fault c.args.lanes.now.found c.args.lanes.now.last.recv.items fault _ c.requires.last.0 may

pub keep_found-requires-clause-suits : goal.keep_found-requires-clause-suits
keep_found-requires-clause-suits g c = c.requires.suits

pub keep_found-requires-clause-start : goal.keep_found-requires-clause-start
keep_found-requires-clause-start g c = c.requires.start

pub keep_found-requires-clause-tokens : goal.keep_found-requires-clause-tokens
keep_found-requires-clause-tokens g c = c.requires.tokens

pub keep_found-requires-clause-rows : goal.keep_found-requires-clause-rows
keep_found-requires-clause-rows g c = c.requires.rows

pub keep_found-requires-clause-fed : goal.keep_found-requires-clause-fed
keep_found-requires-clause-fed g c = c.requires.fed

pub keep_found-requires-clause-first : goal.keep_found-requires-clause-first
keep_found-requires-clause-first g c = c.requires.first

pub keep_found-requires-clause-middle_recv : goal.keep_found-requires-clause-middle_recv
keep_found-requires-clause-middle_recv g c = c.requires.middle_recv

pub keep_found-requires-clause-middle_send : goal.keep_found-requires-clause-middle_send
keep_found-requires-clause-middle_send g c = c.requires.middle_send

pub keep_found-requires-clause-last_tokens : goal.keep_found-requires-clause-last_tokens
keep_found-requires-clause-last_tokens g c = subst (All (λ (one : LaneFor). one.tokens ≡ c.args.lanes.now.rows.tokens)) (sym c.requires.last.0)
    (All-cons (λ (one : LaneFor). one.tokens ≡ c.args.lanes.now.rows.tokens) c.args.lanes.now.found [] c.requires.found_tokens (All-nil (λ (one : LaneFor). one.tokens ≡ c.args.lanes.now.rows.tokens)))

pub keep_found-requires-clause-some_middle : goal.keep_found-requires-clause-some_middle
keep_found-requires-clause-some_middle g c = c.requires.some_middle

pub keep_found-requires-clause-finds : goal.keep_found-requires-clause-finds
keep_found-requires-clause-finds g c = c.requires.finds

pub keep_found-requires-clause-fits : goal.keep_found-requires-clause-fits
keep_found-requires-clause-fits g c = c.requires.fits

pub keep_found-requires-clause-fails : goal.keep_found-requires-clause-fails
keep_found-requires-clause-fails g c = c.requires.fails

pub returns-clause-sweeps : goal.returns-clause-sweeps
returns-clause-sweeps g c = c.keep_found.ensures.sweeps

pub returns-clause-finding_stays : goal.returns-clause-finding_stays
returns-clause-finding_stays g c = c.keep_found.ensures.finding_stays

pub returns-clause-pipelines : goal.returns-clause-pipelines
returns-clause-pipelines g c =
    let ready = ap (λ (s : NodeSeen). s.pipelines) c.initialize.ensures.ready in
    if_ok _ _ c.keep_found.result (λ end so. so.0 c.args.run.line.pipelines ready) (c.keep_found.ensures.keeping_stays c.initialize.new.self (stays_same c.initialize.new.self))

pub returns-clause-group_stays : goal.returns-clause-group_stays
returns-clause-group_stays g c =
    some_here _ c.args.node.now c.in-Some.last c.in-Some.ensures.value (if_ok _ _ c.keep_found.result (λ end so. so.1) (c.keep_found.ensures.keeping_stays c.in-Some.last (c.initialize.ensures.stays c.in-Some.last (stays_same c.in-Some.last))))

pub returns-clause-keeps : goal.returns-clause-keeps
returns-clause-keeps g c = c.keep_found.ensures.keeps
