use Rattle.std.proofs.Common.{rules, ◌≡◌, ◌<◌, true}
use Rattle.morsel_join.proofs.CutLemmas.{row-followed, row-alone, row-nothing}
use Rattle.morsel_join.proofs.probe_some.probe_row_some.Goals as goal

pub returns-then-head-ne0-clause-ok : goal.returns-then-head-ne0-clause-ok
returns-then-head-ne0-clause-ok c =
    let some : 0 < c.args.head = search rules in
    λ chain linked. row-followed c.args.next.now c.args.head c.args.row c.args.wanted c.args.lefts.now.items c.args.rights.now.items c.follow_some.new.lefts.items c.follow_some.new.rights.items c.in_ok-follow_some.field-0 chain some linked (c.in_ok-follow_some.ensures.ok chain linked)

pub returns-then-not-wanted-clause-ok : goal.returns-then-not-wanted-clause-ok
returns-then-not-wanted-clause-ok c =
    λ chain linked. rw c.if-not-wanted.true (row-nothing c.args.next.now c.args.head c.args.row c.args.lefts.now.items c.args.rights.now.items chain c.if-head-ne0.false linked)

pub returns-clause-ok : goal.returns-clause-ok
returns-clause-ok c =
    let wanted : c.args.wanted ≡ true = search rules in
    λ chain linked.
    rw (wanted, c.in_ok-push.ensures.items, c.in_ok-push-2.ensures.items) (row-alone c.args.next.now c.args.head c.args.row c.args.lefts.now.items c.args.rights.now.items chain c.if-head-ne0.false linked)
