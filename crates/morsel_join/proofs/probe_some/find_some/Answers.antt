use Rattle.std.proofs.Common.{◌≤◌, ℕ, length, subst, sym}
use Rattle.morsel_join.proofs.CutLemmas.{full-past, items-past, none-left, past-after}
use Rattle.morsel_join.proofs.probe_some.find_some.Goals as goal

pub returns-clause-ok : goal.returns-clause-ok
returns-clause-ok c = λ kept items chains left.
    let past = c.past_barren-cursor.ensures in
    let p = c.in_ok-stopped.ensures.ok kept items chains left in
    record {
      rest = p.rest;
      left = items-past c.args.first.now c.args.next.now c.args.numbers.now kept c.args.wanted c.in_ok-stopped.stopped c.past_barren-cursor.result p.rest chains past.same.0 past.same.1 past.wanted past.past p.left;
      put = p.put;
    }

pub returns-clause-within : goal.returns-clause-within
returns-clause-within c = subst (λ (n : ℕ). n ≤ length c.args.next.now) (sym c.past_barren-cursor.ensures.same.1) c.in_ok-stopped.ensures.within

pub returns-clause-full : goal.returns-clause-full
returns-clause-full c =
    let past = c.past_barren-cursor.ensures in
    full-past c.in_ok-stopped.stopped c.past_barren-cursor.result (length c.probe_some.new.lefts.items) (length c.args.numbers.now) c.args.limit past.same.1
    (past-after c.args.first.now c.args.numbers.now c.args.wanted c.in_ok-stopped.stopped.at c.past_barren-cursor.result.at past.wanted past.past) c.in_ok-stopped.ensures.full

pub returns-clause-settled : goal.returns-clause-settled
returns-clause-settled c = λ kept items chains left none.
    none-left c.args.first.now c.args.next.now c.args.numbers.now kept c.args.wanted c.in_ok-stopped.stopped.at c.past_barren-cursor.result items chains c.past_barren-cursor.ensures.past left none
