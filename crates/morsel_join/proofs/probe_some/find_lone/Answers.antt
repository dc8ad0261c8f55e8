use Rattle.std.proofs.Common.{List, length, subst}
use Rattle.morsel_join.specs.Cuts.{PutsFirst, unmarked_items}
use Rattle.morsel_join.specs.Items.{JoinItem}
use Rattle.morsel_join.proofs.LoneLemmas.{lone-full, unmarked-none, unmarked-past}
use Rattle.morsel_join.proofs.probe_some.find_lone.Goals as goal

pub returns-clause-ok : goal.returns-clause-ok
returns-clause-ok c =
    subst (λ (rest : List JoinItem). PutsFirst (unmarked_items c.args.seen.now c.args.numbers.now c.args.from) rest c.args.lefts.now.items c.args.rights.now.items c.put_lone_some.new.lefts.items c.put_lone_some.new.rights.items)
    (unmarked-past c.args.seen.now c.args.numbers.now c.in_ok-stopped.stopped c.next_unmarked-at.result c.next_unmarked-at.ensures) c.in_ok-stopped.ensures.ok.put

pub returns-clause-full : goal.returns-clause-full
returns-clause-full c =
    lone-full c.in_ok-stopped.stopped c.next_unmarked-at.result (length c.put_lone_some.new.lefts.items) (length c.args.numbers.now) c.args.limit c.next_unmarked-at.ensures.after c.in_ok-stopped.ensures.full

pub returns-clause-settled : goal.returns-clause-settled
returns-clause-settled c = λ none. unmarked-none c.args.seen.now c.args.numbers.now c.in_ok-stopped.stopped c.next_unmarked-at.result c.next_unmarked-at.ensures none
