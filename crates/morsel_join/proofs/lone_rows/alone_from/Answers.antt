use Rattle.std.proofs.Common.{◌≤◌, ◌∙◌, [], ℕ, List, ap, map, sym, subst}
use Rattle.morsel_meaning.specs.Values.{Row, Table}
use Rattle.morsel_join.specs.BuildSides.{kept_side}
use Rattle.morsel_join.specs.Cuts.{PutsFirst, unmarked_items}
use Rattle.morsel_join.specs.Items.{JoinItem}
use Rattle.morsel_join.specs.Sides.{side_row}
use Rattle.morsel_join.proofs.AloneLemmas.{gives-alone}
use Rattle.morsel_join.proofs.lone_rows.alone_from.Goals as goal

pub returns-clause-rows : goal.returns-clause-rows
returns-clause-rows c =
    let build = c.args.build.now in
    let at = c.in_ok-at.at in
    let seen = c.args.seen.now in
    let numbers = build.keyed.numbers.items in
    let lefts = c.find_alone.new.lefts.items in
    let rights = c.find_alone.new.rights.items in
    gives-alone build seen c.args.from at c.args.limit lefts rights (record { frame = c.in_ok-frame.frame; last = c.is_past-last.result }) c.requires.built
    (subst (λ (ls : List ℕ). PutsFirst (unmarked_items seen numbers c.args.from) (unmarked_items seen numbers at) ls [] lefts rights) c.new-lefts.ensures.items
    (subst (λ (rs : List ℕ). PutsFirst (unmarked_items seen numbers c.args.from) (unmarked_items seen numbers at) c.new-lefts.result.items rs lefts rights) c.new-rights.ensures.items c.in_ok-at.ensures.ok))
    c.in_ok-at.ensures.room c.in_ok-at.ensures.full c.in_ok-at.ensures.settled
    (λ (done : List JoinItem) left right.
    ap (λ (t : Table). t.rows) (c.in_ok-frame.ensures.ok done (c.deref.ensures.value ∙ left) (c.deref-2.ensures.value ∙ right))
    ∙ ap (λ (rows : List Row). map (side_row (kept_side build) rows) done) (ap (λ (t : Table). t.rows) c.requires.blank))
    (λ is. subst (λ (n : ℕ). n ≤ at) c.height.ensures (c.is_past-last.ensures.past is)) (λ past. c.is_past-last.ensures.all (subst (λ (n : ℕ). n ≤ at) (sym c.height.ensures) past))
