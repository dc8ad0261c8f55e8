use Rattle.std.proofs.Common.{◌<◌, ◌^◌, ◌∙◌, [], ℕ, List, ap, length, sym, subst}
use Rattle.std.proofs.lemmas.List.{length-map}
use Rattle.morsel_meaning.specs.Values.{Table}
use Rattle.morsel_frame.specs.Tables.{cells_at}
use Rattle.morsel_join.specs.BuildSides.{kept_side}
use Rattle.morsel_join.specs.Probings.{FindsItems}
use Rattle.morsel_join.specs.Sides.{asked_keys}
use Rattle.morsel_join.proofs.FindLemmas.{gives-found}
use Rattle.morsel_join.proofs.probing.found_from.Goals as goal

pub find-requires-clause-short : goal.find-requires-clause-short
find-requires-clause-short c =
    subst (λ (n : ℕ). n < 2 ^ 32) (sym (c.requires.numbers.len ∙ length-map c.args.asked.now.rows (cells_at (asked_keys (kept_side c.args.build.now))))) c.requires.short

pub returns-clause-rows : goal.returns-clause-rows
returns-clause-rows c = λ rest found.
    let build = c.args.build.now in
    let cursor = c.in_ok-cursor.cursor in
    let numbers = c.args.numbers.now in
    let lefts = c.find.new.lefts.items in
    let rights = c.find.new.rights.items in
    gives-found build c.args.asked.now.rows numbers c.args.from cursor c.args.limit rest lefts rights (record { frame = c.in_ok-frame.frame; last = c.is_end-last.result }) c.requires.built c.requires.numbers
    (λ items left.
    subst (λ (ls : List ℕ). FindsItems build numbers items ls [] lefts rights cursor) c.new-lefts.ensures.items
    (subst (λ (rs : List ℕ). FindsItems build numbers items c.new-lefts.result.items rs lefts rights cursor) c.new-rights.ensures.items (c.in_ok-cursor.ensures.ok items left)))
    c.in_ok-cursor.ensures.room c.in_ok-cursor.ensures.full c.in_ok-cursor.ensures.settled
    (λ done left right. ap (λ (t : Table). t.rows) (c.in_ok-frame.ensures.ok done (c.deref.ensures.value ∙ left) (c.deref-2.ensures.value ∙ right)))
    c.is_end-last.ensures.yes c.is_end-last.ensures.no found
