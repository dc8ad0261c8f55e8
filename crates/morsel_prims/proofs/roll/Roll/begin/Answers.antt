use Rattle.std.proofs.Common.{ap, ◌∙◌, ◌≡◌, length, set, [], ◌∷◌, ◌++◌}
use Rattle.morsel_prims.specs.Rows.{place_of_row, list_of_row}
use Rattle.morsel_prims.proofs.RollLemmas.{set-last}
use Rattle.morsel_prims.proofs.roll.Roll.begin.Goals as goal

pub returns-clause-rows : goal.returns-clause-rows
returns-clause-rows g c =
    let place : place_of_row c.add-row.result.badge.views ≡ length c.args.self.now.seat.me.0.rows = ap place_of_row c.add-row.ensures.row.1 in
    let list : list_of_row c.add-row.result.badge.views ≡ [] = ap list_of_row c.add-row.ensures.row.1 in
    c.write.ensures.rows ∙ ((λ i. set (c.add-row.ensures.rows i) (place i) (list i ++ c.args.x.now ∷ [])) ∙ set-last c.args.self.now.seat.me.0.rows [] (c.args.x.now ∷ []))

pub returns-clause-place : goal.returns-clause-place
returns-clause-place g c = c.write.ensures.table.2 ∙ ap place_of_row c.add-row.ensures.row.1

pub returns-clause-list : goal.returns-clause-list
returns-clause-list g c = c.write.ensures.list ∙ ap (λ vs. list_of_row vs ++ c.args.x.now ∷ []) c.add-row.ensures.row.1
