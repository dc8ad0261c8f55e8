use Rattle.std.proofs.Common.{ap, sym, ◌∙◌, subst}
use lib.ListN.{get_elem?}
use Rattle.morsel_prims.specs.Marks.{ArePlainLanes}
use Rattle.morsel_prims.specs.Rows.{place_of_row}
use Rattle.morsel_prims.proofs.MarkLemmas.{history_of_rows}
use Rattle.morsel_prims.proofs.plain_queues.PlainQueues.look_history.Goals as goal

pub invariant_of-self : goal.invariant_of-self
invariant_of-self g c = record { kept = subst (λ rows. ArePlainLanes rows c.args.self.now.lanes.items) (sym (c.look-2.ensures.same.1 ∙ c.look.ensures.same.1)) c.args.self.now.kept }

pub returns-clause-history : goal.returns-clause-history
returns-clause-history g c room is =
    let at = ap (λ rs. get_elem? rs (place_of_row c.args.taken.now.badge.views)) (sym c.look.ensures.same.1) ∙ c.look-2.ensures.list in
    history_of_rows _ _ _ _ _ _ _ room c.args.self.now.kept c.look.ensures.list c.requires.place.0 at c.requires.place.1 c.requires.unclosed c.requires.unshut is
