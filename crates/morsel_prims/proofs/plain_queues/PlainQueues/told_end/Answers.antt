use Rattle.std.proofs.Common.{ap, sym, ◌∙◌, subst}
use Rattle.morsel_prims.specs.Marks.{ArePlainLanes, sent_row}
use Rattle.morsel_prims.specs.Rows.{list_of_row}
use Rattle.morsel_prims.proofs.MarkLemmas.{all_was_ended}
use Rattle.morsel_prims.proofs.plain_queues.PlainQueues.told_end.Goals as goal

pub invariant_of-self : goal.invariant_of-self
invariant_of-self g c = record { kept = subst (λ rows. ArePlainLanes rows c.args.self.now.lanes.items) (sym c.look.ensures.same.1) c.args.self.now.kept }

pub returns-then-whole-clause-all : goal.returns-then-whole-clause-all
returns-then-whole-clause-all g c =
    ap (λ rs. sent_row rs c.args.index) c.look.ensures.same.1 ∙ (all_was_ended _ _ _ _ _ _ c.args.self.now.kept c.look.ensures.list c.requires.place c.requires.unshut c.requires.ended ∙ ap list_of_row (sym c.look.ensures.same.0))

pub returns-else-whole-clause-all : goal.returns-else-whole-clause-all
returns-else-whole-clause-all g c =
    ap (λ rs. sent_row rs c.args.index) c.look.ensures.same.1 ∙ (all_was_ended _ _ _ _ _ _ c.args.self.now.kept c.look.ensures.list c.requires.place c.requires.unshut c.requires.ended ∙ ap list_of_row (sym c.look.ensures.same.0))
