use Rattle.std.proofs.Common.{◌≡◌, take}
use Rattle.morsel_meaning.specs.declared.value.Value.TheVariants as values
use Rattle.morsel_expr.specs.OrderTruths.{answered_pairs}
use Rattle.morsel_expr.proofs.order_truths.answer_text_pairs.Given as goal

abbrev pub invariant-loop-at : goal.invariant-loop-at
invariant-loop-at l = l.truths.items ≡ take l.at (answered_pairs values.Text l.answers l.valid l.texts l.other_valid l.others)
