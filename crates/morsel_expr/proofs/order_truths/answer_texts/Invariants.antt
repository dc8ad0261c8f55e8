use Rattle.std.proofs.Common.{◌≡◌, take}
use Rattle.morsel_meaning.specs.declared.value.Value.TheVariants as values
use Rattle.morsel_expr.specs.OrderTruths.{answered}
use Rattle.morsel_expr.proofs.order_truths.answer_texts.Given as goal

abbrev pub invariant-loop-at : goal.invariant-loop-at
invariant-loop-at l = l.truths.items ≡ take l.at (answered values.Text l.answers (values.Text l.by) l.valid l.texts)
