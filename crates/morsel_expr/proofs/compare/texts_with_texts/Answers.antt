use Rattle.std.proofs.Common.{refl}
use Rattle.morsel_meaning.specs.declared.value.Value.TheVariants as values
use Rattle.morsel_expr.proofs.CompareLemmas.{answered_pairs-masked}
use Rattle.morsel_expr.proofs.compare.texts_with_texts.Goals as goal

pub returns-clause-ok : goal.returns-clause-ok
returns-clause-ok c =
    rw (← answered_pairs-masked values.Text (λ t. refl) c.args.op c.args.valid.now c.args.texts.now c.args.other_valid.now c.args.others.now, ← c.of.ensures) c.answer_text_pairs.ensures.ok
