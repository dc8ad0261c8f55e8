use Rattle.std.proofs.Common.{refl}
use Rattle.morsel_meaning.specs.declared.value.Value.TheVariants as values
use Rattle.morsel_expr.proofs.CompareLemmas.{answered-masked}
use Rattle.morsel_expr.proofs.compare.texts_with.Goals as goal

pub returns-clause-ok : goal.returns-clause-ok
returns-clause-ok c =
    rw (← answered-masked values.Text (λ t. refl) c.args.op (values.Text c.args.by.now) refl c.args.valid.now c.args.texts.now, ← c.of.ensures) c.answer_texts.ensures.ok
