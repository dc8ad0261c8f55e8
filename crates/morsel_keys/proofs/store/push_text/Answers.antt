use Rattle.std.proofs.Common.{refl}
use Rattle.morsel_meaning.specs.declared.value.Value.TheVariants as values
use Rattle.morsel_keys.proofs.HeldLemmas.{new_held}
use Rattle.morsel_keys.proofs.store.push_text.Goals as goal

pub push-requires-clause-new : goal.push-requires-clause-new
push-requires-clause-new c = new_held values.Text c.args.texts.now c.args.text.now (values.Text c.args.text.now) refl c.requires.new
