use Rattle.morsel_keys.proofs.HeldLemmas.{new_text}
use Rattle.morsel_keys.proofs.store.find_text.Goals as goal

pub returns-in-None-clause-none : goal.returns-in-None-clause-none
returns-in-None-clause-none c = new_text c.args.texts.now c.args.text.now c.in-None.ensures.none
