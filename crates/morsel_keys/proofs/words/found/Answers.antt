use Rattle.morsel_keys.specs.Words.{word_home}
use Rattle.morsel_keys.proofs.SlotLemmas.{none_then, not_there}
use Rattle.morsel_keys.proofs.words.found.Goals as goal

pub returns-clause-none : goal.returns-clause-none
returns-clause-none c = none_then c.seek.result _ _ c.seek.ensures.none (λ free. not_there (word_home c.args.seed c.args.mask) c.args.mask c.args.slots.now c.args.words.now c.args.word c.home-from.result c.requires.indexed c.home-from.ensures.value free)
