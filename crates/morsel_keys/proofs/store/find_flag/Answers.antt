use Rattle.std.proofs.Common.{sym}
use Rattle.morsel_meaning.specs.declared.value.Value.TheVariants as values
use Rattle.morsel_keys.proofs.HeldLemmas.{new_flag}
use Rattle.morsel_keys.proofs.store.find_flag.Goals as goal

pub returns-in-None-clause-none : goal.returns-in-None-clause-none
returns-in-None-clause-none c = new_flag c.args.words.now c.flag_word.result (values.Bool c.args.flag) c.requires (sym c.flag_word.ensures) c.in-None.ensures.none
