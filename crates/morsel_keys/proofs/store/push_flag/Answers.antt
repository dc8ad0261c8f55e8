use Rattle.morsel_meaning.specs.declared.value.Value.TheVariants as values
use Rattle.morsel_keys.specs.ColumnKeys.{flag_held}
use Rattle.morsel_keys.proofs.HeldLemmas.{new_held, flag_is}
use Rattle.morsel_keys.proofs.store.push_flag.Goals as goal

pub push-requires-clause-new : goal.push-requires-clause-new
push-requires-clause-new c = new_held flag_held c.args.words.now c.flag_word.result (values.Bool c.args.flag) (rw c.flag_word.ensures (flag_is c.args.flag)) c.requires.new
