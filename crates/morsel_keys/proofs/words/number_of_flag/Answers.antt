use Rattle.morsel_keys.proofs.FoundLemmas.{found_flag}
use Rattle.morsel_keys.proofs.words.number_of_flag.Goals as goal

pub returns : goal.returns
returns c = found_flag c.args.words.now c.args.flag c.flag_word.result c.number_of.result c.flag_word.ensures c.requires.bits c.number_of.ensures
