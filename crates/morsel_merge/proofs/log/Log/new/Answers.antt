use Rattle.morsel_merge.proofs.log.Log.new.Goals as goal

pub of_words-requires : goal.of_words-requires
of_words-requires g c = tt
