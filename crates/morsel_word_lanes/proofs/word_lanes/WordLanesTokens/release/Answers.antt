use Rattle.morsel_word_lanes.proofs.GroupLemmas.{found_less}
use Rattle.morsel_word_lanes.proofs.word_lanes.WordLanesTokens.release.Goals as goal

pub returns-clause-counted : goal.returns-clause-counted
returns-clause-counted c = found_less _ _ c.release.ensures.woken
