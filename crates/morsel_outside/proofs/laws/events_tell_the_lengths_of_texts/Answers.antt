use Rattle.morsel_outside.proofs.ActionLemmas.{events_tell}
use Rattle.morsel_outside.proofs.laws.events_tell_the_lengths_of_texts.Goals as goal

pub returns : goal.returns
returns c = events_tell
