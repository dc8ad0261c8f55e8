use Rattle.morsel_outside.proofs.ActionLemmas.{does-append}
use Rattle.morsel_outside.proofs.laws.actions_follow_one_another.Goals as goal

pub returns : goal.returns
returns c = does-append
