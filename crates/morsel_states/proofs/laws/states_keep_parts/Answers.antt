use Rattle.morsel_states.proofs.PartLemmas.{keeps_group_parts}
use Rattle.morsel_states.proofs.laws.states_keep_parts.Goals as goal

pub returns : goal.returns
returns c = keeps_group_parts
