use Rattle.morsel_states.proofs.RowLemmas.{keeps_groups}
use Rattle.morsel_states.proofs.laws.states_keep_groups.Goals as goal

pub returns : goal.returns
returns c = keeps_groups
