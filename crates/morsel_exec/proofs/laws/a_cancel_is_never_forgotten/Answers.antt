use Rattle.morsel_exec.proofs.WordLemmas.{remembers_cancel}
use Rattle.morsel_exec.proofs.laws.a_cancel_is_never_forgotten.Goals as goal

pub returns : goal.returns
returns c = remembers_cancel
