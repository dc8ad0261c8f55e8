use Rattle.morsel_exec.proofs.WordLemmas.{remembers_wake}
use Rattle.morsel_exec.proofs.laws.a_wake_of_a_running_task_is_remembered.Goals as goal

pub returns : goal.returns
returns c = remembers_wake
