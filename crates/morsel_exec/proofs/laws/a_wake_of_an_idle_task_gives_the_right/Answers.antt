use Rattle.morsel_exec.proofs.WordLemmas.{wakes_idle}
use Rattle.morsel_exec.proofs.laws.a_wake_of_an_idle_task_gives_the_right.Goals as goal

pub returns : goal.returns
returns c = wakes_idle
