use Rattle.morsel_exec.proofs.MachineLemmas.{run_held}
use Rattle.morsel_exec.proofs.machine.no_task_is_lost.Goals as goal

pub returns : goal.returns
returns c = run_held
