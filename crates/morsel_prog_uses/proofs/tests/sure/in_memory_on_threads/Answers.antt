use Rattle.morsel_prog_uses.proofs.SureLemmas.{none_rises}
use Rattle.morsel_prog_uses.proofs.tests.sure.in_memory_on_threads.Goals as goal

pub returns : goal.returns
returns g c = λ valid. c.morsel_main.ensures.complete valid (none_rises c.args.io.now c.morsel_main.new.io)
