use Rattle.morsel_prog_uses.proofs.SureLemmas.{none_rises}
use Rattle.morsel_prog_uses.proofs.tests.sure.in_memory.Goals as goal

pub returns : goal.returns
returns c = λ valid. c.local_main.ensures.complete valid (none_rises c.args.io.now c.local_main.new.io)
