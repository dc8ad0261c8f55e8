use Rattle.morsel_outside.proofs.SureLemmas.{writes-sure}
use Rattle.morsel_outside.proofs.sure_mem_io.SureMemIoIo.write.Goals as goal

pub returns-clause-writes : goal.returns-clause-writes
returns-clause-writes c = writes-sure _ _ _ _ c.self.view_is c.in-Ok.ensures.ok
