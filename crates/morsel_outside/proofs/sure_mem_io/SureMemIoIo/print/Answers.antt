use Rattle.morsel_outside.proofs.SureLemmas.{prints-sure}
use Rattle.morsel_outside.proofs.sure_mem_io.SureMemIoIo.print.Goals as goal

pub returns-clause-prints : goal.returns-clause-prints
returns-clause-prints c = prints-sure _ _ _ _ c.self.view_is c.in-Ok.ensures.ok
