use Rattle.morsel_outside.proofs.SureLemmas.{opens-sure}
use Rattle.morsel_outside.proofs.sure_mem_io.SureMemIoIo.open_source.Goals as goal

pub returns-clause-opens : goal.returns-clause-opens
returns-clause-opens c = opens-sure _ _ _ _ _ c.self.view_is c.in-Ok.ensures.number c.in-Ok.ensures.ok
