use Rattle.morsel_outside.proofs.SureLemmas.{makes-sure}
use Rattle.morsel_outside.proofs.sure_mem_io.SureMemIoIo.make_sink.Goals as goal

pub returns-clause-makes : goal.returns-clause-makes
returns-clause-makes c = makes-sure _ _ _ _ c.self.view_is c.in-Ok.ensures.ok
