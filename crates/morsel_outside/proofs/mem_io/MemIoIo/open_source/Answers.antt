use Rattle.morsel_outside.proofs.MemIoLemmas.{opens-stored}
use Rattle.morsel_outside.proofs.mem_io.MemIoIo.open_source.Goals as goal

pub returns-clause-opens : goal.returns-clause-opens
returns-clause-opens c = opens-stored c.args.self.now c.args.name.now c.open.result c.open.new.self c.open.ensures
