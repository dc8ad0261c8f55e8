use Rattle.morsel_outside.proofs.MemIoLemmas.{makes-kept}
use Rattle.morsel_outside.proofs.mem_io.MemIoIo.make_sink.Goals as goal

pub returns-clause-makes : goal.returns-clause-makes
returns-clause-makes c = makes-kept c.args.self.now c.args.name.now c.make.result c.make.new.self c.make.ensures
