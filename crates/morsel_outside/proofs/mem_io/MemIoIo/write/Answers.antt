use Rattle.morsel_outside.proofs.MemIoLemmas.{writes-kept}
use Rattle.morsel_outside.proofs.mem_io.MemIoIo.write.Goals as goal

pub returns-clause-writes : goal.returns-clause-writes
returns-clause-writes c = writes-kept c.args.self.now c.args.piece.now c.append.result c.append.new.self c.append.ensures
