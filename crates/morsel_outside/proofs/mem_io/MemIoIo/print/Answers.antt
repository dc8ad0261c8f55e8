use Rattle.morsel_outside.proofs.MemIoLemmas.{prints-kept}
use Rattle.morsel_outside.proofs.mem_io.MemIoIo.print.Goals as goal

pub returns-clause-prints : goal.returns-clause-prints
returns-clause-prints c = prints-kept c.args.self.now c.args.line.now c.keep_line.result c.keep_line.new.self c.keep_line.ensures
