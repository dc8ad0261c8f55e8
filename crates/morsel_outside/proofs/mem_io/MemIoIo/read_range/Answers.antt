use Rattle.morsel_outside.proofs.MemIoLemmas.{reads-held}
use Rattle.morsel_outside.proofs.mem_io.MemIoIo.read_range.Goals as goal

pub returns-clause-reads : goal.returns-clause-reads
returns-clause-reads c = reads-held c.args.self.now c.args.file.0 c.args.at c.read.new.into c.read.result c.read.new.self c.read.ensures
