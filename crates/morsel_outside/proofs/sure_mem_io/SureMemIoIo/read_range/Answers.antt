use Rattle.std.proofs.Common.{rules}
use Rattle.morsel_outside.proofs.SureLemmas.{reads-sure}
use Rattle.morsel_outside.proofs.sure_mem_io.SureMemIoIo.read_range.Goals as goal

pub returns-clause-reads : goal.returns-clause-reads
returns-clause-reads c = reads-sure _ _ c.note.new.self _ c.args.at c.fill.new.into c.self.view_is c.fill.ensures (search rules)
