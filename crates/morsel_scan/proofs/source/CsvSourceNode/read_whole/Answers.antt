use Rattle.std.proofs.Common.{arith}
use Rattle.morsel_scan.proofs.SourceLemmas.{first_of_few}
use Rattle.morsel_scan.proofs.source.CsvSourceNode.read_whole.Goals as goal

pub returns-then-height-len : goal.returns-then-height-len
returns-then-height-len c = first_of_few c.args.self.now c.args.file c.args.at c.args.text.now c.args.len c.in-Ok.frame c.in-Ok.ensures (omega arith)
