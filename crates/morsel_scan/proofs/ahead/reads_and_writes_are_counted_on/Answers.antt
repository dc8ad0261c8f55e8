use Rattle.morsel_scan.proofs.AheadLemmas.{counts_on}
use Rattle.morsel_scan.proofs.ahead.reads_and_writes_are_counted_on.Goals as goal

pub returns : goal.returns
returns c = counts_on
