use Rattle.std.specs.Prelude.{length}
use Rattle.morsel_bench.proofs.cuts.+put_cuts.Given as goal

abbrev pub decreases-put_cuts : goal.decreases-put_cuts
decreases-put_cuts l = length l.text.now
