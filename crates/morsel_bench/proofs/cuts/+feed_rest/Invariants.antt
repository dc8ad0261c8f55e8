use Rattle.std.specs.Prelude.{length}
use Rattle.morsel_bench.proofs.cuts.+feed_rest.Given as goal

abbrev pub decreases-feed_rest : goal.decreases-feed_rest
decreases-feed_rest l = length l.text.now
