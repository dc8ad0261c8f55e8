use Rattle.std.proofs.Common.{◌≡◌, drop}
use Rattle.morsel_group.specs.GroupFlaws.{agg_misfit}
use Rattle.morsel_group.proofs.plan.check_sums.Given as goal

abbrev pub invariant-loop-agg : goal.invariant-loop-agg
invariant-loop-agg l = agg_misfit l.input l.aggs ≡ agg_misfit l.input (drop l.agg-index l.aggs)
