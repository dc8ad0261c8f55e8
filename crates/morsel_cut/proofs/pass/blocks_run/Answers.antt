use Rattle.std.proofs.Common.{arith}
use Rattle.morsel_cut.specs.Places.{cut_place, delimiter_options}
use Rattle.morsel_cut.proofs.BlockRunLemmas.{blocks_on}
use Rattle.morsel_cut.proofs.pass.blocks_run.Goals as goal

pub loop-at-preserved : goal.loop-at-preserved
loop-at-preserved c = record {
  within = omega (arith, c.loop-at-test.true, c.loop-at.invariant.within);
  run = blocks_on (delimiter_options c.args.delimiters) (cut_place c.args.from) c.args.text.now c.loop-at.at c.loop-at.place c.loop-at.end c.bits_up_to_highest.result c.later_place-end.result
      c.in-Some.block c.loop-at.invariant.within c.loop-at.invariant.run c.in-Some.ensures (c.bits_up_to_highest.ensures.below, c.bits_up_to_highest.ensures.above) c.later_place-end.ensures;
}
