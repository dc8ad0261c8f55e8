use Rattle.std.proofs.Common.{arith, false, ◌++◌}
use Rattle.morsel_grammar.specs.Reading.{chosen}
use Rattle.morsel_text.proofs.ChoiceLemmas.{kept_skip}
use Rattle.morsel_scan.proofs.source_marks.push_chosen.Goals as goal

pub loop-at-preserved-then-not-used-at : goal.loop-at-preserved-then-not-used-at
loop-at-preserved-then-not-used-at c =
    kept_skip (c.args.mask.now.items ++ chosen c.args.used.now c.args.marks.now) c.loop-at.mask.items c.args.used.now c.args.marks.now c.loop-at.at false
    (omega arith) (omega arith) c.if-not-used-at.true c.loop-at.invariant
