use Rattle.std.proofs.Common.{◌∙◌, sym}
use Rattle.morsel_cut.proofs.BlankLemmas.{front_over}
use Rattle.morsel_cut.proofs.record.begins_with.Goals as goal

pub returns-then-at-text : goal.returns-then-at-text
returns-then-at-text c =
    sym (c.loop-at.invariant ∙ front_over c.args.front.now c.args.text.now c.loop-at.at c.loop-at-test.true c.if-at-text.true)
