use Rattle.std.proofs.Common.{◌∙◌, sym, true, false}
use Rattle.morsel_query_text.proofs.KeyLemmas.{among-step}
use Rattle.morsel_query_text.proofs.trees.is_among.Goals as goal

pub returns-then-eq : goal.returns-then-eq
returns-then-eq c =
    sym (c.loop-key.invariant ∙ among-step c.args.text.now c.args.keys.now c.loop-key.key-index _ true c.loop-key-test.true (sym c.eq.ensures ∙ c.if-eq.true))

pub loop-key-preserved : goal.loop-key-preserved
loop-key-preserved c =
    c.loop-key.invariant ∙ among-step c.args.text.now c.args.keys.now c.loop-key.key-index _ false c.loop-key-test.true (sym c.eq.ensures ∙ c.if-eq.false)
