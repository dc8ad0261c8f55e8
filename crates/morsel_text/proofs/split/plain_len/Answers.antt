use Rattle.std.proofs.Common.{arith}
use Rattle.morsel_text.proofs.LaneLemmas.{run_ends}
use Rattle.morsel_text.proofs.split.plain_len.Goals as goal

pub returns-then-len-lt-LANES-clause-value : goal.returns-then-len-lt-LANES-clause-value
returns-then-len-lt-LANES-clause-value c =
    run_ends c.args.options.now c.args.text.now c.loop-at.at c.run_len-len.result _ _ c.separator-separator.ensures c.eol-eol.ensures
    c.loop-at.invariant.passed c.run_len-len.ensures (omega arith) (omega arith)
