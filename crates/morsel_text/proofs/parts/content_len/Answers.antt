use Rattle.std.proofs.Common.{◌-◌, ◌∙◌, sym, arith, length}
use Rattle.std.proofs.lemmas.List.{take_all}
use Rattle.morsel_text.proofs.SplitLemmas.{without_return-keeps, without_return-drops}
use Rattle.morsel_text.proofs.parts.content_len.Goals as goal

pub returns-then-bytes-end-eq13-clause-value : goal.returns-then-bytes-end-eq13-clause-value
returns-then-bytes-end-eq13-clause-value c =
    let text = c.args.bytes.now in without_return-drops text (length text - 1) (grind arith) c.if-bytes-end-eq13.true

pub returns-clause-value : goal.returns-clause-value
returns-clause-value c =
    let text = c.args.bytes.now in
    without_return-keeps text (length text - 1) (grind arith) c.if-bytes-end-eq13.false ∙ sym (take_all (length text) text (omega arith))
