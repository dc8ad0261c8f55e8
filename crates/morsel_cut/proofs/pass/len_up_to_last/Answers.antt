use Rattle.std.proofs.Common.{◌∙◌, sym, add-one, arith}
use Rattle.morsel_cut.proofs.RunLemmas.{up_to_last-none, up_to_last-at}
use Rattle.morsel_cut.proofs.pass.len_up_to_last.Goals as goal

pub returns-in_default : goal.returns-in_default
returns-in_default c = sym (up_to_last-none c.args.byte c.args.text.now (λ k below is. c.in_default.ensures k (omega arith) below is))

pub returns : goal.returns
returns c =
    add-one c.in-Some.at
    ∙ sym (up_to_last-at c.args.byte c.args.text.now c.in-Some.at c.in-Some.ensures.0.high c.in-Some.ensures.1
    (λ k behind below is. c.in-Some.ensures.0.after k (omega arith) below is))
