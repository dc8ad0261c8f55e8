use Rattle.std.proofs.Common.{ℕ, arith}
use Rattle.std.specs.Prelude.{Some}
use Rattle.std.proofs.lemmas.List.{length-take}
use Rattle.morsel_cut.specs.Places.{cut_state, options_with}
use Rattle.morsel_cut.proofs.PassLemmas.{passes_on, passed_end-le, passed_begin-le}
use Rattle.morsel_cut.proofs.prefix.pass_bytes.Goals as goal

pub loop-at-preserved : goal.loop-at-preserved
loop-at-preserved c =
    passes_on (options_with c.args.delimiters (Some c.args.prefix.now)) (cut_state c.args.from) c.args.text.now c.loop-at.at
    c.loop-at.passed c.prefix_step-state.result c.then-passed.result c.loop-at-test.true c.loop-at.invariant c.prefix_step-state.ensures
    c.then-passed.ensures.state c.then-passed.ensures.end c.then-passed.ensures.begin

pub returns-clause-ends : goal.returns-clause-ends
returns-clause-ends c =
    let within = passed_end-le _ _ _ _ c.loop-at.invariant in
    omega (arith, within, length-take {A = ℕ})

pub returns-clause-begins : goal.returns-clause-begins
returns-clause-begins c =
    let within = passed_begin-le _ _ _ _ c.loop-at.invariant in
    omega (arith, within, length-take {A = ℕ})
