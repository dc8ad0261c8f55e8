use Rattle.std.proofs.Common.{ℕ, arith, rules, length-take}
use Rattle.morsel_cut.specs.Places.{cut_place, delimiter_options}
use Rattle.morsel_cut.proofs.RunLemmas.{run_on, run_end-le, run_begin-le}
use Rattle.morsel_cut.proofs.pass.whole_run.Goals as goal

pub then-run-requires-clause-ends : goal.then-run-requires-clause-ends
then-run-requires-clause-ends c =
    let within = c.front_run-len.ensures.within in
    omega (arith, run_end-le _ _ _ _ c.front_run-len.ensures.run, length-take {A = ℕ})

pub then-run-requires-clause-begins : goal.then-run-requires-clause-begins
then-run-requires-clause-begins c =
    let within = c.front_run-len.ensures.within in
    omega (arith, run_begin-le _ _ _ _ c.front_run-len.ensures.run, length-take {A = ℕ})

pub loop-at-preserved : goal.loop-at-preserved
loop-at-preserved c = record {
  within = search rules;
  run = run_on (delimiter_options c.args.delimiters) (cut_place c.args.from) c.args.text.now c.loop-at.at c.front_run-len.result.1
      c.loop-at.run c.front_run-len.result.0 c.then-run.result c.loop-at.invariant.within c.loop-at.invariant.run c.front_run-len.ensures.run
      c.then-run.ensures.place c.then-run.ensures.end c.then-run.ensures.begin;
}

pub returns-clause-ends : goal.returns-clause-ends
returns-clause-ends c =
    let within = run_end-le _ _ _ _ c.loop-at.invariant.run in
    omega (arith, within, length-take {A = ℕ})

pub returns-clause-begins : goal.returns-clause-begins
returns-clause-begins c =
    let within = run_begin-le _ _ _ _ c.loop-at.invariant.run in
    omega (arith, within, length-take {A = ℕ})
