use Rattle.std.proofs.Common.{◌≡◌, ◌-◌, ◌∙◌, length, take, drop, ap, arith}
use Rattle.std.proofs.lemmas.List.{take_rest, length-drop}
use Rattle.morsel_cut.proofs.LineLemmas.{counts_more}
use Rattle.morsel_cut.proofs.RowLemmas.{counted_none, counted_all}
use Rattle.morsel_cut.proofs.rows.rows_of.Goals as goal

pub loop-at-init : goal.loop-at-init
loop-at-init c = record {
  within = omega arith;
  few = omega arith;
  counted = λ records are. counted_none c.args.options.now c.args.columns c.args.bytes.now records are;
}

pub loop-at-preserved : goal.loop-at-preserved
loop-at-preserved c =
    let bytes = c.args.bytes.now in
    let at = c.loop-at.at in
    let size : length (take (length bytes - at) (drop at bytes)) ≡ length bytes - at = ap length (take_rest bytes at) ∙ length-drop at bytes in
    record {
      within = omega (arith, size);
      few = omega (arith, size);
      counted = λ records are.
          counts_more c.args.options.now c.args.columns bytes _ at c.front_rows-len.result.0 c.loop-at.rows c.front_rows-len.result.1 records
          (take_rest bytes at) (c.loop-at.invariant.counted records are) c.front_rows-len.ensures.rows;
    }

pub returns-clause-rows : goal.returns-clause-rows
returns-clause-rows c = λ records are.
    counted_all c.args.options.now c.args.columns c.args.bytes.now c.loop-at.at c.loop-at.rows records c.loop-at-test.false (c.loop-at.invariant.counted records are)
