use Rattle.std.proofs.Common.{◌≤◌, ◌-◌, ◌+◌, length, take, drop, arith, refl, inl, inr}
use Rattle.std.proofs.lemmas.List.{length-take-le}
use Rattle.morsel_cut.specs.Places.{cut_place, delimiter_options}
use Rattle.morsel_cut.proofs.BlockRunLemmas.{MayCount, counts_on, counts_few, counts_within, counted_to}
use Rattle.morsel_cut.proofs.lines.count_lines.Goals as goal
use Rattle.morsel_cut.proofs.lines.count_lines.Goals.{else-columns-ne1-via-then-columns-ne1+else-not-is_without_blanks, else-columns-ne1-via-else-columns-ne1}

pub returns-in_default-clause-lines : goal.returns-in_default-clause-lines
returns-in_default-clause-lines c =
    counted_to (delimiter_options c.args.delimiters) c.args.columns c.args.text.now c.loop-at.at c.loop-at.place c.loop-at.end c.loop-at.count
    c.loop-at.invariant.within c.loop-at.invariant.counts

pub returns-then-not-is_without_blanks-clause-lines : goal.returns-then-not-is_without_blanks-clause-lines
returns-then-not-is_without_blanks-clause-lines c =
    counted_to (delimiter_options c.args.delimiters) c.args.columns c.args.text.now c.loop-at.at c.loop-at.place c.loop-at.end c.loop-at.count
    c.loop-at.invariant.within c.loop-at.invariant.counts

pub loop-at-preserved : goal.loop-at-preserved
loop-at-preserved c =
    let o = delimiter_options c.args.delimiters in
    let columns = c.args.columns in
    let text = c.args.text.now in
    let at = c.loop-at.at in
    let within : at + 64 ≤ length text = omega (arith, c.loop-at-test.true, c.loop-at.invariant.within) in
    let may : MayCount o columns (cut_place c.loop-at.place) (take 64 (take (length text - at) (drop at text))) = elim c.else-columns-ne1.branch [
      | else-columns-ne1-via-then-columns-ne1+else-not-is_without_blanks w ↦ inr (w.is_without_blanks.ensures w.if-not-is_without_blanks.false)
      | else-columns-ne1-via-else-columns-ne1 w ↦ inl w.if-columns-ne1.false
    ] in
    let counts = counts_on o columns text at c.loop-at.place c.loop-at.end c.loop-at.count c.bits_up_to_highest.result c.later_place-end.result _ c.in-Some.block
    c.loop-at.invariant.within c.loop-at.invariant.counts c.in-Some.ensures (c.bits_up_to_highest.ensures.below, c.bits_up_to_highest.ensures.above) c.later_place-end.ensures refl may in
    let low = counts_within o columns (take (at + 64) text) c.in-Some.block.place c.later_place-end.result _ counts in
    record {
      within = within;
      few = counts_few o columns (take (at + 64) text) c.in-Some.block.place c.later_place-end.result _ counts;
      low = omega (arith, low, length-take-le (at + 64) text within);
      counts = counts;
    }

pub returns-clause-lines : goal.returns-clause-lines
returns-clause-lines c =
    counted_to (delimiter_options c.args.delimiters) c.args.columns c.args.text.now c.loop-at.at c.loop-at.place c.loop-at.end c.loop-at.count
    c.loop-at.invariant.within c.loop-at.invariant.counts
