use Rattle.std.proofs.Common.{◌≤◌, ◌-◌, length, take}
use Rattle.morsel_cut.specs.Places.{delimiter_options}
use Rattle.morsel_cut.proofs.BlockRunLemmas.{CountsTo}
use Rattle.morsel_cut.proofs.lines.count_lines.Given as goal

abbrev pub invariant-loop-at : goal.invariant-loop-at
invariant-loop-at l = record {
  within : l.at ≤ length l.text;
  few : l.count ≤ l.end;
  low : l.end ≤ l.at;
  counts : CountsTo (delimiter_options l.delimiters) l.columns (take l.at l.text) l.place l.end l.count;
}

abbrev pub decreases-loop-at : goal.decreases-loop-at
decreases-loop-at l = length l.text - l.at
