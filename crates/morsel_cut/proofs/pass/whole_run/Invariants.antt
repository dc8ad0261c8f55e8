use Rattle.std.proofs.Common.{length, take, ◌-◌, ◌≤◌}
use Rattle.morsel_cut.specs.Places.{cut_place, delimiter_options}
use Rattle.morsel_cut.specs.Runs.{RunsTo}
use Rattle.morsel_cut.proofs.pass.whole_run.Given as goal

abbrev pub invariant-loop-at : goal.invariant-loop-at
invariant-loop-at l = record { within : l.at ≤ length l.text; run : RunsTo (delimiter_options l.delimiters) (cut_place l.fn.from) (take l.at l.text) l.run }

abbrev pub decreases-loop-at : goal.decreases-loop-at
decreases-loop-at l = length l.text - l.at
