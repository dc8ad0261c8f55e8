use Rattle.std.proofs.Common.{◌≤◌, ◌-◌, length}
use Rattle.morsel_text.specs.RawFields.{PassedTo}
use Rattle.morsel_text.proofs.split.plain_len.Given as goal

abbrev pub invariant-loop-at : goal.invariant-loop-at
invariant-loop-at l = record { within : l.at ≤ length l.text; passed : PassedTo l.options l.text l.at }

abbrev pub decreases-loop-at : goal.decreases-loop-at
decreases-loop-at l = length l.text - l.at
