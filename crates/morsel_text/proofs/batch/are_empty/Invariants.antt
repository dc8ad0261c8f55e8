use Rattle.std.proofs.Common.{drop}
use Rattle.morsel_text.specs.Steps.{AreHigh}
use Rattle.morsel_text.proofs.batch.are_empty.Given as goal

abbrev pub invariant-loop-column : goal.invariant-loop-column
invariant-loop-column l = AreHigh 0 (drop l.column-index l.columns) → AreHigh 0 l.columns
