use Rattle.std.proofs.Common.{◌≡◌}
use Rattle.morsel_keys_uses.proofs.tests.samples.push_cells.Given as goal

abbrev pub invariant-loop-cell : goal.invariant-loop-cell
invariant-loop-cell l = l.column.kind ≡ l.fn.column.kind
