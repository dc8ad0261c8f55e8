use Rattle.std.proofs.Common.{◌≡◌}
use Rattle.morsel_states_uses.proofs.tests.worked.column_of.Given as goal

abbrev pub invariant-loop-cell : goal.invariant-loop-cell
invariant-loop-cell l = l.column.kind ≡ l.fn.kind
