use Rattle.std.proofs.Common.{◌≡◌}
use Rattle.morsel_states_uses.proofs.tests.drawn.put_rows.Given as goal

abbrev pub invariant-loop-row : goal.invariant-loop-row
invariant-loop-row l = l.acc.kind ≡ l.fn.acc.kind
