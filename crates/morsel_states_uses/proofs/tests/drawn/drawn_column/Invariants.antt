use Rattle.std.proofs.Common.{◌≡◌}
use Rattle.morsel_states_uses.proofs.tests.drawn.drawn_column.Given as goal

abbrev pub invariant-loop : goal.invariant-loop
invariant-loop l = l.column.kind ≡ l.fn.kind
