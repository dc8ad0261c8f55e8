use Rattle.std.proofs.Common.{◌≡◌}
use Rattle.morsel_states_uses.proofs.tests.drawn.states_of.Given as goal

abbrev pub invariant-loop-shape : goal.invariant-loop-shape
invariant-loop-shape l = l.states.kind ≡ l.fn.kind
