use Rattle.std.proofs.Common.{◌≡◌}
use Rattle.morsel_keys_uses.proofs.tests.drawn.push_each_drawn.Given as goal

abbrev pub invariant-loop-number : goal.invariant-loop-number
invariant-loop-number l = l.column.kind ≡ l.fn.column.kind
