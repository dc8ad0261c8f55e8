use Rattle.std.proofs.Common.{◌≡◌}
use Rattle.morsel_keys_uses.proofs.tests.numbers.put_keys.Given as goal

abbrev pub invariant-loop-row : goal.invariant-loop-row
invariant-loop-row l = l.table.kinds ≡ l.fn.table.kinds
