use Rattle.std.proofs.Common.{◌≡◌}
use Rattle.morsel_keys_uses.proofs.tests.reduced.put_part.Given as goal

abbrev pub invariant-loop-at : goal.invariant-loop-at
invariant-loop-at l = record {
  kind : l.acc.kind ≡ l.fn.acc.kind;
  op : l.acc.op ≡ l.fn.acc.op;
}
