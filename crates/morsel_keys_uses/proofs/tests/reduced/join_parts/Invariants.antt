use Rattle.std.proofs.Common.{◌≡◌}
use Rattle.morsel_keys_uses.proofs.tests.reduced.join_parts.Given as goal

abbrev pub invariant-loop-part : goal.invariant-loop-part
invariant-loop-part l = record {
  kind : l.all.kind ≡ l.fn.all.kind;
  op : l.all.op ≡ l.fn.all.op;
}
