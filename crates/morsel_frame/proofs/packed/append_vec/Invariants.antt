use Rattle.std.proofs.Common.{◌≡◌, ◌++◌}
use Rattle.morsel_frame.proofs.packed.append_vec.Given as goal

abbrev pub invariant-loop-item : goal.invariant-loop-item
invariant-loop-item g l = l.items.items ≡ l.initial.items.items ++ l.yielded
