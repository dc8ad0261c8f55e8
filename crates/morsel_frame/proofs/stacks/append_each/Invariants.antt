use Rattle.std.proofs.Common.{◌≡◌}
use Rattle.morsel_frame.specs.Stacks.{stacked_up_to}
use Rattle.morsel_frame.proofs.stacks.append_each.Given as goal

abbrev pub invariant-loop-at : goal.invariant-loop-at
invariant-loop-at l = l.columns.items ≡ stacked_up_to l.at l.initial.columns.items l.others
