use Rattle.std.proofs.Common.{◌≡◌, ◌++◌, ◌+◌, ◌-◌, ◌≤◌, vec_len}
use Rattle.std.specs.Prelude.{vec_capacity}
use Rattle.morsel_frame.specs.Made.{counted}
use Rattle.morsel_frame.proofs.made.push_counted.Given as goal

abbrev pub invariant-loop-i : goal.invariant-loop-i
invariant-loop-i l =
    record {
      items : l.numbers.items ≡ l.initial.numbers.items ++ counted l.first l.i;
      room : vec_len l.numbers + (l.len - l.i) ≤ vec_capacity l.numbers;
    }
