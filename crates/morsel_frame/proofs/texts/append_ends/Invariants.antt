use Rattle.std.proofs.Common.{◌≡◌, ◌++◌, ◌+◌, ◌-◌, ◌≤◌, length, take, vec_len}
use Rattle.std.specs.Prelude.{vec_capacity}
use Rattle.morsel_frame.specs.Pieces.{moved}
use Rattle.morsel_frame.proofs.texts.append_ends.Given as goal

abbrev pub invariant-loop-end : goal.invariant-loop-end
invariant-loop-end l =
    record {
      items : l.ends.items ≡ l.initial.ends.items ++ moved l.from l.base (take l.end-index l.others);
      room : vec_len l.ends + (length l.others - l.end-index) ≤ vec_capacity l.ends;
    }
