use Rattle.std.proofs.Common.{◌≡◌, ◌++◌, ◌+◌, ◌-◌, ◌≤◌, length, take, map, get_or, vec_len}
use Rattle.std.specs.Prelude.{vec_capacity}
use Rattle.morsel_frame.proofs.gathers.push_items.Given as goal

abbrev pub invariant-loop-row : goal.invariant-loop-row
invariant-loop-row g l =
    record {
      items : l.items.items ≡ l.initial.items.items ++ map (λ row. get_or l.others (g.R.RowNumber.place row) l.blank) (take l.row-index l.rows);
      room : vec_len l.items + (length l.rows - l.row-index) ≤ vec_capacity l.items;
    }
