use Rattle.std.proofs.Common.{◌≡◌, ◌++◌, [], take, map, get_or}
use Rattle.morsel_frame.proofs.gathers.push_texts.Given as goal

abbrev pub invariant-loop-row : goal.invariant-loop-row
invariant-loop-row g l =
    l.texts ≡ l.initial.texts ++ map (λ row. get_or (take l.limit l.others) (g.R.RowNumber.place row) []) (take l.row-index l.rows)
