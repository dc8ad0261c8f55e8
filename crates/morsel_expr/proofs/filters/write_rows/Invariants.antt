use Rattle.std.proofs.Common.{◌≡◌, take, count_by}
use Rattle.morsel_expr.specs.Truths.{is_true}
use Rattle.morsel_expr.specs.Kept.{true_rows}
use Rattle.morsel_expr.proofs.filters.write_rows.Given as goal

abbrev pub invariant-loop-row : goal.invariant-loop-row
invariant-loop-row l =
    record {
      place : l.place ≡ count_by is_true (take l.row l.mask);
      rows : take l.place l.rows ≡ true_rows 0 (take l.row l.mask);
    }
