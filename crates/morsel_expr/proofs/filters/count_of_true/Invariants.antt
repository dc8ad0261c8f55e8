use Rattle.std.proofs.Common.{◌≡◌, take, count_by}
use Rattle.morsel_expr.specs.Truths.{is_true}
use Rattle.morsel_expr.proofs.filters.count_of_true.Given as goal

abbrev pub invariant-loop-truth : goal.invariant-loop-truth
invariant-loop-truth l = l.count ≡ count_by is_true (take l.truth-index l.mask)
