use Rattle.std.proofs.Common.{rules}
use Rattle.morsel_frame.proofs.ColumnLemmas.{masked-push, kept-marked}
use Rattle.morsel_frame.proofs.column.Column.push_cell.Goals as goal

pub returns-clause-ok : goal.returns-clause-ok
returns-clause-ok c =
    rw (← c.self.view_is, c.in_ok-push.ensures.items, c.in_ok-push-2.ensures.items, c.in_ok-reserve.ensures.items, c.in_ok-push.ensures.kind)
    (rw (masked-push _ _ _ _ c.self.invariant, c.has_value.ensures, kept-marked) (search rules))
