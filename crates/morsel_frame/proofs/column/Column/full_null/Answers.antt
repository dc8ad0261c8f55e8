use Rattle.std.proofs.Common.{rules}
use Rattle.morsel_frame.proofs.ColumnLemmas.{masked-nulls}
use Rattle.morsel_frame.proofs.column.Column.full_null.Goals as goal

pub returns-clause-ok : goal.returns-clause-ok
returns-clause-ok c =
    rw (c.in_ok-vec.ensures.items_if_clones_equal (λ _ same. same), c.in_ok-blank.ensures.items, c.in_ok-blank.ensures.kind)
    (rw masked-nulls (search rules))
