use Rattle.std.proofs.Common.{◌∙◌, map, ap}
use Rattle.morsel_frame.specs.Columns.{Values, value_or_null}
use Rattle.morsel_frame.specs.Tables.{cell_at}
use Rattle.morsel_join.specs.Rows.{kind_at, first_values}
use Rattle.morsel_join.proofs.gather.gather_first.Goals as goal

pub returns-clause-ok : goal.returns-clause-ok
returns-clause-ok c =
    c.in_ok-column.ensures.ok
    ∙ ap (λ (v : Values). record { kind = v.kind; values = first_values v.values c.in_ok-second.second.values }) c.in_ok-first.ensures.ok
    ∙ ap (λ (v : Values). record { kind = kind_at c.args.left.now.schema c.args.at; values = first_values (map (value_or_null (map (cell_at c.args.at) c.args.left.now.rows)) c.args.lefts.now) v.values }) c.in_ok-second.ensures.ok
