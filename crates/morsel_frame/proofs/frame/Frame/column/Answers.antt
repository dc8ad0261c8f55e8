use Rattle.std.proofs.Common.{arith, ◌<◌, ◌∙◌, sym, ap, length, map}
use Rattle.morsel_meaning.specs.Values.{Table}
use Rattle.morsel_frame.specs.Columns.{Values}
use Rattle.morsel_frame.specs.Tables.{cell_at}
use Rattle.morsel_frame.proofs.FrameLemmas.{absent_rows, kept_column}
use Rattle.morsel_frame.proofs.frame.Frame.column.Goals as goal

pub returns-then-at-len-clause-values : goal.returns-then-at-len-clause-values
returns-then-at-len-clause-values c =
    let seen = ap (λ (table : Table). length table.schema) c.self.view_is in
    let absent : length c.self.inside.columns.items < length c.self.inside.schema = omega (arith, seen) in
    ap (λ (column : Values). column.values) c.blank.ensures
    ∙ ap (map (cell_at c.args.at)) (sym (absent_rows c.self.inside.schema c.self.inside.height c.self.inside.columns.items c.self.invariant.0 absent))
    ∙ ap (λ (table : Table). map (cell_at c.args.at) table.rows) c.self.view_is

pub returns-clause-kind : goal.returns-clause-kind
returns-clause-kind c =
    rw (← c.self.view_is)
    (kept_column c.self.inside.schema c.self.inside.height c.self.inside.columns.items c.args.at c.index.result.now c.self.invariant.0 (omega arith) c.index.ensures).0

pub returns-clause-values : goal.returns-clause-values
returns-clause-values c =
    rw (← c.self.view_is)
    (kept_column c.self.inside.schema c.self.inside.height c.self.inside.columns.items c.args.at c.index.result.now c.self.invariant.0 (omega arith) c.index.ensures).1
