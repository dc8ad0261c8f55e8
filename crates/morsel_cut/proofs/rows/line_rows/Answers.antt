use Rattle.std.proofs.Common.{◌≡◌, take, sym}
use Rattle.std.specs.Prelude.{None}
use Rattle.morsel_cut.proofs.LineLemmas.{counted_by, takes_lines}
use Rattle.morsel_cut.proofs.rows.line_rows.Goals as goal

pub returns-clause-rows : goal.returns-clause-rows
returns-clause-rows c = λ some records are.
    let o = c.args.options.now in
    let text = c.args.text.now in
    let len = c.count_lines.result.0 in
    let rows = c.count_lines.result.1 in
    let quiet : o.comment ≡ None = sym c.in-None.ensures.value in
    takes_lines o c.args.columns text len rows records c.comment.ensures.fit quiet
    (counted_by o c.of.result c.args.columns (take len text) rows quiet c.of.ensures (c.count_lines.ensures.lines some)) are
