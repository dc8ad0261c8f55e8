use Rattle.morsel_cut.proofs.LineLemmas.{takes_first}
use Rattle.morsel_cut.proofs.rows.front_rows.Goals as goal

pub returns-then-len-gt0-clause-rows : goal.returns-then-len-gt0-clause-rows
returns-then-len-gt0-clause-rows c = c.line_rows-len.ensures.rows c.if-len-gt0.true

pub returns-clause-rows : goal.returns-clause-rows
returns-clause-rows c = λ records are.
    takes_first c.args.options.now c.args.columns c.args.text.now c.record_size.result c.one_if.result c.is_row.result records
    c.record_size.ensures.fit c.requires.some c.record_size.ensures.value c.is_row.ensures c.one_if.ensures.value are
