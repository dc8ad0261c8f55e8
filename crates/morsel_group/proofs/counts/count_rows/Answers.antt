use Rattle.morsel_states.specs.GroupRows.{group_rows}
use Rattle.morsel_group.proofs.CountLemmas.{rows_stop}
use Rattle.morsel_group.proofs.counts.count_rows.Goals as goal

pub returns-in-Err-clause-refused : goal.returns-in-Err-clause-refused
returns-in-Err-clause-refused c at vs len =
    rows_stop c.args.counts.now c.grow.new.self c.args.count c.count.new.self.entries (group_rows at c.args.numbers.now vs) c.in-Err.fault c.in_ok-grow.ensures.ok c.requires.op c.in-Err.ensures.too_long (c.in-Err.ensures.rows at vs len)
