use Rattle.morsel_group.proofs.FreshLemmas.{alone_rows}
use Rattle.std.proofs.Common.{length}
use Rattle.morsel_group.proofs.table.number_rows.Goals as goal

pub returns-in-Alone-clause-numbers : goal.returns-in-Alone-clause-numbers
returns-in-Alone-clause-numbers c =
    alone_rows c.args.table.now c.in-Alone.there c.args.frame.now.schema c.args.columns.now c.args.frame.now.rows (length c.args.out.now) c.number_alone.new.out c.number_alone.result c.in-Alone.is c.requires.columns c.requires.kinds c.requires.len c.number_alone.ensures.numbers c.number_alone.ensures.there
