use Rattle.std.proofs.Common.{sym}
use Rattle.morsel_query_text.proofs.ListLemmas.{no_triple}
use Rattle.morsel_query_text.proofs.lists.three_of.Goals as goal

pub returns-else-items-eq3 : goal.returns-else-items-eq3
returns-else-items-eq3 c = sym (no_triple c.args.items.now c.if-items-eq3.false)
