use Rattle.std.proofs.Common.{sym}
use Rattle.morsel_query_text.proofs.ListLemmas.{no_pair}
use Rattle.morsel_query_text.proofs.lists.two_of.Goals as goal

pub returns-else-items-eq2 : goal.returns-else-items-eq2
returns-else-items-eq2 c = sym (no_pair c.args.items.now c.if-items-eq2.false)
