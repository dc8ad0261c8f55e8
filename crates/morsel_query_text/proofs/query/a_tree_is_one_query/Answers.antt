use Rattle.morsel_query_text.proofs.OneLemmas.{one_query}
use Rattle.morsel_query_text.proofs.query.a_tree_is_one_query.Goals as goal

pub returns : goal.returns
returns c = one_query
