use Rattle.morsel_query_text.proofs.AlikeLemmas.{one_predicate}
use Rattle.morsel_query_text.proofs.query.a_tree_is_one_predicate.Goals as goal

pub returns : goal.returns
returns c = one_predicate
