use Rattle.serde_json.specs.View.{view}
use Rattle.morsel_query_text.proofs.GroupLemmas.{aggs_have_columns}
use Rattle.morsel_query_text.proofs.group.read_group.Goals as goal

pub returns-clause-columns : goal.returns-clause-columns
returns-clause-columns c = aggs_have_columns (view c.args.tree.now) c.in_ok-aggs.aggs.items c.in_ok-aggs.ensures.ok
