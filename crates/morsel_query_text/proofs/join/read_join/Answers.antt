use Rattle.std.proofs.lemmas.Result.{err_from_is_err_and}
use Rattle.serde_json.specs.View.{view}
use Rattle.morsel_query_text.proofs.JoinLemmas.{refused_args}
use Rattle.morsel_query_text.proofs.join.read_join.Goals as goal

pub returns-in_err-args-clause-refused : goal.returns-in_err-args-clause-refused
returns-in_err-args-clause-refused c =
    let p = err_from_is_err_and c.from_residual.result c.from_residual.ensures.1 in
    rw (p.1, p.2) (refused_args (view c.args.tree.now) c.in_err-args.field-0.0 c.in_err-args.ensures.refused)
