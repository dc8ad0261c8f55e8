use Rattle.std.proofs.lemmas.Result.{err_from_is_err_and}
use Rattle.serde_json.specs.View.{view}
use Rattle.morsel_query_text.proofs.ScanLemmas.{refused_part}
use Rattle.morsel_query_text.proofs.scan.read_scan.Goals as goal

pub returns-in_err-asked-clause-refused : goal.returns-in_err-asked-clause-refused
returns-in_err-asked-clause-refused c =
    let p = err_from_is_err_and c.from_residual.result c.from_residual.ensures.1 in
    rw (p.1, p.2) (refused_part (view c.args.tree.now) c.in_err-asked.field-0.0 c.in_err-asked.ensures.refused)
