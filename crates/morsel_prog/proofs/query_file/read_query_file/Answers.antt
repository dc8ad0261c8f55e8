use Rattle.std.proofs.lemmas.Result.{err_from_is_err_and}
use Rattle.morsel_prog.proofs.QueryReadLemmas.{whole-unopened, whole-opened}
use Rattle.morsel_prog.proofs.query_file.read_query_file.Goals as goal

pub returns-in_err-file : goal.returns-in_err-file
returns-in_err-file g c =
    let p = err_from_is_err_and c.from_residual.result c.from_residual.ensures.1 in
    rw (p.1, p.2) (whole-unopened _ _ c.args.name.now c.in_err-file.field-0.0 c.in_err-file.ensures)

pub returns : goal.returns
returns g c = let opened = c.in_ok-file.ensures in whole-opened _ _ _ c.args.name.now opened.0 c.in_ok-file.file.0 _ opened.1 c.read_opened.ensures
