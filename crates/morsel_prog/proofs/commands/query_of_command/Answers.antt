use Rattle.std.proofs.lemmas.Result.{err_from_is_err_and}
use Rattle.morsel_prog.proofs.CommandLemmas.{scan-had, scan-lacked}
use Rattle.morsel_prog.proofs.commands.query_of_command.Goals as goal

pub returns-in_err-scan_query-in-Scan : goal.returns-in_err-scan_query-in-Scan
returns-in_err-scan_query-in-Scan g c =
    let p = err_from_is_err_and c.from_residual.result c.from_residual.ensures.1 in
    rw (c.in-Scan.is, p.1, p.2) (scan-lacked _ _ _ _ c.in_err-scan_query-in-Scan.field-0.0 c.in_err-scan_query-in-Scan.ensures.refused)

pub returns-in_ok-scan_query-in-Scan : goal.returns-in_ok-scan_query-in-Scan
returns-in_ok-scan_query-in-Scan g c = rw c.in-Scan.is (scan-had _ _ _ _ c.in_ok-scan_query-in-Scan.field-0 c.standard.result c.in_ok-scan_query-in-Scan.ensures.ok c.standard.ensures)
