use Rattle.std.proofs.Common.{arith}
use Rattle.std.proofs.lemmas.Result.{err_from_is_err_and}
use Rattle.morsel_outside.proofs.MemoryLemmas.{sinks_of-set_last, sinks_of-set_same}
use Rattle.morsel_outside.proofs.memory.extend_last.Goals as goal

pub returns-in_err-extend_from_slice-clause-err : goal.returns-in_err-extend_from_slice-clause-err
returns-in_err-extend_from_slice-clause-err c =
    let p = err_from_is_err_and c.from_residual.result c.from_residual.ensures.1 in
    rw p.1 (sinks_of-set_same c.args.sinks.now _ _ _ c.in_err-extend_from_slice.ensures.items)

pub returns-clause-ok : goal.returns-clause-ok
returns-clause-ok c =
    sinks_of-set_last c.args.sinks.now _ _ _ _ (omega arith) c.in_ok-extend_from_slice.ensures.items
