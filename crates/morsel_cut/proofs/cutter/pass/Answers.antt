use Rattle.morsel_cut.proofs.PassLemmas.{passes_bare}
use Rattle.morsel_cut.proofs.cutter.pass.Goals as goal

pub returns-clause-passes : goal.returns-clause-passes
returns-clause-passes c =
    rw c.in_default.is (passes_bare c.args.delimiters c.args.from c.args.piece.now c.whole_run-run.result (c.requires.matched c.in_default.is) c.whole_run-run.ensures.run)
