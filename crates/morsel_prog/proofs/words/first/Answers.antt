use Rattle.morsel_prog.proofs.CutLemmas.{cut_at-first}
use Rattle.morsel_prog.proofs.words.first.Goals as goal

pub returns-clause-cut : goal.returns-clause-cut
returns-clause-cut c = cut_at-first c.args.byte c.args.text.now c.memchr.result (rw c.as_bytes.ensures.value at c.memchr.ensures)
