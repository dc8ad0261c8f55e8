use Rattle.morsel_text.proofs.MarkedReadLemmas.{WholeSoFar}
use Rattle.morsel_text.proofs.marked.are_fields.Given as goal

abbrev pub invariant-loop-j : goal.invariant-loop-j
invariant-loop-j l = WholeSoFar l.marked.options.now l.width l.marked.text.now l.marked.marks.now l.j
