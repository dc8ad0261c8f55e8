use Rattle.std.proofs.Common.{sym, arith}
use Rattle.morsel_text.proofs.MarkedLemmas.{begin_after_mark}
use Rattle.morsel_text.proofs.marked_field.place_after.Goals as goal

pub returns : goal.returns
returns c = sym (begin_after_mark c.args.marks.now c.args.j (omega arith))
