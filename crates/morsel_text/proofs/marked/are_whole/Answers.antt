use Rattle.std.proofs.Common.{sym, subst, ℕ, List}
use Rattle.morsel_text.specs.MarkedReads.{AreWholeFields}
use Rattle.morsel_text.proofs.MarkedReadLemmas.{whole_without, found_nowhere}
use Rattle.morsel_text.proofs.marked.are_whole.Goals as goal

pub returns-then-is_none : goal.returns-then-is_none
returns-then-is_none c =
    let o = c.args.marked.now.options.now in
    let text = c.args.marked.now.text.now in
    λ yes. subst (λ (ms : List ℕ). AreWholeFields o c.args.width text ms) (sym c.requires.marks)
    (whole_without o c.args.width text c.requires.fit c.if-width-ne1.true c.requires.quoted (found_nowhere 13 text c.memchr.result c.memchr.ensures c.if-is_none.ensures))
