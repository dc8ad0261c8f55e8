use Rattle.std.proofs.Common.{◌≡◌, ◌∷◌, ◌∙◌, [], sym, subst, ℕ, false, List}
use Rattle.morsel_grammar.specs.Rows.{is_empty}
use Rattle.morsel_marks.specs.ByMarks.{AreMarksWithin}
use Rattle.morsel_marks.proofs.ReadLemmas.{keeps_marks_within}
use Rattle.morsel_text.specs.RawFields.{shown}
use Rattle.morsel_text.proofs.MarkedReadLemmas.{whole_more}
use Rattle.morsel_text.proofs.marked.are_fields.Goals.{else-width-eq1-via-then-width-eq1+else-is_nothing, else-width-eq1-via-else-width-eq1}
use Rattle.morsel_text.proofs.marked.are_fields.Goals as goal

pub bounds-marked-marked : goal.bounds-marked-marked
bounds-marked-marked c =
    let text = c.args.marked.now.text.now in
    subst (λ (ms : List ℕ). AreMarksWithin text ms) (sym c.requires.marks)
    (keeps_marks_within c.args.marked.now.options.now c.requires.fit text c.requires.quoted) c.loop-j.j c.loop-j-test.true

pub loop-j-preserved : goal.loop-j-preserved
loop-j-preserved c =
    let o = c.args.marked.now.options.now in
    let field = c.in-Some.field in
    let filled : c.args.width ≡ 1 → is_empty (shown field ∷ []) ≡ false =
    elim c.else-width-eq1.branch [
      | else-width-eq1-via-then-width-eq1+else-is_nothing w ↦ λ one. sym w.is_nothing.ensures ∙ w.if-is_nothing.false
      | else-width-eq1-via-else-width-eq1 w ↦ λ one. absurd (w.if-width-eq1.false one)
    ] in
    whole_more o c.args.width c.args.marked.now.text.now c.args.marked.now.marks.now c.loop-j.j (shown field) c.loop-j.invariant
    (sym (rw c.separator-separator.ensures at (rw c.in-Some.is at c.marked_field.ensures))) filled
