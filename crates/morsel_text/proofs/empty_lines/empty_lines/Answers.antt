use Rattle.std.proofs.Common.{arith, ◌∙◌, ◌++◌, ◌∷◌, [], ap, take}
use Rattle.std.proofs.lemmas.List.{take_more, replicate_more}
use Rattle.morsel_text.proofs.empty_lines.empty_lines.Goals as goal

pub loop-lines-preserved : goal.loop-lines-preserved
loop-lines-preserved c =
    let lines = c.loop-lines.lines in
    let text = c.args.text.now in
    take_more text lines 0 (omega arith)
    ∙ ap (λ b. take lines text ++ b ∷ []) c.if-text-lines.false
    ∙ ap (λ front. front ++ c.args.eol ∷ []) c.loop-lines.invariant
    ∙ replicate_more lines c.args.eol
