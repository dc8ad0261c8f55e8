use Rattle.std.proofs.Common.{◌==◌, ℕ, subst}
use Rattle.morsel_text.specs.Lines.{Marks}
use Rattle.morsel_text.proofs.LineLemmas.{line_found}
use Rattle.morsel_text.proofs.split.line.split_short.Goals as goal

pub split_line-requires-clause-line : goal.split_line-requires-clause-line
split_line-requires-clause-line c =
    let text = c.args.text.now in
    line_found c.args.options.now text c.marks.result c.quote_marks.result c.if-text-lt-LANES.false
    (subst (λ (e : ℕ). Marks (λ b. b == e) text 64 c.marks.result) c.eol.ensures c.marks.ensures) c.quote_marks.ensures c.marks.type_inv c.quote_marks.type_inv c.if-quote_marks-len.false
