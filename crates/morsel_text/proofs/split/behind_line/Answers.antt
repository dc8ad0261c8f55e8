use Rattle.std.proofs.Common.{◌+◌, ◌∙◌, length, sym, add-one, arith}
use Rattle.std.proofs.lemmas.List.{take_rest, drop_all}
use Rattle.morsel_text.proofs.SplitLemmas.{line_never, line_lone}
use Rattle.morsel_text.proofs.split.behind_line.Goals as goal

pub returns-in_default-clause-value : goal.returns-in_default-clause-value
returns-in_default-clause-value c =
    let text = c.args.text.now in
    take_rest text (length text) ∙ drop_all (length text) text (omega arith) ∙ sym (line_never c.args.eol text c.in_default.ensures)

pub returns-clause-value : goal.returns-clause-value
returns-clause-value c =
    let at = c.in-Some.at in
    line_lone c.args.eol c.args.text.now at (at + 1) _ (add-one at) (take_rest c.args.text.now (at + 1))
    c.in-Some.ensures.0.high c.in-Some.ensures.0.before c.in-Some.ensures.1
