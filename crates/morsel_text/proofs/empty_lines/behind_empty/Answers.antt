use Rattle.std.proofs.Common.{◌∙◌, sym, ap, subst, replicate}
use Rattle.std.specs.Prelude.{IsUtf8}
use Rattle.std.proofs.lemmas.List.{take_rest}
use Rattle.morsel_text.proofs.EmptyLemmas.{text_behind}
use Rattle.morsel_text.proofs.empty_lines.behind_empty.Goals as goal

pub returns-clause-utf8 : goal.returns-clause-utf8
returns-clause-utf8 c = λ utf8.
    let lines = c.empty_lines.result in
    let text = c.args.text.now in
    subst IsUtf8 (sym (take_rest text lines))
    (text_behind c.args.options.now lines text c.requires.fit c.empty_lines.ensures.within (c.empty_lines.ensures.empty ∙ ap (replicate lines) c.eol.ensures) utf8)
