use Rattle.std.proofs.Common.{◌∙◌, sym}
use Rattle.morsel_text.proofs.MarkedTextLemmas.{short_field}
use Rattle.morsel_text.proofs.marked_texts.short_content.Goals as goal

pub returns-clause-field : goal.returns-clause-field
returns-clause-field c =
    short_field c.args.options.now c.args.text.now c.args.begin c.args.end c.run_len-len.result (sym c.is_quote.ensures ∙ c.if-not-is_quote.false) c.requires.within c.run_len-len.ensures
    c.if-len-eq-LANES.false c.if-begin-len.false
