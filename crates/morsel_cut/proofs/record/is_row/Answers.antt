use Rattle.std.proofs.Common.{◌∙◌, sym}
use Rattle.morsel_cut.proofs.BlankLemmas.{row_else}
use Rattle.morsel_cut.proofs.record.is_row.Goals as goal

pub returns-else-columns-eq1 : goal.returns-else-columns-eq1
returns-else-columns-eq1 c = λ r rest is.
    row_else c.args.options.now c.args.columns c.eol.result c.args.text.now rest r c.is_blank.result c.is_comment.ensures.fit
    (sym c.is_comment.ensures.value ∙ c.if-is_comment.false) c.if-columns-eq1.false c.is_blank.ensures c.eol.ensures is
