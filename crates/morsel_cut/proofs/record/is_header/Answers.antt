use Rattle.std.proofs.Common.{◌∙◌, sym}
use Rattle.morsel_cut.proofs.BlankLemmas.{header_else}
use Rattle.morsel_cut.proofs.record.is_header.Goals as goal

pub returns : goal.returns
returns c = λ r rest is.
    header_else c.args.options.now c.eol.result c.args.text.now rest r c.is_blank.result c.is_comment.ensures.fit
    (sym c.is_comment.ensures.value ∙ c.if-is_comment.false) c.is_blank.ensures c.eol.ensures is
