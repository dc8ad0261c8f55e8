use Rattle.std.proofs.Common.{sym, ◌∙◌, length}
use Rattle.morsel_row_keys.proofs.StepLemmas.{not_empty}
use Rattle.morsel_row_keys.proofs.RowLemmas.{len_some}
use Rattle.morsel_row_keys.proofs.row_keys.count_keys.Goals as goal

pub returns-clause-len : goal.returns-clause-len
returns-clause-len c = c.len-2.ensures.len ∙ sym (len_some c.args.first.now.values c.args.more.now c.index-more-more.result (not_empty (length c.args.more.now) c.is_empty.result c.is_empty.ensures c.if-is_empty.false) c.index-more-more.is)
