use Rattle.morsel_row_keys.proofs.StepLemmas.{split_list}
use Rattle.morsel_row_keys.proofs.RowLemmas.{blank_chained, blank_keyed}
use Rattle.morsel_row_keys.proofs.row_keys.RowKeys.new.Goals as goal

pub invariant_of-result : goal.invariant_of-result
invariant_of-result c = blank_chained c.new-first.result c.in_ok-more.more.items _ _ c.new-first.ensures c.in_ok-more.ensures.ok

pub returns-clause-ok : goal.returns-clause-ok
returns-clause-ok c = blank_keyed c.new-first.result c.in_ok-more.more.items _ _ c.args.kinds.now c.new-first.ensures c.in_ok-more.ensures.ok (split_list c.args.kinds.now _ c.requires)
