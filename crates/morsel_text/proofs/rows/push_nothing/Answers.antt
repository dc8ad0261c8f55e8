use Rattle.std.proofs.Common.{sym, refl, rules}
use Rattle.morsel_text.proofs.RowLemmas.{no_row, null_put, null_unused}
use Rattle.morsel_text.proofs.rows.push_nothing.Goals as goal

pub returns-then-len-ne1-clause-row : goal.returns-then-len-ne1-clause-row
returns-then-len-ne1-clause-row c = (no_row c.args.columns.now.items (search rules), refl)

pub returns-then-not-used-clause-row : goal.returns-then-not-used-clause-row
returns-then-not-used-clause-row c = null_unused c.args.used.now c.args.columns.now.items (search rules) c.requires (search rules)

pub returns-clause-row : goal.returns-clause-row
returns-clause-row c = null_put c.args.used.now c.args.columns.now.items _ c.index_mut-column.result.now c.push_null.new.self
    (search rules) c.requires (search rules) (sym c.index_mut-column.ensures.value) c.in_ok-push_null.ensures.ok refl
