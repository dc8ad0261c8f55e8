use Rattle.std.proofs.Common.{rules, arith}
use Rattle.morsel_keys.proofs.ColumnKeyLemmas.{get_before, get_null, get_after}
use Rattle.morsel_keys.proofs.column_keys.get_beside.Goals as goal

pub returns-then-at-null : goal.returns-then-at-null
returns-then-at-null c = get_before c.args.store.now c.args.null c.args.at _ c.requires.place (omega arith) c.get.ensures

pub returns-then-at-null-2 : goal.returns-then-at-null-2
returns-then-at-null-2 c = get_null c.args.store.now c.args.null c.args.at c.requires.place (search rules)

pub returns : goal.returns
returns c = get_after c.args.store.now c.args.null c.args.at _ c.requires.place (search rules) c.get-2.ensures
