use Rattle.std.proofs.Common.{rules, drop, ◌+◌}
use Rattle.std.proofs.lemmas.List.{at_drop_all}
use Rattle.morsel_meaning.specs.Values.{names_of}
use Rattle.morsel_query.proofs.SetLemmas.{others-more, others-none, next_column}
use Rattle.morsel_query.proofs.name_sets.set_of_columns.Goals as goal

pub loop-column-preserved : goal.loop-column-preserved
loop-column-preserved c =
    let columns = c.args.columns.now in
    let i = c.loop-column.column-index in
    let key = c.as_str.result in
    others-more c.loop-column.set c.insert.new.self key (names_of (drop i columns)) (names_of (drop (i + 1) columns)) (names_of columns) c.loop-column.invariant
    (next_column columns i c.column-item.result key.now c.as_str.ensures (search rules) c.column-item.is) c.in_ok-insert.ensures.updates

pub returns-clause-ok : goal.returns-clause-ok
returns-clause-ok c =
    let columns = c.args.columns.now in
    let i = c.loop-column.column-index in
    others-none c.loop-column.set (names_of (drop i columns)) (names_of columns) c.loop-column.invariant (at_drop_all names_of columns i c.loop-column-test.false)
