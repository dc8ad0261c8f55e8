use Rattle.std.proofs.Common.{rules, drop, ◌+◌}
use Rattle.std.proofs.lemmas.List.{drop_all}
use Rattle.morsel_query.proofs.SetLemmas.{others-more, others-none, next_name}
use Rattle.morsel_query.proofs.name_sets.set_of_names.Goals as goal

pub loop-name-preserved : goal.loop-name-preserved
loop-name-preserved c =
    let names = c.args.names.now in
    let i = c.loop-name.name-index in
    let key = c.as_str.result in
    others-more c.loop-name.set c.insert.new.self key (drop i names) (drop (i + 1) names) names c.loop-name.invariant
    (next_name names i c.name-item.result key.now c.as_str.ensures (search rules) c.name-item.is) c.in_ok-insert.ensures.updates

pub returns-clause-ok : goal.returns-clause-ok
returns-clause-ok c =
    let names = c.args.names.now in
    others-none c.loop-name.set (drop c.loop-name.name-index names) names c.loop-name.invariant (drop_all c.loop-name.name-index names c.loop-name-test.false)
