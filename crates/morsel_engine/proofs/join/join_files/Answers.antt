use Rattle.std.proofs.Common.{◌≡◌, length, sym, ◌∙◌, arith}
use Rattle.morsel_engine.proofs.JoinFilesLemmas.{made_suits, chunk_some, joins_left, joins_right}
use Rattle.morsel_engine.proofs.join.join_files.Goals as goal

pub write_join-requires-clause-kept_suits : goal.write_join-requires-clause-kept_suits
write_join-requires-clause-kept_suits g c =
    let some = c.scan_run-run.ensures.some in let is = c.scan_run-run.ensures.bound in
    made_suits _ c.args.left.spec c.args.left.columns c.args.left.files.items 0 c.args.options.now _ _ _ c.requires.left_open (omega arith) (chunk_some c.args.options.now (omega (arith, some, is)))
    (record { node_is = c.in-Ok.ensures.node; columns_are = c.in-Ok.ensures.columns; reader_is = c.in-Ok.ensures.reader; fit = c.in-Ok.ensures.fit })

pub write_join-requires-clause-asked_suits : goal.write_join-requires-clause-asked_suits
write_join-requires-clause-asked_suits g c =
    let some = c.scan_run-run.ensures.some in let is = c.scan_run-run.ensures.bound in
    let len = c.len-lefts.ensures in let one = c.requires.left_open.one_each in let few = c.requires.left_open.few in
    made_suits _ c.args.right.spec c.args.right.columns c.args.right.files.items _ c.args.options.now _ _ _ c.requires.right_open (omega (arith, len, one, few)) (chunk_some c.args.options.now (omega (arith, some, is)))
    (record { node_is = c.in-Ok-join_side.ensures.node; columns_are = c.in-Ok-join_side.ensures.columns; reader_is = c.in-Ok-join_side.ensures.reader; fit = c.in-Ok-join_side.ensures.fit })

pub write_join-requires-else-keeps_left-clause-kept_suits : goal.write_join-requires-else-keeps_left-clause-kept_suits
write_join-requires-else-keeps_left-clause-kept_suits g c =
    let some = c.scan_run-run.ensures.some in let is = c.scan_run-run.ensures.bound in
    let len = c.len-lefts.ensures in let one = c.requires.left_open.one_each in let few = c.requires.left_open.few in
    made_suits _ c.args.right.spec c.args.right.columns c.args.right.files.items _ c.args.options.now _ _ _ c.requires.right_open (omega (arith, len, one, few)) (chunk_some c.args.options.now (omega (arith, some, is)))
    (record { node_is = c.in-Ok-join_side.ensures.node; columns_are = c.in-Ok-join_side.ensures.columns; reader_is = c.in-Ok-join_side.ensures.reader; fit = c.in-Ok-join_side.ensures.fit })

pub write_join-requires-else-keeps_left-clause-asked_suits : goal.write_join-requires-else-keeps_left-clause-asked_suits
write_join-requires-else-keeps_left-clause-asked_suits g c =
    let some = c.scan_run-run.ensures.some in let is = c.scan_run-run.ensures.bound in
    made_suits _ c.args.left.spec c.args.left.columns c.args.left.files.items 0 c.args.options.now _ _ _ c.requires.left_open (omega arith) (chunk_some c.args.options.now (omega (arith, some, is)))
    (record { node_is = c.in-Ok.ensures.node; columns_are = c.in-Ok.ensures.columns; reader_is = c.in-Ok.ensures.reader; fit = c.in-Ok.ensures.fit })

pub returns-then-keeps_left-clause-joins : goal.returns-then-keeps_left-clause-joins
returns-then-keeps_left-clause-joins g c =
    let len = c.len-lefts.ensures in let one = c.requires.left_open.one_each in
    let same : c.len-lefts.result ≡ length c.args.left.spec.sources.items = omega (arith, len, one) in
    joins_left _ _ c.args.left.spec c.args.right.spec c.args.left.columns c.args.right.columns c.args.left.files.items c.args.right.files.items c.len-lefts.result c.args.rules c.args.options.now _ _ _ _ _ _
    same
    (record { node_is = c.in-Ok.ensures.node; columns_are = c.in-Ok.ensures.columns; reader_is = c.in-Ok.ensures.reader; fit = c.in-Ok.ensures.fit })
    (record { node_is = c.in-Ok-join_side.ensures.node; columns_are = c.in-Ok-join_side.ensures.columns; reader_is = c.in-Ok-join_side.ensures.reader; fit = c.in-Ok-join_side.ensures.fit })
    _ _ (sym c.keeps_left.ensures ∙ c.if-keeps_left.true) c.scan_run-run.ensures.bound c.scan_run-run.ensures.some c.write_join.ensures.joins

pub returns-else-keeps_left-clause-joins : goal.returns-else-keeps_left-clause-joins
returns-else-keeps_left-clause-joins g c =
    let len = c.len-lefts.ensures in let one = c.requires.left_open.one_each in
    let same : c.len-lefts.result ≡ length c.args.left.spec.sources.items = omega (arith, len, one) in
    joins_right _ _ c.args.left.spec c.args.right.spec c.args.left.columns c.args.right.columns c.args.left.files.items c.args.right.files.items c.len-lefts.result c.args.rules c.args.options.now _ _ _ _ _ _
    same
    (record { node_is = c.in-Ok.ensures.node; columns_are = c.in-Ok.ensures.columns; reader_is = c.in-Ok.ensures.reader; fit = c.in-Ok.ensures.fit })
    (record { node_is = c.in-Ok-join_side.ensures.node; columns_are = c.in-Ok-join_side.ensures.columns; reader_is = c.in-Ok-join_side.ensures.reader; fit = c.in-Ok-join_side.ensures.fit })
    _ _ (sym c.keeps_left.ensures ∙ c.if-keeps_left.false) c.scan_run-run.ensures.bound c.scan_run-run.ensures.some c.write_join-else-keeps_left.ensures.joins
