use Rattle.std.proofs.Common.{◌≡◌, length, sym, ◌∙◌, arith}
use Rattle.morsel_engine.proofs.JoinFilesLemmas.{made_suits, chunk_some, groups_left, groups_right, group_sweeps_left, group_sweeps_right}
use Rattle.morsel_engine.proofs.joined_groups.group_joined_files.Goals as goal

pub write_joined_groups-requires-clause-kept_suits : goal.write_joined_groups-requires-clause-kept_suits
write_joined_groups-requires-clause-kept_suits g c =
    let some = c.scan_run-run.ensures.some in let is = c.scan_run-run.ensures.bound in
    made_suits _ c.args.left.spec c.args.left.columns c.args.left.files.items 0 c.args.options.now _ _ _ c.requires.left_open (omega arith) (chunk_some c.args.options.now (omega (arith, some, is)))
    (record { node_is = c.in-Ok.ensures.node; columns_are = c.in-Ok.ensures.columns; reader_is = c.in-Ok.ensures.reader; fit = c.in-Ok.ensures.fit })

pub write_joined_groups-requires-clause-asked_suits : goal.write_joined_groups-requires-clause-asked_suits
write_joined_groups-requires-clause-asked_suits g c =
    let some = c.scan_run-run.ensures.some in let is = c.scan_run-run.ensures.bound in
    let len = c.len-lefts.ensures in let one = c.requires.left_open.one_each in let few = c.requires.left_open.few in
    made_suits _ c.args.right.spec c.args.right.columns c.args.right.files.items _ c.args.options.now _ _ _ c.requires.right_open (omega (arith, len, one, few)) (chunk_some c.args.options.now (omega (arith, some, is)))
    (record { node_is = c.in-Ok-join_side.ensures.node; columns_are = c.in-Ok-join_side.ensures.columns; reader_is = c.in-Ok-join_side.ensures.reader; fit = c.in-Ok-join_side.ensures.fit })

pub write_joined_groups-requires-else-keeps_left-clause-kept_suits : goal.write_joined_groups-requires-else-keeps_left-clause-kept_suits
write_joined_groups-requires-else-keeps_left-clause-kept_suits g c =
    let some = c.scan_run-run.ensures.some in let is = c.scan_run-run.ensures.bound in
    let len = c.len-lefts.ensures in let one = c.requires.left_open.one_each in let few = c.requires.left_open.few in
    made_suits _ c.args.right.spec c.args.right.columns c.args.right.files.items _ c.args.options.now _ _ _ c.requires.right_open (omega (arith, len, one, few)) (chunk_some c.args.options.now (omega (arith, some, is)))
    (record { node_is = c.in-Ok-join_side.ensures.node; columns_are = c.in-Ok-join_side.ensures.columns; reader_is = c.in-Ok-join_side.ensures.reader; fit = c.in-Ok-join_side.ensures.fit })

pub write_joined_groups-requires-else-keeps_left-clause-asked_suits : goal.write_joined_groups-requires-else-keeps_left-clause-asked_suits
write_joined_groups-requires-else-keeps_left-clause-asked_suits g c =
    let some = c.scan_run-run.ensures.some in let is = c.scan_run-run.ensures.bound in
    made_suits _ c.args.left.spec c.args.left.columns c.args.left.files.items 0 c.args.options.now _ _ _ c.requires.left_open (omega arith) (chunk_some c.args.options.now (omega (arith, some, is)))
    (record { node_is = c.in-Ok.ensures.node; columns_are = c.in-Ok.ensures.columns; reader_is = c.in-Ok.ensures.reader; fit = c.in-Ok.ensures.fit })

pub returns-then-keeps_left-clause-groups : goal.returns-then-keeps_left-clause-groups
returns-then-keeps_left-clause-groups g c =
    let len = c.len-lefts.ensures in let one = c.requires.left_open.one_each in
    let same : c.len-lefts.result ≡ length c.args.left.spec.sources.items = omega (arith, len, one) in
    groups_left _ _ c.args.left.spec c.args.right.spec c.args.left.columns c.args.right.columns c.args.left.files.items c.args.right.files.items c.len-lefts.result c.args.rules c.args.options.now _ _ _ _ _ _
    same
    (record { node_is = c.in-Ok.ensures.node; columns_are = c.in-Ok.ensures.columns; reader_is = c.in-Ok.ensures.reader; fit = c.in-Ok.ensures.fit })
    (record { node_is = c.in-Ok-join_side.ensures.node; columns_are = c.in-Ok-join_side.ensures.columns; reader_is = c.in-Ok-join_side.ensures.reader; fit = c.in-Ok-join_side.ensures.fit })
    c.args.group.rules _ (sym c.keeps_left.ensures ∙ c.if-keeps_left.true) c.write_joined_groups.ensures.groups

pub returns-then-keeps_left-clause-sweeps : goal.returns-then-keeps_left-clause-sweeps
returns-then-keeps_left-clause-sweeps g c =
    let len = c.len-lefts.ensures in let one = c.requires.left_open.one_each in
    let same : c.len-lefts.result ≡ length c.args.left.spec.sources.items = omega (arith, len, one) in
    group_sweeps_left (g.H.Io.seen c.args.io.now) (g.H.Io.seen c.args.io.now) c.args.left.spec c.args.right.spec c.args.left.columns c.args.right.columns c.args.left.files.items c.args.right.files.items c.len-lefts.result c.args.rules c.args.options.now _ _ _ _ _ _
    same
    (record { node_is = c.in-Ok.ensures.node; columns_are = c.in-Ok.ensures.columns; reader_is = c.in-Ok.ensures.reader; fit = c.in-Ok.ensures.fit })
    (record { node_is = c.in-Ok-join_side.ensures.node; columns_are = c.in-Ok-join_side.ensures.columns; reader_is = c.in-Ok-join_side.ensures.reader; fit = c.in-Ok-join_side.ensures.fit })
    _ _ (sym c.keeps_left.ensures ∙ c.if-keeps_left.true) c.write_joined_groups.ensures.sweeps

pub returns-else-keeps_left-clause-groups : goal.returns-else-keeps_left-clause-groups
returns-else-keeps_left-clause-groups g c =
    let len = c.len-lefts.ensures in let one = c.requires.left_open.one_each in
    let same : c.len-lefts.result ≡ length c.args.left.spec.sources.items = omega (arith, len, one) in
    groups_right _ _ c.args.left.spec c.args.right.spec c.args.left.columns c.args.right.columns c.args.left.files.items c.args.right.files.items c.len-lefts.result c.args.rules c.args.options.now _ _ _ _ _ _
    same
    (record { node_is = c.in-Ok.ensures.node; columns_are = c.in-Ok.ensures.columns; reader_is = c.in-Ok.ensures.reader; fit = c.in-Ok.ensures.fit })
    (record { node_is = c.in-Ok-join_side.ensures.node; columns_are = c.in-Ok-join_side.ensures.columns; reader_is = c.in-Ok-join_side.ensures.reader; fit = c.in-Ok-join_side.ensures.fit })
    c.args.group.rules _ (sym c.keeps_left.ensures ∙ c.if-keeps_left.false) c.write_joined_groups-else-keeps_left.ensures.groups

pub returns-else-keeps_left-clause-sweeps : goal.returns-else-keeps_left-clause-sweeps
returns-else-keeps_left-clause-sweeps g c =
    let len = c.len-lefts.ensures in let one = c.requires.left_open.one_each in
    let same : c.len-lefts.result ≡ length c.args.left.spec.sources.items = omega (arith, len, one) in
    group_sweeps_right (g.H.Io.seen c.args.io.now) (g.H.Io.seen c.args.io.now) c.args.left.spec c.args.right.spec c.args.left.columns c.args.right.columns c.args.left.files.items c.args.right.files.items c.len-lefts.result c.args.rules c.args.options.now _ _ _ _ _ _
    same
    (record { node_is = c.in-Ok.ensures.node; columns_are = c.in-Ok.ensures.columns; reader_is = c.in-Ok.ensures.reader; fit = c.in-Ok.ensures.fit })
    (record { node_is = c.in-Ok-join_side.ensures.node; columns_are = c.in-Ok-join_side.ensures.columns; reader_is = c.in-Ok-join_side.ensures.reader; fit = c.in-Ok-join_side.ensures.fit })
    _ _ (sym c.keeps_left.ensures ∙ c.if-keeps_left.false) c.write_joined_groups-else-keeps_left.ensures.sweeps
