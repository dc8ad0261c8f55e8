use Rattle.std.proofs.Common.{◌∙◌, ◌≡◌, get_or, length, arith}
use Rattle.std.proofs.lemmas.List.{get_or_default}
use Rattle.morsel_join.specs.declared.rules.JoinColumn.{JoinColumn}
use Rattle.morsel_join.specs.declared.rules.JoinColumn.TheVariants as columns
use Rattle.morsel_group_reads.proofs.KeptLemmas.{kept_more}
use Rattle.morsel_group_reads.proofs.reads.kept_columns.Goals as goal

pub loop-at-preserved : goal.loop-at-preserved
loop-at-preserved c =
    let column = get_or c.args.columns.now c.loop-at.at (columns.Left 0) in
    let field = get_or c.args.fields.now c.loop-at.at c.index-fields-at.result in
    let below = c.loop-at-test.true in let as_many = c.requires in
    let same = get_or_default c.args.columns.now c.loop-at.at (columns.Left 0) column (omega (arith, below, as_many)) in
    kept_more {T = JoinColumn} c.args.group.now c.args.fields.now c.args.columns.now c.loop-at.at field column c.loop-at.kept.items c.keep_if_read.new.kept.items below as_many
    (get_or_default c.args.fields.now c.loop-at.at c.index-fields-at.result field below) same
    c.in_ok-keep_if_read.ensures.ok ∙ c.loop-at.invariant
