use Rattle.std.proofs.Common.{◌≡◌, ◌<◌, ◌∙◌, List, refl, sym, subst, arith, length}
use Rattle.std.proofs.lemmas.Option.{get_or_from_slice_get}
use Rattle.morsel_meaning.specs.declared.value.Field.{Field}
use Rattle.morsel_meaning.specs.Values.{names_of}
use Rattle.morsel_frame.specs.Names.{AreDistinct}
use Rattle.morsel_group_reads.proofs.KeptLemmas.{kept_more, kept_distinct, all_kept}
use Rattle.morsel_group_reads.proofs.reads.kept_fields.Goals as goal

pub loop-at-preserved : goal.loop-at-preserved
loop-at-preserved c =
    let field = c.field.result.now in
    let is = sym (get_or_from_slice_get c.args.columns.now c.loop-at.at field field c.field.ensures) in
    let len = c.len-at-end.ensures.len in let below = c.loop-at-test.true in
    let within : c.loop-at.at < length c.args.columns.now = omega (arith, len, below) in
    kept_more c.args.group.now c.args.columns.now c.args.columns.now c.loop-at.at field field c.loop-at.kept.items c.keep_field_if_read.new.kept.items within refl is is c.in_ok-keep_field_if_read.ensures.ok ∙ c.loop-at.invariant

pub of_distinct-requires : goal.of_distinct-requires
of_distinct-requires c =
    let len = c.len-at-end.ensures.len in let past = c.loop-at-test.false in
    subst (λ (fields : List Field). AreDistinct (names_of fields)) (sym (all_kept c.args.group.now c.args.columns.now c.args.columns.now c.loop-at.kept.items c.loop-at.at (omega (arith, len, past)) refl c.loop-at.invariant))
    (kept_distinct c.args.group.now c.args.columns.now c.len-at-end.ensures.distinct)
