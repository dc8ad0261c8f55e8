use Rattle.std.proofs.Common.{◌∙◌, ◌++◌, ◌∷◌, [], ap, get_or, refl, sym, take, append_assoc}
use Rattle.std.proofs.lemmas.Option.{get_or_from_slice_get}
use Rattle.morsel_frame.specs.Tables.{fields_at}
use Rattle.morsel_frame.proofs.SelectLemmas.{fields_at-more}
use Rattle.morsel_group.proofs.plan.push_key_fields.Goals as goal

pub loop-at-preserved : goal.loop-at-preserved
loop-at-preserved c =
    let same = c.in_ok-name.ensures.value ∙ c.as_str.ensures in
    let at = get_or c.args.places.now c.loop-at.at-index 0 in
    let field = c.field-field.result.now in
    let before = fields_at c.args.input.now (take c.loop-at.at-index c.args.places.now) in
    rw (c.in_ok-push.ensures.items, c.loop-at.invariant, same)
    (append_assoc c.args.fields.now.items before (field ∷ [])
    ∙ ap (λ fs. c.args.fields.now.items ++ fs) (sym (fields_at-more c.args.input.now c.args.places.now c.loop-at.at-index at field
    c.loop-at-test.true refl (c.requires c.loop-at.at-index 0 c.loop-at-test.true) (sym (get_or_from_slice_get c.args.input.now at field field c.field-field.ensures)))))
