use Rattle.std.proofs.Common.{◌∙◌, ap, sym, arith, ◌+◌, List, ◌∷◌, [], ◌++◌, drop, append_assoc}
use Rattle.std.proofs.lemmas.List.{drop_more}
use Rattle.std.proofs.lemmas.Option.{get_or_from_slice_get}
use Rattle.morsel_meaning.specs.declared.value.Field.{Field}
use Rattle.morsel_scan.proofs.source_fields.push_all.Goals as goal

pub loop-at-preserved : goal.loop-at-preserved
loop-at-preserved c =
    let field : Field = c.field-field.result.now in
    let rest : List Field = drop (c.loop-at.at + 1) c.args.schema.now in
    ap (λ (fs : List Field). fs ++ rest) c.in_ok-push_field.ensures.ok ∙ append_assoc c.loop-at.fields.items (field ∷ []) rest
    ∙ ap (λ (fs : List Field). c.loop-at.fields.items ++ fs)
    (sym (drop_more c.args.schema.now c.loop-at.at field (omega arith) ∙ ap (λ (f : Field). f ∷ rest) (get_or_from_slice_get c.args.schema.now c.loop-at.at field field c.field-field.ensures)))
    ∙ c.loop-at.invariant
