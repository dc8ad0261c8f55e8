use Rattle.std.proofs.Common.{◌≡◌, ◌∙◌, ◌++◌, ap, sym, subst, List, option_map, Some, get_or, drop, ◌+◌}
use Rattle.std.proofs.lemmas.Result.{err_from_is_err_and}
use Rattle.serde_json.specs.View.{view, items_view}
use Rattle.serde_json.specs.declared.value.Value.{Value}
use Rattle.morsel_meaning.specs.declared.value.Field.{Field}
use Rattle.morsel_query_text.specs.QueryTexts.{field}
use Rattle.morsel_query_text.specs.Trees.{each_as}
use Rattle.morsel_query_text.proofs.ListLemmas.{each-step, each-none, each-all, refused-so}
use Rattle.morsel_query_text.proofs.lists.fields_of_items.Goals as goal

pub returns-in_err-field_of-clause-refused : goal.returns-in_err-field_of-clause-refused
returns-in_err-field_of-clause-refused c =
    let p = err_from_is_err_and c.from_residual.result c.from_residual.ensures.1 in
    let items = c.args.items.now in
    let i = c.loop-item.item-index in
    let x = c.item-item.result in
    rw (p.1, p.2) (refused-so Field (List Field) (field (view x)) (each_as field (items_view items)) c.in_err-field_of.field-0.0
    (λ none. c.loop-item.invariant ∙ each-none Field field items i x c.loop-item.fields.items c.loop-item-test.true (ap (λ (v : Value). field (view v)) (sym c.item-item.is) ∙ none))
    c.in_err-field_of.ensures.refused)

pub loop-item-preserved : goal.loop-item-preserved
loop-item-preserved c =
    let items = c.args.items.now in
    let i = c.loop-item.item-index in
    let x = c.item-item.result in
    let is : field (view (get_or items i x)) ≡ Some c.in_ok-field_of.field-0 = ap (λ (v : Value). field (view v)) (sym c.item-item.is) ∙ c.in_ok-field_of.ensures.ok in
    subst (λ (all : List Field). each_as field (items_view items) ≡ option_map (λ (rest : List Field). all ++ rest) (each_as field (items_view (drop (i + 1) items)))) (sym c.in_ok-push.ensures.items)
    (c.loop-item.invariant ∙ each-step Field field items i x c.loop-item.fields.items c.in_ok-field_of.field-0 c.loop-item-test.true is)

pub returns-clause-ok : goal.returns-clause-ok
returns-clause-ok c = c.loop-item.invariant ∙ each-all Field field c.args.items.now c.loop-item.item-index c.loop-item.fields.items c.loop-item-test.false
