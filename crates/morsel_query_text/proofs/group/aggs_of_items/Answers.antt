use Rattle.std.proofs.Common.{◌≡◌, ◌∙◌, ◌++◌, ap, sym, subst, List, option_map, Some, get_or, drop, ◌+◌}
use Rattle.std.proofs.lemmas.Result.{err_from_is_err_and}
use Rattle.serde_json.specs.View.{view, items_view}
use Rattle.serde_json.specs.declared.value.Value.{Value}
use Rattle.morsel_group.specs.declared.spec.Agg.{Agg}
use Rattle.morsel_query_text.specs.QueryTexts.{agg_of}
use Rattle.morsel_query_text.specs.Trees.{each_as}
use Rattle.morsel_query_text.proofs.ListLemmas.{each-step, each-none, each-all, refused-so}
use Rattle.morsel_query_text.proofs.group.aggs_of_items.Goals as goal

pub returns-in_err-agg_of-clause-refused : goal.returns-in_err-agg_of-clause-refused
returns-in_err-agg_of-clause-refused c =
    let p = err_from_is_err_and c.from_residual.result c.from_residual.ensures.1 in
    let items = c.args.items.now in
    let i = c.loop-item.item-index in
    let x = c.item-item.result in
    rw (p.1, p.2) (refused-so Agg (List Agg) (agg_of (view x)) (each_as agg_of (items_view items)) c.in_err-agg_of.field-0.0
    (λ none. c.loop-item.invariant ∙ each-none Agg agg_of items i x c.loop-item.aggs.items c.loop-item-test.true (ap (λ (v : Value). agg_of (view v)) (sym c.item-item.is) ∙ none))
    c.in_err-agg_of.ensures.refused)

pub loop-item-preserved : goal.loop-item-preserved
loop-item-preserved c =
    let items = c.args.items.now in
    let i = c.loop-item.item-index in
    let x = c.item-item.result in
    let is : agg_of (view (get_or items i x)) ≡ Some c.in_ok-agg_of.field-0 = ap (λ (v : Value). agg_of (view v)) (sym c.item-item.is) ∙ c.in_ok-agg_of.ensures.ok in
    subst (λ (all : List Agg). each_as agg_of (items_view items) ≡ option_map (λ (rest : List Agg). all ++ rest) (each_as agg_of (items_view (drop (i + 1) items)))) (sym c.in_ok-push.ensures.items)
    (c.loop-item.invariant ∙ each-step Agg agg_of items i x c.loop-item.aggs.items c.in_ok-agg_of.field-0 c.loop-item-test.true is)

pub returns-clause-ok : goal.returns-clause-ok
returns-clause-ok c = c.loop-item.invariant ∙ each-all Agg agg_of c.args.items.now c.loop-item.item-index c.loop-item.aggs.items c.loop-item-test.false
