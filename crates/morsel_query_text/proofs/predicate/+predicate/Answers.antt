use Rattle.std.proofs.Common.{◌≡◌, ◌∙◌, sym, ap, subst, Some, get_or}
use Rattle.std.specs.Prelude.{IfOk, IfErr}
use Rattle.serde_json.specs.Data.{Data}
use Rattle.serde_json.specs.Find.{as_str}
use Rattle.serde_json.specs.View.{view}
use Rattle.serde_json.specs.declared.value.Value.{Value}
use Rattle.morsel_expr.specs.declared.node.PredNode.{PredNode}
use Rattle.morsel_query_text.specs.Predicates.{one_part, two_parts, is_predicate}
use Rattle.morsel_query_text.specs.Reads.{IsPredOf, RefusedUnless}
use Rattle.morsel_query_text.proofs.FormLemmas.{one_form, two_form, no_form}
use Rattle.morsel_query_text.proofs.predicate.+predicate.Goals as goal

pub of_items-returns-in-Some-clause-refused : goal.of_items-returns-in-Some-clause-refused
of_items-returns-in-Some-clause-refused t c =
    let items = c.args.items.now in
    let x = c.index-items-0.result in
    let y = c.index-items-1.result in
    let word : as_str (view (get_or items 0 x)) ≡ Some c.in-Some.word.now = ap (λ (v : Value). as_str (view v)) (sym c.index-items-0.is) ∙ sym c.in-Some.ensures in
    let form = one_form items x y c.in-Some.word.now c.if-items-eq2.true word ∙ ap (λ (v : Value). one_part c.in-Some.word.now (view v)) (sym c.index-items-1.is) in
    subst (λ (d : Data). IfErr c.of_one_part.result (RefusedUnless (is_predicate d))) (sym form) c.of_one_part.ensures.refused

pub of_items-returns-then-items-ne3-clause-refused : goal.of_items-returns-then-items-ne3-clause-refused
of_items-returns-then-items-ne3-clause-refused t c = no_form c.args.items.now c.if-items-eq2.false c.if-items-ne3.true

pub of_items-returns-in-Some-as_str-clause-ok : goal.of_items-returns-in-Some-as_str-clause-ok
of_items-returns-in-Some-as_str-clause-ok t c =
    let items = c.args.items.now in
    let x = c.index-items-0-2.result in
    let y = c.index-items-1-in-Some-as_str.result in
    let z = c.index-items-2.result in
    let text = c.in-Some-as_str.word.now in
    let word : as_str (view (get_or items 0 x)) ≡ Some text = ap (λ (v : Value). as_str (view v)) (sym c.index-items-0-2.is) ∙ sym c.in-Some-as_str.ensures in
    let form = two_form items x y z text c.if-items-ne3.false word
    ∙ ap (λ (v : Value). two_parts text (view v) (view (get_or items 2 z))) (sym c.index-items-1-in-Some-as_str.is)
    ∙ ap (λ (v : Value). two_parts text (view y) (view v)) (sym c.index-items-2.is) in
    subst (λ (d : Data). IfOk c.of_two_parts.result (λ (value : PredNode). IsPredOf d value)) (sym form) c.of_two_parts.ensures.ok

pub of_items-returns-in-Some-as_str-clause-refused : goal.of_items-returns-in-Some-as_str-clause-refused
of_items-returns-in-Some-as_str-clause-refused t c =
    let items = c.args.items.now in
    let x = c.index-items-0-2.result in
    let y = c.index-items-1-in-Some-as_str.result in
    let z = c.index-items-2.result in
    let text = c.in-Some-as_str.word.now in
    let word : as_str (view (get_or items 0 x)) ≡ Some text = ap (λ (v : Value). as_str (view v)) (sym c.index-items-0-2.is) ∙ sym c.in-Some-as_str.ensures in
    let form = two_form items x y z text c.if-items-ne3.false word
    ∙ ap (λ (v : Value). two_parts text (view v) (view (get_or items 2 z))) (sym c.index-items-1-in-Some-as_str.is)
    ∙ ap (λ (v : Value). two_parts text (view y) (view v)) (sym c.index-items-2.is) in
    subst (λ (d : Data). IfErr c.of_two_parts.result (RefusedUnless (is_predicate d))) (sym form) c.of_two_parts.ensures.refused
