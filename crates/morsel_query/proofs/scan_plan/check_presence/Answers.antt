use Rattle.std.proofs.Common.{◌≡◌, ◌∙◌, rules, sym, subst, true, false, List, Option}
use Rattle.morsel_meaning.specs.declared.fault.Fault.{Fault}
use Rattle.morsel_meaning.specs.declared.value.Field.{Field}
use Rattle.morsel_meaning.specs.Values.{names_of}
use Rattle.morsel_frame.specs.Names.{stands_in}
use Rattle.morsel_frame.specs.Refusals.{Refuses}
use Rattle.morsel_query.specs.NameSets.{HasNames}
use Rattle.morsel_query.proofs.NameLemmas.{absence-here, absence-past}
use Rattle.morsel_query.proofs.scan_plan.check_presence.Goals as goal

pub returns-then-not-contains : goal.returns-then-not-contains
returns-then-not-contains c =
    let fields = c.args.schema.now in
    let known = c.in_ok-known.known in
    let text = c.as_str-text.result in
    let holds : HasNames known (names_of fields) = subst (λ (fs : List Field). HasNames known (names_of fs)) c.fields.ensures c.in_ok-known.ensures.ok in
    let gone : stands_in text.now (names_of fields) ≡ false = sym (holds text) ∙ sym c.contains.ensures ∙ c.if-not-contains.true in
    let due = c.loop-name.invariant ∙ absence-here fields c.args.names.now c.loop-name.name-index c.name-item.result text.now c.as_str-text.ensures (search rules) c.name-item.is gone in
    subst (λ (d : Option Fault). Refuses {T = Unit} d c.absent.result) (sym due) c.absent.ensures

pub loop-name-preserved : goal.loop-name-preserved
loop-name-preserved c =
    let fields = c.args.schema.now in
    let known = c.in_ok-known.known in
    let text = c.as_str-text.result in
    let holds : HasNames known (names_of fields) = subst (λ (fs : List Field). HasNames known (names_of fs)) c.fields.ensures c.in_ok-known.ensures.ok in
    let there : stands_in text.now (names_of fields) ≡ true = sym (holds text) ∙ sym c.contains.ensures ∙ c.if-not-contains.false in
    c.loop-name.invariant ∙ absence-past fields c.args.names.now c.loop-name.name-index c.name-item.result text.now c.as_str-text.ensures (search rules) c.name-item.is there
