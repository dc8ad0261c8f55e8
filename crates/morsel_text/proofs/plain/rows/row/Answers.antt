use Rattle.std.proofs.Common.{◌≡◌, ◌∙◌, length, sym, ap}
use Rattle.std.proofs.lemmas.List.{length-map}
use Rattle.std.proofs.lemmas.Result.{IfOk-weaker}
use Rattle.morsel_meaning.specs.declared.value.Field.{Field}
use Rattle.morsel_meaning.specs.Values.{kinds_of}
use Rattle.morsel_grammar.specs.Grammar.{Fields}
use Rattle.morsel_text.specs.Plain.{cells_with, values_in}
use Rattle.morsel_grammar.proofs.OneEndLemmas.{row_of-other}
use Rattle.morsel_text.proofs.PlainLemmas.{row_of-filled, gives_nothing}
use Rattle.morsel_text.proofs.plain.rows.row.Goals as goal

pub returns-then-is_empty-clause-row : goal.returns-then-is_empty-clause-row
returns-then-is_empty-clause-row c =
    let kinds = kinds_of c.args.schema.now in
    IfOk-weaker c.row_of_nothing.result _ _
    (λ row gives. gives_nothing c.args.options.now kinds c.args.used.now c.args.fields.now row (sym c.is_empty.ensures ∙ c.if-is_empty.true)
    (gives kinds (c.requires.used ∙ sym (length-map c.args.schema.now (λ (f : Field). f.kind))))) c.row_of_nothing.ensures.row

pub returns-then-fields-len-clause-row : goal.returns-then-fields-len-clause-row
returns-then-fields-len-clause-row c =
    row_of-other c.args.options.now (kinds_of c.args.schema.now) (Fields c.args.fields.now)
    (sym c.is_empty.ensures ∙ c.if-is_empty.false, λ same. c.if-fields-len.true (same ∙ length-map c.args.schema.now (λ (f : Field). f.kind) ∙ sym c.len.ensures.len))

pub returns-in-Some-clause-row : goal.returns-in-Some-clause-row
returns-in-Some-clause-row c =
    let kinds = kinds_of c.args.schema.now in
    let same : length c.args.fields.now ≡ length kinds = c.if-fields-len.false ∙ c.len.ensures.len ∙ sym (length-map c.args.schema.now (λ (f : Field). f.kind)) in (
      cells_with c.args.options.now kinds c.args.fields.now,
      row_of-filled c.args.options.now kinds c.args.fields.now (sym c.is_empty.ensures ∙ c.if-is_empty.false) same,
      c.in_ok-values.ensures.value ∙ ap values_in c.in-Some.is,
    )

pub returns-in-None-clause-row : goal.returns-in-None-clause-row
returns-in-None-clause-row c =
    let kinds = kinds_of c.args.schema.now in
    let same : length c.args.fields.now ≡ length kinds = c.if-fields-len.false ∙ c.len.ensures.len ∙ sym (length-map c.args.schema.now (λ (f : Field). f.kind)) in (
      cells_with c.args.options.now kinds c.args.fields.now,
      row_of-filled c.args.options.now kinds c.args.fields.now (sym c.is_empty.ensures ∙ c.if-is_empty.false) same,
      c.in_ok-values.ensures.value ∙ ap values_in c.in-None.is,
    )
