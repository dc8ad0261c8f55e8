use Rattle.std.proofs.Common.{◌+◌, ◌∙◌, sym, ap, subst, arith}
use Rattle.std.specs.Prelude.{IsUtf8}
use Rattle.morsel_meaning.specs.Values.{kinds_of}
use Rattle.morsel_grammar.specs.Grammar.{CsvField}
use Rattle.morsel_text.specs.Plain.{cells_with, cell_in}
use Rattle.morsel_text.proofs.RowLemmas.{text_at}
use Rattle.morsel_text.proofs.PlainLemmas.{cells_here, cells_passed, from_place, from_skip, from_value, from_bad}
use Rattle.morsel_text.proofs.plain.rows.values.Goals as goal

pub loop-at-preserved-then-not-used-at : goal.loop-at-preserved-then-not-used-at
loop-at-preserved-then-not-used-at c =
    let cells = cells_with c.args.options.now (kinds_of c.args.schema.now) c.args.fields.now in
    let passed = cells_passed c.args.options.now c.args.schema.now c.args.fields.now c.loop-at.at (omega arith) (omega arith) in
    from_skip c.args.used.now cells c.loop-at.values.items c.loop-at.at passed.0 c.loop-at-test.true c.if-not-used-at.true passed.1 ∙ c.loop-at.invariant

pub cell-requires : goal.cell-requires
cell-requires c =
    let P : CsvField → Type 0 = λ f. IsUtf8 f.bytes in
    subst P (sym c.index-fields-at.is) (text_at c.args.fields.now c.loop-at.at c.index-fields-at.result c.requires.texts (omega arith))

pub returns-in-Ok-None-clause-value : goal.returns-in-Ok-None-clause-value
returns-in-Ok-None-clause-value c =
    let cells = cells_with c.args.options.now (kinds_of c.args.schema.now) c.args.fields.now in
    let here = cells_here c.args.options.now c.args.schema.now c.args.fields.now c.loop-at.at c.field.result.now c.index-fields-at.result (omega arith) (omega arith) c.field.ensures c.index-fields-at.is in
    sym c.loop-at.invariant
    ∙ from_bad c.args.used.now cells c.loop-at.values.items c.loop-at.at _ c.loop-at-test.true c.if-not-used-at.false here
    (c.in-Ok-None.ensures.value ∙ ap cell_in c.in-Ok-None.field-0-is)

pub loop-at-preserved : goal.loop-at-preserved
loop-at-preserved c =
    let cells = cells_with c.args.options.now (kinds_of c.args.schema.now) c.args.fields.now in
    let here = cells_here c.args.options.now c.args.schema.now c.args.fields.now c.loop-at.at c.field.result.now c.index-fields-at.result (omega arith) (omega arith) c.field.ensures c.index-fields-at.is in
    ap (λ vs. from_place c.args.used.now cells vs (c.loop-at.at + 1)) c.in_ok-push-in-Ok-Some.ensures.items
    ∙ from_value c.args.used.now cells c.loop-at.values.items c.loop-at.at _ c.in-Ok-Some.value c.loop-at-test.true c.if-not-used-at.false here
    (c.in-Ok-Some.ensures.value ∙ ap cell_in c.in-Ok-Some.field-0-is) ∙ c.loop-at.invariant
