use Rattle.std.proofs.Common.{◌∙◌, sym}
use Rattle.std.proofs.lemmas.Str.{IsUtf8-from_is_utf8}
use Rattle.std.proofs.lemmas.Result.{err_from_is_err_and}
use Rattle.morsel_meaning.specs.Values.{kinds_of}
use Rattle.morsel_grammar.specs.Grammar.{Fields}
use Rattle.morsel_text.proofs.TextLemmas.{record_texts}
use Rattle.morsel_text.proofs.StepLemmas.{row_steps, row_refused}
use Rattle.morsel_text.proofs.PlainLemmas.{plain_record}
use Rattle.morsel_text.proofs.plain.read_record.Goals as goal

pub read_row-requires-clause-texts : goal.read_row-requires-clause-texts
read_row-requires-clause-texts c =
    let fields = c.as_slice-in-Fields.result.now in
    record_texts c.args.reader.now.options.now c.args.text.now c.in-Fields.rest.now fields c.split.ensures.fit
    (plain_record c.args.reader.now.options.now c.args.text.now c.in-Fields.rest.now _ fields c.as_slice-in-Fields.ensures.value (rw c.in-Fields.is at c.in_ok-fields.ensures.value))
    (IsUtf8-from_is_utf8 _ (sym c.is_text.ensures ∙ c.if-not-is_text.false))

pub returns-in_ok-rows-in-Fields-clause-steps : goal.returns-in_ok-rows-in-Fields-clause-steps
returns-in_ok-rows-in-Fields-clause-steps c =
    let fields = c.as_slice-in-Fields.result.now in
    let row = c.in_ok-rows-in-Fields.ensures in (
      row.0,
      row.1,
      λ n. row_steps n c.args.reader.now.options.now (kinds_of c.args.reader.now.schema.now) c.args.reader.now.used.now c.args.head c.args.at c.args.text.now
          c.in-Fields.rest.now (Fields fields) row.0 c.requires.some
          (plain_record c.args.reader.now.options.now c.args.text.now c.in-Fields.rest.now _ fields c.as_slice-in-Fields.ensures.value (rw c.in-Fields.is at c.in_ok-fields.ensures.value))
          (sym c.is_text.ensures ∙ c.if-not-is_text.false) c.if-head.false row.2,
    )

pub returns-in_err-rows-in-Fields-clause-steps : goal.returns-in_err-rows-in-Fields-clause-steps
returns-in_err-rows-in-Fields-clause-steps c =
    let fields = c.as_slice-in-Fields.result.now in
    let p = err_from_is_err_and c.from_residual-in_err-rows-in-Fields.result c.from_residual-in_err-rows-in-Fields.ensures.1 in
    rw (p.1, p.2) (λ n. row_refused n c.args.reader.now.options.now (kinds_of c.args.reader.now.schema.now) c.args.reader.now.used.now c.args.head c.args.at c.args.reader.now.file c.args.text.now
    c.in-Fields.rest.now (Fields fields) _ c.requires.some
    (plain_record c.args.reader.now.options.now c.args.text.now c.in-Fields.rest.now _ fields c.as_slice-in-Fields.ensures.value (rw c.in-Fields.is at c.in_ok-fields.ensures.value))
    (sym c.is_text.ensures ∙ c.if-not-is_text.false) c.if-head.false c.in_err-rows-in-Fields.ensures)
