use Rattle.std.proofs.Common.{◌≡◌, ◌+◌, ◌∙◌, sym, arith, map}
use Rattle.std.proofs.lemmas.Str.{IsUtf8-from_is_utf8}
use Rattle.std.proofs.lemmas.Result.{err_from_is_err_and}
use Rattle.morsel_grammar.specs.Grammar.{Comment, Fields}
use Rattle.morsel_grammar.specs.Rows.{row_of}
use Rattle.morsel_text.specs.RawFields.{shown}
use Rattle.morsel_text.specs.Pushes.{column_kinds}
use Rattle.morsel_text.proofs.BatchStepLemmas.{length-kinds}
use Rattle.morsel_text.proofs.KeptLemmas.{kept_slice, kept_texts, kept_row, kept_steps, kept_refused}
use Rattle.morsel_text.proofs.TextLemmas.{record_texts}
use Rattle.morsel_text.proofs.TurnLemmas.{behind_record}
use Rattle.morsel_text.proofs.read.read_record.Goals as goal

pub read_row-requires-clause-texts : goal.read_row-requires-clause-texts
read_row-requires-clause-texts c =
    let found = rw c.in-Fields.is at c.in_ok-rest.ensures.value in
    let fields = c.as_slice-in-Fields.result.now in
    kept_texts (c.len.result + 2) (map shown fields) found.0 (kept_slice (c.len.result + 2) _ fields found.0 c.as_slice-in-Fields.ensures.value found.2)
    (record_texts c.args.reader.now.options.now c.args.text.now c.in-Fields.rest.now found.0 c.split_record.ensures.fit found.1
    (IsUtf8-from_is_utf8 _ (sym c.is_text.ensures ∙ c.if-not-is_text.false)))

pub returns-in_ok-rows-in-Fields-clause-steps : goal.returns-in_ok-rows-in-Fields-clause-steps
returns-in_ok-rows-in-Fields-clause-steps c =
    let found = rw c.in-Fields.is at c.in_ok-rest.ensures.value in
    let o = c.args.reader.now.options.now in
    let ks = column_kinds c.args.columns.now.items in
    let fields = c.as_slice-in-Fields.result.now in
    let limit = c.len.result + 2 in
    let same : row_of o ks (Fields found.0) ≡ row_of o ks (Fields (map shown fields)) =
    kept_row limit o ks (map shown fields) found.0 (omega (arith, length-kinds c.args.columns.now.items, c.len.ensures)) (kept_slice limit _ fields found.0 c.as_slice-in-Fields.ensures.value found.2) in
    let row = c.in_ok-rows-in-Fields.ensures in (
      row.0,
      row.1,
      λ n. kept_steps n o ks c.args.reader.now.used.now c.args.head c.args.at c.args.text.now
          c.in-Fields.rest.now (map shown fields) found.0 row.0 c.requires.some found.1
          (sym c.is_text.ensures ∙ c.if-not-is_text.false) c.if-head.false same row.2,
    )

pub returns-in_err-rows-in-Fields-clause-steps : goal.returns-in_err-rows-in-Fields-clause-steps
returns-in_err-rows-in-Fields-clause-steps c =
    let found = rw c.in-Fields.is at c.in_ok-rest.ensures.value in
    let o = c.args.reader.now.options.now in
    let ks = column_kinds c.args.columns.now.items in
    let fields = c.as_slice-in-Fields.result.now in
    let limit = c.len.result + 2 in
    let same : row_of o ks (Fields found.0) ≡ row_of o ks (Fields (map shown fields)) =
    kept_row limit o ks (map shown fields) found.0 (omega (arith, length-kinds c.args.columns.now.items, c.len.ensures)) (kept_slice limit _ fields found.0 c.as_slice-in-Fields.ensures.value found.2) in
    let p = err_from_is_err_and c.from_residual-in_err-rows-in-Fields.result c.from_residual-in_err-rows-in-Fields.ensures.1 in
    rw (p.1, p.2) (λ n. kept_refused n o ks c.args.reader.now.used.now c.args.head c.args.at c.args.reader.now.file c.args.text.now
    c.in-Fields.rest.now (map shown fields) found.0 _ c.requires.some found.1
    (sym c.is_text.ensures ∙ c.if-not-is_text.false) c.if-head.false same c.in_err-rows-in-Fields.ensures)

pub returns-then-head-clause-shorter : goal.returns-then-head-clause-shorter
returns-then-head-clause-shorter c =
    let found = rw c.in-Fields.is at c.in_ok-rest.ensures.value in
    (behind_record c.args.reader.now.options.now c.args.text.now c.in-Fields.rest.now (Fields found.0) c.split_record.ensures.fit c.requires.some found.1).0

pub returns-then-head-clause-utf8 : goal.returns-then-head-clause-utf8
returns-then-head-clause-utf8 c =
    let found = rw c.in-Fields.is at c.in_ok-rest.ensures.value in
    (behind_record c.args.reader.now.options.now c.args.text.now c.in-Fields.rest.now (Fields found.0) c.split_record.ensures.fit c.requires.some found.1).1

pub returns-in_ok-rows-in-Fields-clause-shorter : goal.returns-in_ok-rows-in-Fields-clause-shorter
returns-in_ok-rows-in-Fields-clause-shorter c =
    let found = rw c.in-Fields.is at c.in_ok-rest.ensures.value in
    (behind_record c.args.reader.now.options.now c.args.text.now c.in-Fields.rest.now (Fields found.0) c.split_record.ensures.fit c.requires.some found.1).0

pub returns-in_ok-rows-in-Fields-clause-utf8 : goal.returns-in_ok-rows-in-Fields-clause-utf8
returns-in_ok-rows-in-Fields-clause-utf8 c =
    let found = rw c.in-Fields.is at c.in_ok-rest.ensures.value in
    (behind_record c.args.reader.now.options.now c.args.text.now c.in-Fields.rest.now (Fields found.0) c.split_record.ensures.fit c.requires.some found.1).1

pub returns-else-not-is_text-2-clause-shorter : goal.returns-else-not-is_text-2-clause-shorter
returns-else-not-is_text-2-clause-shorter c =
    let found = rw c.in-Comment.is at c.in_ok-rest.ensures.value in
    (behind_record c.args.reader.now.options.now c.args.text.now c.in-Comment.rest.now (Comment found.0) c.split_record.ensures.fit c.requires.some found.1).0

pub returns-else-not-is_text-2-clause-utf8 : goal.returns-else-not-is_text-2-clause-utf8
returns-else-not-is_text-2-clause-utf8 c =
    let found = rw c.in-Comment.is at c.in_ok-rest.ensures.value in
    (behind_record c.args.reader.now.options.now c.args.text.now c.in-Comment.rest.now (Comment found.0) c.split_record.ensures.fit c.requires.some found.1).1
