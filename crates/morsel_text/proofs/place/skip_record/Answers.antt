use Rattle.std.proofs.Common.{◌≡◌, ◌+◌, ◌∙◌, sym, ap, arith, length, map}
use Rattle.std.proofs.lemmas.List.{length-map}
use Rattle.morsel_meaning.specs.Values.{kinds_of}
use Rattle.morsel_grammar.specs.Grammar.{Fields}
use Rattle.morsel_grammar.specs.Rows.{IsRow, NoRow, Misfit, row_of}
use Rattle.morsel_grammar.specs.Reading.{Reading}
use Rattle.morsel_text.specs.RawFields.{shown}
use Rattle.morsel_text.proofs.KeptLemmas.{kept_slice, kept_row, kept_head}
use Rattle.morsel_text.proofs.PlaceLemmas.{skip_row}
use Rattle.morsel_text.proofs.place.skip_record.Goals as goal

pub returns-then-head-clause-value : goal.returns-then-head-clause-value
returns-then-head-clause-value c =
    let fields = c.as_slice.result.now in
    let found = rw c.in-Fields.is at c.in_ok-rest.ensures.value in
    λ n. kept_head n (length c.fields-width.result.now + 2) c.args.options.now (kinds_of c.args.schema.now) c.args.head c.is_empty.result c.args.at c.args.text.now c.in-Fields.rest.now
    (map shown fields) found.0 c.requires found.1
    (sym c.is_text.ensures ∙ c.if-not-is_text.false) c.if-head.true (omega arith) (kept_slice (length c.fields-width.result.now + 2) _ fields found.0 c.as_slice.ensures.value found.2) c.is_empty.ensures

pub returns-in-Row-clause-value : goal.returns-in-Row-clause-value
returns-in-Row-clause-value c =
    let ks = kinds_of c.args.schema.now in
    let o = c.args.options.now in
    let fields = c.as_slice-in-Fields.result.now in
    let found = rw c.in-Fields.is at c.in_ok-rest.ensures.value in
    let wide : length ks ≡ length c.fields-width.result.now = length-map c.args.schema.now _ ∙ sym (ap length c.fields-width.ensures) in
    let same : row_of o ks (Fields found.0) ≡ row_of o ks (Fields (map shown fields)) =
    kept_row (length c.fields-width.result.now + 2) o ks (map shown fields) found.0 (omega (arith, wide)) (kept_slice (length c.fields-width.result.now + 2) _ fields found.0 c.as_slice-in-Fields.ensures.value found.2) in
    let row = c.in-Row.ensures o ks wide in (
      row.0,
      λ n. skip_row n o ks c.args.head c.args.at c.args.text.now c.in-Fields.rest.now (Fields found.0) (IsRow row.0) c.requires found.1
          (sym c.is_text.ensures ∙ c.if-not-is_text.false) c.if-head.false (same ∙ row.1),
    )

pub returns-in-NoRow-clause-value : goal.returns-in-NoRow-clause-value
returns-in-NoRow-clause-value c =
    let ks = kinds_of c.args.schema.now in
    let o = c.args.options.now in
    let fields = c.as_slice-in-Fields.result.now in
    let found = rw c.in-Fields.is at c.in_ok-rest.ensures.value in
    let wide : length ks ≡ length c.fields-width.result.now = length-map c.args.schema.now _ ∙ sym (ap length c.fields-width.ensures) in
    let same : row_of o ks (Fields found.0) ≡ row_of o ks (Fields (map shown fields)) =
    kept_row (length c.fields-width.result.now + 2) o ks (map shown fields) found.0 (omega (arith, wide)) (kept_slice (length c.fields-width.result.now + 2) _ fields found.0 c.as_slice-in-Fields.ensures.value found.2) in
    λ n. skip_row n o ks c.args.head c.args.at c.args.text.now c.in-Fields.rest.now (Fields found.0) NoRow c.requires found.1
    (sym c.is_text.ensures ∙ c.if-not-is_text.false) c.if-head.false (same ∙ c.in-NoRow.ensures o ks wide)

pub returns-in-Misfit-clause-value : goal.returns-in-Misfit-clause-value
returns-in-Misfit-clause-value c =
    let ks = kinds_of c.args.schema.now in
    let o = c.args.options.now in
    let fields = c.as_slice-in-Fields.result.now in
    let found = rw c.in-Fields.is at c.in_ok-rest.ensures.value in
    let wide : length ks ≡ length c.fields-width.result.now = length-map c.args.schema.now _ ∙ sym (ap length c.fields-width.ensures) in
    let same : row_of o ks (Fields found.0) ≡ row_of o ks (Fields (map shown fields)) =
    kept_row (length c.fields-width.result.now + 2) o ks (map shown fields) found.0 (omega (arith, wide)) (kept_slice (length c.fields-width.result.now + 2) _ fields found.0 c.as_slice-in-Fields.ensures.value found.2) in
    λ n. ap (λ (r : Reading). r.rows) (skip_row n o ks c.args.head c.args.at c.args.text.now c.in-Fields.rest.now (Fields found.0) Misfit c.requires found.1
    (sym c.is_text.ensures ∙ c.if-not-is_text.false) c.if-head.false (same ∙ c.in-Misfit.ensures o ks wide))
