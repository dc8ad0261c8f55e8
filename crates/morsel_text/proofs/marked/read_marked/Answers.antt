use Rattle.std.proofs.Common.{◌≡◌, ◌+◌, ◌-◌, ◌*◌, ◌∙◌, sym, ap, subst, arith, ℕ, List, [], length, take}
use Rattle.morsel_frame.specs.Columns.{Values}
use Rattle.morsel_marks.specs.MarkedRows.{IsRowText}
use Rattle.morsel_text.specs.Pushes.{column_kinds}
use Rattle.morsel_text.specs.Batches.{AreMade, PutsRows}
use Rattle.morsel_text.specs.MarkedReads.{AreWholeFields, field_of_mark, raw_of, raw_columns}
use Rattle.morsel_text.proofs.BatchStepLemmas.{made_kinds, made_length}
use Rattle.morsel_text.proofs.MarkedReadLemmas.{IsWholeText, puts_marked}
use Rattle.morsel_text.proofs.marked.read_marked.Goals as goal

pub append_columns-requires-clause-kinds : goal.append_columns-requires-clause-kinds
append_columns-requires-clause-kinds c =
    made_kinds c.args.options.now c.args.used.now (column_kinds c.deref.result.now) _ c.in-Some-2.made.items (rw c.in-Some-2.is at c.in_ok-made.ensures.columns)
    ∙ ap column_kinds c.deref.ensures.value

pub append_columns-requires-clause-width : goal.append_columns-requires-clause-width
append_columns-requires-clause-width c =
    made_length c.args.options.now c.args.used.now c.deref.result.now _ c.in-Some-2.made.items (rw c.in-Some-2.is at c.in_ok-made.ensures.columns)
    ∙ ap length c.deref.ensures.value

pub returns-clause-rows : goal.returns-clause-rows
returns-clause-rows c =
    let o = c.args.options.now in
    let text = c.args.text.now in
    let used = c.args.used.now in
    let old = c.args.columns.now.items in
    let made = c.in-Some-2.made.items in
    let rows = c.in-Some.rows in
    let marks = take (rows * c.len-width.result) c.as_slice.result.now in
    let w = length old - 1 in
    let found = rw c.in-Some.is at c.in_ok-rows.ensures.ok in
    let same : c.len-width.result ≡ length old = c.len-width.ensures ∙ sym c.deref.ensures.len ∙ ap length c.deref.ensures.value in
    let wide : length old ≡ w + 1 = omega (arith, same, c.if-width-eq0.false) in
    let whole : IsWholeText o text marks w rows = record {
      fit = c.requires.fit;
      utf8 = c.requires.utf8;
      text_is = subst (λ (x : ℕ). IsRowText o text (x - 1) rows) same found.0;
      marks_are = ap (λ (ms : List ℕ). take (rows * c.len-width.result) ms) c.as_slice.ensures.value ∙ found.1;
      whole = subst (λ (x : ℕ). AreWholeFields o x text marks) (same ∙ wide) (c.are_whole.ensures c.if-not-are_whole.false);
    } in
    let are : AreMade o used (column_kinds old) (raw_columns (λ j. raw_of (field_of_mark o text marks j)) w rows) made =
    subst (λ (cs : List Values). AreMade o used (column_kinds cs) (raw_columns (λ j. raw_of (field_of_mark o text marks j)) (length cs - 1) rows) made) c.deref.ensures.value
    (rw c.in-Some-2.is at c.in_ok-made.ensures.columns) in
    subst (λ (new : List Values). PutsRows o used text old [] rows new) (sym c.in_ok-append_columns.ensures.ok)
    (puts_marked o used text marks w rows old made whole wide (omega arith) are)
