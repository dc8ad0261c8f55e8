use Rattle.std.proofs.Common.{◌≡◌, ◌+◌, ◌-◌, ◌<◌, ◌==◌, ◌∙◌, sym, ap, subst, arith, rules, ℕ, List, [], length, take, Some}
use Rattle.morsel_frame.specs.Columns.{Values}
use Rattle.morsel_text.specs.Pushes.{column_kinds}
use Rattle.morsel_text.specs.Batches.{AreMade, IsColumnOf}
use Rattle.morsel_text.specs.MarkedColumns.{column_fields, AreTextFields, MakesValues}
use Rattle.morsel_text.specs.MarkedReads.{field_of_mark, AreWholeFields, raw_of, raw_column, raw_columns}
use Rattle.morsel_text.specs.declared.raw_field.RawField.{RawField}
use Rattle.morsel_text.proofs.BatchStepLemmas.{used_more, unused_more, all_made}
use Rattle.morsel_text.proofs.MarkedReadLemmas.{IsWholeText, rows_of_text, text_fields, column_made, length-raw_columns, raw_column_at}
use Rattle.morsel_text.proofs.marked.values_by_marks.Goals as goal

pub loop-at-preserved-then-not-used-at : goal.loop-at-preserved-then-not-used-at
loop-at-preserved-then-not-used-at c =
    let o = c.args.marked.now.options.now in
    let used = c.args.used.now in
    let columns = c.args.columns.now in
    let w = length columns - 1 in
    let raw : ℕ → RawField = λ j. raw_of (field_of_mark o c.args.marked.now.text.now c.args.marked.now.marks.now j) in
    let batch = raw_columns raw w c.args.rows in
    let at = c.loop-at.at in
    subst (λ (made : List Values). AreMade o (take (at + 1) used) (take (at + 1) (column_kinds columns)) (take (at + 1) batch) made) (sym c.in_ok-push.ensures.items)
    (unused_more o used columns batch c.loop-at.made.items at c.index-columns-at.result c.new.result [] (omega arith) c.loop-at-test.true
    (omega (arith, length-raw_columns raw w c.args.rows, c.requires.some))
    c.if-not-used-at.true (search rules) c.loop-at.invariant (ap (λ (x : Values). x.kind) c.new.ensures ∙ c.kind-kind.ensures) (ap (λ (x : Values). x.values) c.new.ensures))

pub marked_column-requires-clause-fields : goal.marked_column-requires-clause-fields
marked_column-requires-clause-fields c =
    let o = c.args.marked.now.options.now in
    let text = c.args.marked.now.text.now in
    let marks = c.args.marked.now.marks.now in
    let width = length c.args.columns.now in
    let at = c.loop-at.at in
    let wide : width - 1 + 1 ≡ width = omega (arith, c.requires.some) in
    let whole : IsWholeText o text marks (width - 1) c.args.rows = record {
      fit = c.requires.fit;
      utf8 = c.requires.utf8;
      text_is = c.requires.text;
      marks_are = c.requires.marks;
      whole = subst (λ (x : ℕ). AreWholeFields o x text marks) (sym wide) c.requires.whole;
    } in
    subst (λ (x : ℕ). AreTextFields o (at + 1 == x) text marks at x c.args.rows) wide (text_fields o text marks (width - 1) c.args.rows at whole (omega (arith, c.loop-at-test.true, wide)))

pub loop-at-preserved : goal.loop-at-preserved
loop-at-preserved c =
    let o = c.args.marked.now.options.now in
    let text = c.args.marked.now.text.now in
    let marks = c.args.marked.now.marks.now in
    let used = c.args.used.now in
    let columns = c.args.columns.now in
    let w = length columns - 1 in
    let rows = c.args.rows in
    let raw : ℕ → RawField = λ j. raw_of (field_of_mark o text marks j) in
    let batch = raw_columns raw w rows in
    let at = c.loop-at.at in
    let column = c.index-columns-at.result in
    let new = c.in-Some.column in
    let wide : w + 1 ≡ length columns = omega (arith, c.requires.some) in
    let less : at < w + 1 = omega (arith, c.loop-at-test.true, wide) in
    let whole : IsWholeText o text marks w rows = record {
      fit = c.requires.fit;
      utf8 = c.requires.utf8;
      text_is = c.requires.text;
      marks_are = c.requires.marks;
      whole = subst (λ (x : ℕ). AreWholeFields o x text marks) (sym wide) c.requires.whole;
    } in
    let made : MakesValues o c.kind-kind.result (column_fields o (at + 1 == w + 1) text marks at (w + 1) rows) (Some new) =
    subst (λ (x : ℕ). MakesValues o c.kind-kind.result (column_fields o (at + 1 == x) text marks at x rows) (Some new)) (sym wide) (rw c.in-Some.is at c.in_ok-column.ensures.column) in
    let is = column_made o c.kind-kind.result text marks w rows at new (rows_of_text o text marks w rows whole) less made in
    subst (λ (done : List Values). AreMade o (take (at + 1) used) (take (at + 1) (column_kinds columns)) (take (at + 1) batch) done) (sym c.in_ok-push-2.ensures.items)
    (used_more o used columns batch c.loop-at.made.items at column new (raw_column raw w at rows) [] (omega arith) c.loop-at-test.true
    (omega (arith, length-raw_columns raw w rows, less))
    c.if-not-used-at.false (search rules) (raw_column_at raw w rows at [] less) c.loop-at.invariant
    (subst (λ k. IsColumnOf o k (raw_column raw w at rows) new) c.kind-kind.ensures is))

pub returns-clause-columns : goal.returns-clause-columns
returns-clause-columns c =
    let o = c.args.marked.now.options.now in
    let columns = c.args.columns.now in
    let raw : ℕ → RawField = λ j. raw_of (field_of_mark o c.args.marked.now.text.now c.args.marked.now.marks.now j) in
    all_made o c.args.used.now columns (raw_columns raw (length columns - 1) c.args.rows) c.loop-at.made.items c.loop-at.at (omega arith) (omega arith)
    (omega (arith, length-raw_columns raw (length columns - 1) c.args.rows, c.requires.some)) c.loop-at.invariant
