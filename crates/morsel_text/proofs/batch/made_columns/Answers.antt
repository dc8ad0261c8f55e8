use Rattle.std.proofs.Common.{◌+◌, ◌∙◌, sym, ap, arith, rules, subst, List, [], map, take}
use Rattle.morsel_frame.specs.Columns.{Values}
use Rattle.morsel_text.specs.RawFields.{shown}
use Rattle.morsel_text.specs.Pushes.{AreTexts, column_kinds}
use Rattle.morsel_text.specs.Batches.{AreMade, IsColumnOf}
use Rattle.morsel_text.specs.declared.raw_field.RawField.{RawField}
use Rattle.morsel_text.proofs.BatchStepLemmas.{used_more, unused_more, all_made, texts_at}
use Rattle.morsel_text.proofs.batch.made_columns.Goals as goal

pub loop-at-preserved-then-not-used-at : goal.loop-at-preserved-then-not-used-at
loop-at-preserved-then-not-used-at c =
    let used = c.args.used.now in
    let columns = c.args.columns.now in
    let batch = c.args.batch.now in
    let at = c.loop-at.at in
    subst (λ (made : List Values). AreMade c.args.options.now (take (at + 1) used) (take (at + 1) (column_kinds columns)) (take (at + 1) batch) made) (sym c.in_ok-push.ensures.items)
    (unused_more c.args.options.now used columns batch c.loop-at.made.items at c.index-columns-at.result c.new.result [] (omega arith) c.loop-at-test.true (omega arith)
    c.if-not-used-at.true (search rules) c.loop-at.invariant (ap (λ (x : Values). x.kind) c.new.ensures ∙ c.kind-kind.ensures) (ap (λ (x : Values). x.values) c.new.ensures))

pub made_column-requires : goal.made_column-requires
made_column-requires c =
    let fields = c.index-batch-at.result in
    subst (λ (fs : List RawField). AreTexts (map shown fs)) (sym c.as_slice.ensures)
    (texts_at c.args.batch.now c.loop-at.at fields fields c.requires.texts (omega arith) (search rules))

pub loop-at-preserved : goal.loop-at-preserved
loop-at-preserved c =
    let used = c.args.used.now in
    let columns = c.args.columns.now in
    let batch = c.args.batch.now in
    let at = c.loop-at.at in
    let fields = c.index-batch-at.result in
    let column = c.index-columns-at.result in
    let o = c.args.options.now in
    let new = c.in-Some.column in
    subst (λ (made : List Values). AreMade o (take (at + 1) used) (take (at + 1) (column_kinds columns)) (take (at + 1) batch) made) (sym c.in_ok-push-2.ensures.items)
    (used_more o used columns batch c.loop-at.made.items at column new fields fields (omega arith) c.loop-at-test.true (omega arith)
    c.if-not-used-at.false (search rules) (search rules) c.loop-at.invariant
    (subst (λ k. IsColumnOf o k fields new) c.kind-kind.ensures (subst (λ (fs : List RawField). IsColumnOf o c.kind-kind.result fs new) c.as_slice.ensures (rw c.in-Some.is at c.in_ok-column.ensures.column))))

pub returns-clause-columns : goal.returns-clause-columns
returns-clause-columns c = all_made c.args.options.now c.args.used.now c.args.columns.now c.args.batch.now c.loop-at.made.items c.loop-at.at (omega arith) (omega arith) (omega arith) c.loop-at.invariant
