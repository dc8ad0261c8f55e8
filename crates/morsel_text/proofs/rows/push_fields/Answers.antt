use Rattle.std.proofs.Common.{◌∙◌, sym, arith, rules, []}
use Rattle.morsel_text.specs.declared.raw_field.RawField.TheVariants as raws
use Rattle.morsel_text.proofs.RowLemmas.{raw_put, raw_bad, raw_skip, raw_text}
use Rattle.morsel_text.proofs.rows.push_fields.Goals as goal

pub loop-at-preserved-then-not-used-at : goal.loop-at-preserved-then-not-used-at
loop-at-preserved-then-not-used-at c = record {
  so_far = raw_skip c.args.options.now c.args.used.now c.loop-at.columns.items c.args.fields.now c.loop-at.at (raws.Plain (record { ref_ptr = (0, 0); now = [] }))
      (omega arith) (omega arith) c.loop-at-test.true c.if-not-used-at.true ∙ c.loop-at.invariant.so_far;
  width = c.loop-at.invariant.width;
}

pub push_cell-requires : goal.push_cell-requires
push_cell-requires c = raw_text c.args.fields.now c.loop-at.at _ c.requires.texts c.loop-at-test.true

pub returns-in-Bad-clause-fields : goal.returns-in-Bad-clause-fields
returns-in-Bad-clause-fields c =
    sym c.loop-at.invariant.so_far
    ∙ raw_bad c.args.options.now c.args.used.now c.loop-at.columns.items c.args.fields.now c.loop-at.at c.index_mut-column.result.now _
    (omega arith) (omega arith) c.loop-at-test.true c.if-not-used-at.false c.index_mut-column.ensures.value (rw c.in-Bad.is at c.in_ok-push_cell.ensures.cell)

pub loop-at-preserved : goal.loop-at-preserved
loop-at-preserved c = record {
  so_far = raw_put c.args.options.now c.args.used.now c.loop-at.columns.items c.args.fields.now c.loop-at.at c.index_mut-column.result.now c.push_cell.new.column _
      (omega arith) (omega arith) c.loop-at-test.true c.if-not-used-at.false c.index_mut-column.ensures.value (rw c.in-Done.is at c.in_ok-push_cell.ensures.cell) ∙ c.loop-at.invariant.so_far;
  width = search rules;
}
