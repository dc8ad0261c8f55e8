use Rattle.std.proofs.Common.{◌∙◌, ap, rules, true, false, pos}
use Rattle.morsel_text.proofs.RowLemmas.{raw_text}
use Rattle.morsel_text.proofs.IntColumnLemmas.{number_next}
use Rattle.morsel_text.proofs.ints.int_column.Goals.{in-Number+in_ok-push-in-Number+in_ok-push-in-Number-2, in-Null+in_ok-push-in-Null+in_ok-push-in-Null-2}
use Rattle.morsel_text.proofs.ints.int_column.Goals as goal

pub int_cell-requires : goal.int_cell-requires
int_cell-requires c = raw_text c.args.fields.now c.loop-field.field-index _ c.requires c.loop-field-test.true

pub loop-field-preserved : goal.loop-field-preserved
loop-field-preserved c = elim c.match-cell.branch [
  | in-Number+in_ok-push-in-Number+in_ok-push-in-Number-2 w ↦
      let next = number_next c.args.options.now c.args.fields.now c.loop-field.field-index _ c.loop-field.valid.items c.match-cell.valid.items
      c.loop-field.numbers.items c.match-cell.numbers.items true w.in-Number.number c.loop-field.invariant.column c.loop-field.invariant.width c.loop-field-test.true
      (rw w.in-Number.is at c.in_ok-cell.ensures) (ap (λ v. v.items) w.valid-is ∙ w.in_ok-push-in-Number.ensures.items) (ap (λ v. v.items) w.numbers-is ∙ search rules) in
      record { column = next.0; width = next.1 }
  | in-Null+in_ok-push-in-Null+in_ok-push-in-Null-2 w ↦
      let next = number_next c.args.options.now c.args.fields.now c.loop-field.field-index _ c.loop-field.valid.items c.match-cell.valid.items
      c.loop-field.numbers.items c.match-cell.numbers.items false (pos 0) c.loop-field.invariant.column c.loop-field.invariant.width c.loop-field-test.true
      (rw w.in-Null.is at c.in_ok-cell.ensures) (ap (λ v. v.items) w.valid-is ∙ w.in_ok-push-in-Null.ensures.items) (ap (λ v. v.items) w.numbers-is ∙ w.in_ok-push-in-Null-2.ensures.items) in
      record { column = next.0; width = next.1 }
]
