use Rattle.std.proofs.Common.{◌+◌, ◌∙◌, arith, rules, set, take}
use Rattle.std.proofs.lemmas.List.{length-set, take_more_set}
use Rattle.morsel_meaning.specs.declared.value.ColType.TheVariants as types
use Rattle.morsel_meaning.specs.declared.value.Value.TheVariants as values
use Rattle.morsel_text.proofs.MarkedLemmas.{cells_next, next_mark}
use Rattle.morsel_text.proofs.marked_columns.marked_numbers.Goals as goal

pub loop-row-preserved : goal.loop-row-preserved
loop-row-preserved c =
    let marked = c.args.marked.now in
    let here = c.loop-row.invariant in
    let row = c.loop-row.row in
    let valid = c.loop-row.valid.items in
    let is_number = c.in-Some.is_number in
    record {
      cells = cells_next values.Int marked.options.now types.Int _ marked.text.now marked.marks.now c.args.first c.args.width row c.loop-row.j
          (take row valid) (take (row + 1) (set valid row is_number)) c.loop-row.numbers.items c.push.new.self.items is_number c.in-Some.number here.cells here.place
          (rw c.in-Some.is at c.in_ok-is_number.ensures) (take_more_set valid row is_number (omega (arith, here.valid))) (search rules);
      place = next_mark row c.args.width c.args.first c.loop-row.j here.place;
      valid = length-set valid row is_number ∙ here.valid;
    }
