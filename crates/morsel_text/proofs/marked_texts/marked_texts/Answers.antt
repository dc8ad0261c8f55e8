use Rattle.std.proofs.Common.{◌+◌, ◌∙◌, arith, set, take}
use Rattle.std.proofs.lemmas.List.{length-set, take_more_set}
use Rattle.morsel_meaning.specs.declared.value.ColType.TheVariants as types
use Rattle.morsel_meaning.specs.declared.value.Value.TheVariants as values
use Rattle.morsel_text.proofs.MarkedLemmas.{cells_next, next_mark}
use Rattle.morsel_text.proofs.marked_texts.marked_texts.Goals as goal

pub loop-row-preserved : goal.loop-row-preserved
loop-row-preserved c =
    let marked = c.args.marked.now in
    let here = c.loop-row.invariant in
    let row = c.loop-row.row in
    let valid = c.loop-row.valid.items in
    let is_text = c.in-Some.is_text in
    let puts = rw c.in-Some.is at c.in_ok-is_text.ensures in
    record {
      cells = cells_next values.Text marked.options.now types.Text _ marked.text.now marked.marks.now c.args.first c.args.width row c.loop-row.j
          (take row valid) (take (row + 1) (set valid row is_text)) c.loop-row.texts c.put_marked_text.new.texts is_text puts.0 here.cells here.place
          puts.2 (take_more_set valid row is_text (omega (arith, here.valid))) puts.1;
      place = next_mark row c.args.width c.args.first c.loop-row.j here.place;
      valid = length-set valid row is_text ∙ here.valid;
    }
