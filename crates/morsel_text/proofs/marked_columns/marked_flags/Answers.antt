use Rattle.std.proofs.Common.{◌≡◌, subst}
use Rattle.std.specs.Prelude.{Some}
use Rattle.morsel_meaning.specs.declared.value.ColType.TheVariants as types
use Rattle.morsel_grammar.specs.Grammar.{CsvField}
use Rattle.morsel_grammar.specs.Cells.{cell_of}
use Rattle.morsel_text.specs.Pushes.{with_cell}
use Rattle.morsel_text.proofs.MarkedLemmas.{value_next, next_mark, shown_before}
use Rattle.morsel_text.proofs.marked_columns.marked_flags.Goals as goal

pub loop-preserved : goal.loop-preserved
loop-preserved c =
    let marked = c.args.marked.now in
    let here = c.loop.invariant in
    let column = c.loop.column in
    let new = c.push_cell.new.column in
    let is = shown_before marked.options.now _ marked.text.now marked.marks.now c.loop.j c.marked_field.result c.in-Some.field c.marked_field.ensures c.in-Some.is in
    record {
      cells = value_next marked.options.now types.Bool _ marked.text.now marked.marks.now c.args.first c.args.width c.loop.counter c.loop.j column new here.cells here.place
          (subst (λ (f : CsvField). with_cell (cell_of marked.options.now column.kind f) column ≡ Some new) is (rw c.in-Done.is at c.in_ok-push_cell.ensures.cell));
      place = next_mark c.loop.counter c.args.width c.args.first c.loop.j here.place;
    }
