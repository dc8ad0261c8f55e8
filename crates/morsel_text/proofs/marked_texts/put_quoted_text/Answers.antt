use Rattle.std.proofs.Common.{◌∙◌, sym, ap, arith}
use Rattle.morsel_meaning.specs.declared.value.ColType.TheVariants as types
use Rattle.morsel_grammar.specs.Cells.{cell_of}
use Rattle.morsel_text.proofs.MarkedLemmas.{field_bounds, shown_before}
use Rattle.morsel_text.proofs.marked_texts.put_quoted_text.Goals as goal

pub short_content-requires-clause-rises : goal.short_content-requires-clause-rises
short_content-requires-clause-rises c =
    let bounds = field_bounds c.args.marked.now.options.now c.args.marked.now.text.now c.args.marked.now.marks.now c.args.j c.requires.fit c.requires.quoted c.requires.marks c.requires.within in
    rw c.place_after-begin.ensures bounds.begins

pub short_content-requires-clause-within : goal.short_content-requires-clause-within
short_content-requires-clause-within c =
    let bounds = field_bounds c.args.marked.now.options.now c.args.marked.now.text.now c.args.marked.now.marks.now c.args.j c.requires.fit c.requires.quoted c.requires.marks c.requires.within in
    omega (arith, bounds.ends)

pub returns : goal.returns
returns c =
    let marked = c.args.marked.now in
    let puts = c.in_ok-is_text.ensures in
    let is = shown_before marked.options.now _ marked.text.now marked.marks.now c.args.j c.marked_field.result c.in-Some-marked_field.field c.marked_field.ensures c.in-Some-marked_field.is in
    (puts.0, puts.1, ap (cell_of marked.options.now types.Text) (sym is) ∙ puts.2)
