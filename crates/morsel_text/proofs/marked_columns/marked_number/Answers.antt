use Rattle.std.proofs.Common.{sym, ap, subst, arith}
use Rattle.std.specs.Prelude.{IfOk, IsUtf8}
use Rattle.morsel_meaning.specs.declared.value.ColType.TheVariants as types
use Rattle.morsel_grammar.specs.Grammar.{CsvField}
use Rattle.morsel_grammar.specs.Cells.{cell_of}
use Rattle.morsel_text.specs.MarkedColumns.{field_or_empty, IsNumberCell}
use Rattle.morsel_text.proofs.MarkedLemmas.{field_bounds, plain_shown}
use Rattle.morsel_text.proofs.marked_columns.marked_number.Goals as goal

pub bytes_before-raw-requires-clause-begins : goal.bytes_before-raw-requires-clause-begins
bytes_before-raw-requires-clause-begins c =
    (field_bounds c.args.marked.now.options.now c.args.marked.now.text.now c.args.marked.now.marks.now c.args.j c.requires.fit c.requires.quoted c.requires.marks c.requires.within).begins

pub bytes_before-raw-requires-clause-ends : goal.bytes_before-raw-requires-clause-ends
bytes_before-raw-requires-clause-ends c =
    let bounds = field_bounds c.args.marked.now.options.now c.args.marked.now.text.now c.args.marked.now.marks.now c.args.j c.requires.fit c.requires.quoted c.requires.marks c.requires.within in
    omega (arith, bounds.ends)

pub number_said-requires-2 : goal.number_said-requires-2
number_said-requires-2 c =
    let same = ap field_or_empty (plain_shown c.args.marked.now.options.now c.args.is_last c.args.marked.now.text.now c.args.marked.now.marks.now c.args.j c.requires.fit c.requires.quoted
    c.requires.marks c.requires.within _ c.bytes_before-raw.ensures (c.begins_quoted.ensures c.if-begins_quoted.false) _ c.placed-field.ensures) in
    subst (λ (f : CsvField). IsUtf8 f.bytes) (sym same) c.requires.field.utf8

pub returns : goal.returns
returns c =
    let same = ap field_or_empty (plain_shown c.args.marked.now.options.now c.args.is_last c.args.marked.now.text.now c.args.marked.now.marks.now c.args.j c.requires.fit c.requires.quoted
    c.requires.marks c.requires.within _ c.bytes_before-raw.ensures (c.begins_quoted.ensures c.if-begins_quoted.false) _ c.placed-field.ensures) in
    subst (λ (f : CsvField). IfOk c.number_said-2.result (λ found. IsNumberCell (cell_of c.args.marked.now.options.now types.Int f) found)) same c.number_said-2.ensures
