use Rattle.std.proofs.Common.{◌∙◌, ap, subst, arith}
use Rattle.std.specs.Prelude.{IsUtf8}
use Rattle.morsel_meaning.specs.declared.value.ColType.TheVariants as types
use Rattle.morsel_grammar.specs.Grammar.{CsvField}
use Rattle.morsel_grammar.specs.Cells.{cell_of}
use Rattle.morsel_text.proofs.MarkedLemmas.{field_bounds}
use Rattle.morsel_text.proofs.MarkedTextLemmas.{plain_before, plain_within}
use Rattle.morsel_text.proofs.marked_texts.put_marked_text.Goals as goal

pub bytes_from-raw-requires-clause-begins : goal.bytes_from-raw-requires-clause-begins
bytes_from-raw-requires-clause-begins c =
    let bounds = field_bounds c.args.marked.now.options.now c.args.marked.now.text.now c.args.marked.now.marks.now c.args.j c.requires.fit c.requires.quoted c.requires.marks c.requires.within in
    rw c.place_after-begin.ensures bounds.begins

pub bytes_from-raw-requires-clause-ends : goal.bytes_from-raw-requires-clause-ends
bytes_from-raw-requires-clause-ends c =
    let bounds = field_bounds c.args.marked.now.options.now c.args.marked.now.text.now c.args.marked.now.marks.now c.args.j c.requires.fit c.requires.quoted c.requires.marks c.requires.within in
    omega (arith, bounds.ends)

pub put_plain_text-requires-clause-within : goal.put_plain_text-requires-clause-within
put_plain_text-requires-clause-within c =
    plain_within c.args.marked.now.options.now c.args.marked.now.text.now c.args.marked.now.marks.now c.bytes_from-raw.result.now c.args.j c.place_after-begin.result c.plain_len-len.result
    c.requires.fit c.requires.quoted c.requires.marks c.requires.within c.bytes_from-raw.ensures c.place_after-begin.ensures c.plain_len-len.ensures.within

pub put_plain_text-requires-clause-utf8 : goal.put_plain_text-requires-clause-utf8
put_plain_text-requires-clause-utf8 c =
    let is = plain_before c.args.marked.now.options.now c.args.is_last c.args.marked.now.text.now c.args.marked.now.marks.now c.bytes_from-raw.result.now c.args.j c.place_after-begin.result c.plain_len-len.result
    c.requires.fit c.requires.quoted c.requires.marks c.requires.within c.bytes_from-raw.ensures c.place_after-begin.ensures (c.begins_quoted.ensures c.if-begins_quoted.false)
    c.plain_len-len.ensures.within c.plain_len-len.ensures.field in
    subst (λ (f : CsvField). IsUtf8 f.bytes) is c.requires.field.utf8

pub returns : goal.returns
returns c =
    let is = plain_before c.args.marked.now.options.now c.args.is_last c.args.marked.now.text.now c.args.marked.now.marks.now c.bytes_from-raw.result.now c.args.j c.place_after-begin.result c.plain_len-len.result
    c.requires.fit c.requires.quoted c.requires.marks c.requires.within c.bytes_from-raw.ensures c.place_after-begin.ensures (c.begins_quoted.ensures c.if-begins_quoted.false)
    c.plain_len-len.ensures.within c.plain_len-len.ensures.field in
    let puts = c.in_ok-is_text.ensures in
    (puts.0, puts.1, ap (cell_of c.args.marked.now.options.now types.Text) is ∙ puts.2)
