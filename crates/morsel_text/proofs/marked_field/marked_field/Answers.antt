use Rattle.std.proofs.Common.{arith}
use Rattle.morsel_text.proofs.MarkedLemmas.{field_bounds, plain_shown}
use Rattle.morsel_text.proofs.marked_field.marked_field.Goals as goal

pub bytes_before-raw-requires-clause-begins : goal.bytes_before-raw-requires-clause-begins
bytes_before-raw-requires-clause-begins c =
    (field_bounds c.args.marked.now.options.now c.args.marked.now.text.now c.args.marked.now.marks.now c.args.j c.requires.fit c.requires.quoted c.requires.marks c.requires.within).begins

pub bytes_before-raw-requires-clause-ends : goal.bytes_before-raw-requires-clause-ends
bytes_before-raw-requires-clause-ends c =
    let bounds = field_bounds c.args.marked.now.options.now c.args.marked.now.text.now c.args.marked.now.marks.now c.args.j c.requires.fit c.requires.quoted c.requires.marks c.requires.within in
    omega (arith, bounds.ends)

pub returns : goal.returns
returns c = plain_shown c.args.marked.now.options.now c.args.is_last c.args.marked.now.text.now c.args.marked.now.marks.now c.args.j c.requires.fit c.requires.quoted c.requires.marks c.requires.within
    _ c.bytes_before-raw.ensures (c.begins_quoted.ensures c.if-begins_quoted.false) _ c.placed.ensures
