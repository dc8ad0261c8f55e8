use Rattle.std.proofs.Common.{◌∙◌}
use Rattle.morsel_cut.specs.Places.{cut_place, delimiter_options}
use Rattle.morsel_cut.proofs.SizeLemmas.{front_place, front_first, quotes_place, quotes_size}
use Rattle.morsel_cut.proofs.record.next_place.Goals as goal

pub returns-then-len-gt0-clause-place : goal.returns-then-len-gt0-clause-place
returns-then-len-gt0-clause-place c =
    c.plain_step.ensures
    ∙ front_place (delimiter_options c.args.delimiters) (cut_place c.args.from) c.args.text.now c.line_part_len-len.result c.if-len-gt0.true
    c.line_part_len-len.ensures.within (c.is_outside.ensures.0 c.if-is_outside.true) c.line_part_len-len.ensures.unquoted

pub returns-then-len-gt0-clause-first : goal.returns-then-len-gt0-clause-first
returns-then-len-gt0-clause-first c =
    front_first (delimiter_options c.args.delimiters) (cut_place c.args.from) c.args.text.now c.line_part_len-len.result c.requires.apart
    c.line_part_len-len.ensures.within (c.is_outside.ensures.0 c.if-is_outside.true) c.line_part_len-len.ensures.unquoted c.line_part_len-len.ensures.no_eol

pub returns-then-len-gt0-2-clause-place : goal.returns-then-len-gt0-2-clause-place
returns-then-len-gt0-2-clause-place c =
    quotes_place (delimiter_options c.args.delimiters) c.args.from c.args.text.now c.unquoted_len-len.result (c.is_in_quotes.ensures.place.0 c.if-is_in_quotes.true)
    c.unquoted_len-len.ensures.unquoted

pub returns-then-len-gt0-2-clause-first : goal.returns-then-len-gt0-2-clause-first
returns-then-len-gt0-2-clause-first c =
    quotes_size (delimiter_options c.args.delimiters) c.args.from c.args.text.now c.unquoted_len-len.result (c.is_in_quotes.ensures.place.0 c.if-is_in_quotes.true)
    c.unquoted_len-len.ensures.within c.unquoted_len-len.ensures.unquoted
