use Rattle.std.proofs.Common.{take}
use Rattle.std.proofs.lemmas.Bool.{eqb-true}
use Rattle.std.proofs.lemmas.List.{length-take-le}
use Rattle.morsel_cut.specs.Places.{cut_place, delimiter_options}
use Rattle.morsel_cut.proofs.BlockLemmas.{without_blanks}
use Rattle.morsel_cut.proofs.lines.is_without_blanks.Goals as goal

pub returns : goal.returns
returns c = λ none.
    without_blanks (delimiter_options c.args.delimiters) (cut_place c.args.from) (take 64 c.args.lane.now) c.args.ends c.one_on-begins.result c.byte_mask.result c.byte_mask-2.result
    c.is_after_eol.result (length-take-le 64 c.args.lane.now c.requires.room) c.requires.ends c.is_after_eol.ensures c.one_on-begins.ensures.low c.one_on-begins.ensures.high
    c.byte_mask.ensures c.byte_mask-2.ensures (eqb-true _ 0 none)
