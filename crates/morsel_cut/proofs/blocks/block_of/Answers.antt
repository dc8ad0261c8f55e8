use Rattle.std.proofs.Common.{◌∙◌, sym, ap, arith, take}
use Rattle.std.proofs.lemmas.List.{length-take-le, get_or-take}
use Rattle.morsel_grammar.specs.Machine.{plain_step}
use Rattle.morsel_cut.specs.Places.{cut_place, delimiter_options}
use Rattle.morsel_cut.proofs.BlockLemmas.{plain_does}
use Rattle.morsel_cut.proofs.blocks.block_of.Goals as goal

pub returns-then-is_outside : goal.returns-then-is_outside
returns-then-is_outside c =
    let o = delimiter_options c.args.delimiters in
    let lane = c.args.lane.now in
    plain_does o (cut_place c.args.from) c.plain_step.result (take 64 lane) c.quote_mask-quotes.result c.byte_mask-eols.result c.requires.fit
    (c.is_outside.ensures.0 c.if-is_outside.true) (length-take-le 64 lane c.requires.room) c.quote_mask-quotes.ensures c.if-quotes-eq0.true c.byte_mask-eols.ensures
    (c.plain_step.ensures ∙ ap (plain_step o) (sym (get_or-take 64 lane 63 0 (omega arith))))
