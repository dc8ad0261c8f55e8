use Rattle.std.proofs.Common.{◌∙◌, ◌-◌, ◌/◌, ◌<◌, ◌^◌, ℕ, sym, ap, arith, not, take, eqb}
use Rattle.std.proofs.lemmas.List.{length-take-le, get_or-take}
use Rattle.std.proofs.lemmas.Nat.{xor_lt}
use Rattle.std.specs.Int.RustNames.{bit_and, bit_xor}
use Rattle.std.specs.Prelude.{if◌then◌else◌}
use Rattle.morsel_grammar.specs.Machine.{InQuotes, AfterQuote, plain_step}
use Rattle.morsel_cut.specs.Places.{cut_place, delimiter_options}
use Rattle.morsel_cut.proofs.BlockLemmas.{masks_are, quoted_does}
use Rattle.morsel_cut.proofs.blocks.quoted_block.Goals as goal

pub returns : goal.returns
returns c =
    let o = delimiter_options c.args.delimiters in
    let p = cut_place c.args.from in
    let lane = c.args.lane.now in
    let bytes = take 64 lane in
    let separators = c.byte_mask.result in
    let eols = c.args.eols in
    let quotes = c.args.quotes in
    let turns = bit_xor c.prefix_xor.result c.spread.result in
    let fits_turns : turns < 2 ^ 64 = xor_lt 64 _ _ c.prefix_xor.type_inv c.spread.type_inv in
    let masks = masks_are o p bytes separators eols quotes c.prefix_xor.result c.spread.result c.one_on.result c.one_on-2.result
    c.is_in_quotes.result c.is_after_quote.result (not c.is_in_plain.result) (length-take-le 64 lane c.requires.room)
    c.byte_mask.ensures c.requires.eols c.requires.quotes c.prefix_xor.ensures c.spread.ensures c.is_in_quotes.ensures.value
    c.one_on.ensures.low (ap not c.is_in_plain.ensures) c.one_on.ensures.high
    c.one_on-2.ensures.low c.is_after_quote.ensures c.one_on-2.ensures.high
    c.byte_mask.type_inv c.ranges.eols.fits c.ranges.quotes.fits fits_turns c.one_on.type_inv c.one_on-2.type_inv in
    quoted_does o p c.place_after.result bytes separators eols quotes turns c.one_on.result c.one_on-2.result c.requires.fit c.requires.among masks
    c.if-misplaced-followed-ne0.false
    (c.place_after.ensures
    ∙ ap (λ (b : ℕ). if eqb (turns / 9223372036854775808) 1 then InQuotes
    else (if eqb (bit_and quotes (18446744073709551615 - turns) / 9223372036854775808) 1 then AfterQuote else plain_step o b))
    (sym (get_or-take 64 lane 63 0 (omega arith))))
