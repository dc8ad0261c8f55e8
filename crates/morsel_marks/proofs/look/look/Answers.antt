use Rattle.std.proofs.Common.{◌-◌, ◌^◌, ◌∙◌, ◌<◌, ℕ, sym, ap, Bool, ◌==◌, ◌||◌, take, arith, length-take-le, lt_of_le_of_lt}
use Rattle.std.proofs.lemmas.Bool.{not-true}
use Rattle.std.proofs.lemmas.Nat.{or_lt, xor_lt, and_le_l}
use Rattle.std.specs.Int.RustNames.{bit_and, bit_or, bit_xor}
use Rattle.morsel_grammar.specs.Split.{is_quote}
use Rattle.morsel_marks.proofs.MaskLemmas.{mask_under}
use Rattle.morsel_marks.proofs.LookLemmas.{inside_is, marks_found, faults_found, inside_after, next_found, outside, outside_marks, outside_next}
use Rattle.morsel_marks.proofs.look.look.Goals as goal

pub returns-then-not-state-2-clause-marks : goal.returns-then-not-state-2-clause-marks
returns-then-not-state-2-clause-marks c =
    let q = is_quote c.args.quote in
    let s : ℕ → Bool = λ b. b == c.args.separator || b == c.args.eol in
    let bytes = take c.args.len c.args.lane.now in
    let quotes = bit_and c.quote_mask.result c.low_bits-within.result in
    let stops = bit_and c.stop_mask.result c.low_bits-within.result in
    let long = length-take-le c.args.len c.args.lane.now (omega arith) in
    let is_q = mask_under q c.args.len c.quote_mask.result c.low_bits-within.result c.args.lane.now c.requires.most c.quote_mask.ensures c.low_bits-within.ensures in
    let is_s = mask_under s c.args.len c.stop_mask.result c.low_bits-within.result c.args.lane.now c.requires.most c.stop_mask.ensures c.low_bits-within.ensures in
    let fits_q : quotes < 2 ^ 64 = lt_of_le_of_lt (and_le_l _ _) c.quote_mask.type_inv in
    let fits_s : stops < 2 ^ 64 = lt_of_le_of_lt (and_le_l _ _) c.stop_mask.type_inv in
    let out = not-true _ c.if-not-state.true in
    let apart = not-true _ c.if-not-state-2.true in
    let none = c.if-quotes-eq0.true in
    outside_marks q s c.args.state bytes quotes stops (omega arith) is_q is_s none out apart

pub returns-then-not-state-2-clause-sound : goal.returns-then-not-state-2-clause-sound
returns-then-not-state-2-clause-sound c =
    let q = is_quote c.args.quote in
    let s : ℕ → Bool = λ b. b == c.args.separator || b == c.args.eol in
    let bytes = take c.args.len c.args.lane.now in
    let quotes = bit_and c.quote_mask.result c.low_bits-within.result in
    let stops = bit_and c.stop_mask.result c.low_bits-within.result in
    let long = length-take-le c.args.len c.args.lane.now (omega arith) in
    let is_q = mask_under q c.args.len c.quote_mask.result c.low_bits-within.result c.args.lane.now c.requires.most c.quote_mask.ensures c.low_bits-within.ensures in
    let is_s = mask_under s c.args.len c.stop_mask.result c.low_bits-within.result c.args.lane.now c.requires.most c.stop_mask.ensures c.low_bits-within.ensures in
    let fits_q : quotes < 2 ^ 64 = lt_of_le_of_lt (and_le_l _ _) c.quote_mask.type_inv in
    let fits_s : stops < 2 ^ 64 = lt_of_le_of_lt (and_le_l _ _) c.stop_mask.type_inv in
    let out = not-true _ c.if-not-state.true in
    let apart = not-true _ c.if-not-state-2.true in
    let none = c.if-quotes-eq0.true in
    sym (outside q s c.args.state bytes (sym is_q ∙ none) out apart).sound

pub returns-then-not-state-2-clause-inside : goal.returns-then-not-state-2-clause-inside
returns-then-not-state-2-clause-inside c =
    let q = is_quote c.args.quote in
    let s : ℕ → Bool = λ b. b == c.args.separator || b == c.args.eol in
    let bytes = take c.args.len c.args.lane.now in
    let quotes = bit_and c.quote_mask.result c.low_bits-within.result in
    let stops = bit_and c.stop_mask.result c.low_bits-within.result in
    let long = length-take-le c.args.len c.args.lane.now (omega arith) in
    let is_q = mask_under q c.args.len c.quote_mask.result c.low_bits-within.result c.args.lane.now c.requires.most c.quote_mask.ensures c.low_bits-within.ensures in
    let is_s = mask_under s c.args.len c.stop_mask.result c.low_bits-within.result c.args.lane.now c.requires.most c.stop_mask.ensures c.low_bits-within.ensures in
    let fits_q : quotes < 2 ^ 64 = lt_of_le_of_lt (and_le_l _ _) c.quote_mask.type_inv in
    let fits_s : stops < 2 ^ 64 = lt_of_le_of_lt (and_le_l _ _) c.stop_mask.type_inv in
    let out = not-true _ c.if-not-state.true in
    let apart = not-true _ c.if-not-state-2.true in
    let none = c.if-quotes-eq0.true in
    sym (outside q s c.args.state bytes (sym is_q ∙ none) out apart).inside

pub returns-then-not-state-2-clause-next : goal.returns-then-not-state-2-clause-next
returns-then-not-state-2-clause-next c =
    let q = is_quote c.args.quote in
    let s : ℕ → Bool = λ b. b == c.args.separator || b == c.args.eol in
    let bytes = take c.args.len c.args.lane.now in
    let quotes = bit_and c.quote_mask.result c.low_bits-within.result in
    let stops = bit_and c.stop_mask.result c.low_bits-within.result in
    let long = length-take-le c.args.len c.args.lane.now (omega arith) in
    let is_q = mask_under q c.args.len c.quote_mask.result c.low_bits-within.result c.args.lane.now c.requires.most c.quote_mask.ensures c.low_bits-within.ensures in
    let is_s = mask_under s c.args.len c.stop_mask.result c.low_bits-within.result c.args.lane.now c.requires.most c.stop_mask.ensures c.low_bits-within.ensures in
    let fits_q : quotes < 2 ^ 64 = lt_of_le_of_lt (and_le_l _ _) c.quote_mask.type_inv in
    let fits_s : stops < 2 ^ 64 = lt_of_le_of_lt (and_le_l _ _) c.stop_mask.type_inv in
    let out = not-true _ c.if-not-state.true in
    let apart = not-true _ c.if-not-state-2.true in
    let none = c.if-quotes-eq0.true in
    λ full. outside_next q s c.args.state bytes quotes stops (long ∙ full) is_q is_s none out apart fits_s

pub returns-clause-marks : goal.returns-clause-marks
returns-clause-marks c =
    let q = is_quote c.args.quote in
    let s : ℕ → Bool = λ b. b == c.args.separator || b == c.args.eol in
    let bytes = take c.args.len c.args.lane.now in
    let quotes = bit_and c.quote_mask.result c.low_bits-within.result in
    let stops = bit_and c.stop_mask.result c.low_bits-within.result in
    let long = length-take-le c.args.len c.args.lane.now (omega arith) in
    let is_q = mask_under q c.args.len c.quote_mask.result c.low_bits-within.result c.args.lane.now c.requires.most c.quote_mask.ensures c.low_bits-within.ensures in
    let is_s = mask_under s c.args.len c.stop_mask.result c.low_bits-within.result c.args.lane.now c.requires.most c.stop_mask.ensures c.low_bits-within.ensures in
    let fits_q : quotes < 2 ^ 64 = lt_of_le_of_lt (and_le_l _ _) c.quote_mask.type_inv in
    let fits_s : stops < 2 ^ 64 = lt_of_le_of_lt (and_le_l _ _) c.stop_mask.type_inv in
    let turns = bit_xor c.prefix_xor.result c.spread.result in
    let fits_t : turns < 2 ^ 64 = xor_lt 64 _ _ c.prefix_xor.type_inv c.spread.type_inv in
    let turns_is = inside_is q s c.args.state bytes quotes c.prefix_xor.result c.spread.result is_q c.prefix_xor.ensures c.spread.ensures in
    let near = bit_or stops quotes in
    let fits_n : near < 2 ^ 64 = or_lt 64 _ _ fits_s fits_q in
    marks_found q s c.args.state bytes stops turns (omega arith) fits_s fits_t is_s turns_is (lt_of_le_of_lt (and_le_l _ _) fits_s)

pub returns-clause-sound : goal.returns-clause-sound
returns-clause-sound c =
    let q = is_quote c.args.quote in
    let s : ℕ → Bool = λ b. b == c.args.separator || b == c.args.eol in
    let bytes = take c.args.len c.args.lane.now in
    let quotes = bit_and c.quote_mask.result c.low_bits-within.result in
    let stops = bit_and c.stop_mask.result c.low_bits-within.result in
    let long = length-take-le c.args.len c.args.lane.now (omega arith) in
    let is_q = mask_under q c.args.len c.quote_mask.result c.low_bits-within.result c.args.lane.now c.requires.most c.quote_mask.ensures c.low_bits-within.ensures in
    let is_s = mask_under s c.args.len c.stop_mask.result c.low_bits-within.result c.args.lane.now c.requires.most c.stop_mask.ensures c.low_bits-within.ensures in
    let fits_q : quotes < 2 ^ 64 = lt_of_le_of_lt (and_le_l _ _) c.quote_mask.type_inv in
    let fits_s : stops < 2 ^ 64 = lt_of_le_of_lt (and_le_l _ _) c.stop_mask.type_inv in
    let turns = bit_xor c.prefix_xor.result c.spread.result in
    let fits_t : turns < 2 ^ 64 = xor_lt 64 _ _ c.prefix_xor.type_inv c.spread.type_inv in
    let turns_is = inside_is q s c.args.state bytes quotes c.prefix_xor.result c.spread.result is_q c.prefix_xor.ensures c.spread.ensures in
    let near = bit_or stops quotes in
    let fits_n : near < 2 ^ 64 = or_lt 64 _ _ fits_s fits_q in
    let is_r = mask_under (λ (b : ℕ). b == 13) c.args.len c.byte_mask.result c.low_bits-within.result c.args.lane.now c.requires.most c.byte_mask.ensures c.low_bits-within.ensures in
    let fits_r : bit_and c.byte_mask.result c.low_bits-within.result < 2 ^ 64 = lt_of_le_of_lt (and_le_l _ _) c.byte_mask.type_inv in
    faults_found q s c.args.state bytes quotes stops (bit_and c.byte_mask.result c.low_bits-within.result) turns c.one_on.result c.one_on-2.result c.low_bits-within.result
    (omega arith) is_q is_s is_r (c.low_bits-within.ensures ∙ ap (λ (n : ℕ). 2 ^ n - 1) (sym long)) turns_is
    c.one_on.ensures.low c.one_on.ensures.high c.one_on-2.ensures.low c.one_on-2.ensures.high
    fits_t c.one_on.type_inv (or_lt 64 _ _ fits_n fits_r)
    (or_lt 64 _ _ (lt_of_le_of_lt (and_le_l _ _) (lt_of_le_of_lt (and_le_l _ _) fits_q)) (lt_of_le_of_lt (and_le_l _ _) (lt_of_le_of_lt (and_le_l _ _) c.one_on-2.type_inv)))

pub returns-clause-inside : goal.returns-clause-inside
returns-clause-inside c =
    let q = is_quote c.args.quote in
    let s : ℕ → Bool = λ b. b == c.args.separator || b == c.args.eol in
    let bytes = take c.args.len c.args.lane.now in
    let quotes = bit_and c.quote_mask.result c.low_bits-within.result in
    let stops = bit_and c.stop_mask.result c.low_bits-within.result in
    let long = length-take-le c.args.len c.args.lane.now (omega arith) in
    let is_q = mask_under q c.args.len c.quote_mask.result c.low_bits-within.result c.args.lane.now c.requires.most c.quote_mask.ensures c.low_bits-within.ensures in
    let is_s = mask_under s c.args.len c.stop_mask.result c.low_bits-within.result c.args.lane.now c.requires.most c.stop_mask.ensures c.low_bits-within.ensures in
    let fits_q : quotes < 2 ^ 64 = lt_of_le_of_lt (and_le_l _ _) c.quote_mask.type_inv in
    let fits_s : stops < 2 ^ 64 = lt_of_le_of_lt (and_le_l _ _) c.stop_mask.type_inv in
    let turns = bit_xor c.prefix_xor.result c.spread.result in
    let fits_t : turns < 2 ^ 64 = xor_lt 64 _ _ c.prefix_xor.type_inv c.spread.type_inv in
    let turns_is = inside_is q s c.args.state bytes quotes c.prefix_xor.result c.spread.result is_q c.prefix_xor.ensures c.spread.ensures in
    let near = bit_or stops quotes in
    let fits_n : near < 2 ^ 64 = or_lt 64 _ _ fits_s fits_q in
    inside_after q s c.args.state bytes turns (omega arith) fits_t turns_is

pub returns-clause-next : goal.returns-clause-next
returns-clause-next c =
    let q = is_quote c.args.quote in
    let s : ℕ → Bool = λ b. b == c.args.separator || b == c.args.eol in
    let bytes = take c.args.len c.args.lane.now in
    let quotes = bit_and c.quote_mask.result c.low_bits-within.result in
    let stops = bit_and c.stop_mask.result c.low_bits-within.result in
    let long = length-take-le c.args.len c.args.lane.now (omega arith) in
    let is_q = mask_under q c.args.len c.quote_mask.result c.low_bits-within.result c.args.lane.now c.requires.most c.quote_mask.ensures c.low_bits-within.ensures in
    let is_s = mask_under s c.args.len c.stop_mask.result c.low_bits-within.result c.args.lane.now c.requires.most c.stop_mask.ensures c.low_bits-within.ensures in
    let fits_q : quotes < 2 ^ 64 = lt_of_le_of_lt (and_le_l _ _) c.quote_mask.type_inv in
    let fits_s : stops < 2 ^ 64 = lt_of_le_of_lt (and_le_l _ _) c.stop_mask.type_inv in
    let turns = bit_xor c.prefix_xor.result c.spread.result in
    let fits_t : turns < 2 ^ 64 = xor_lt 64 _ _ c.prefix_xor.type_inv c.spread.type_inv in
    let turns_is = inside_is q s c.args.state bytes quotes c.prefix_xor.result c.spread.result is_q c.prefix_xor.ensures c.spread.ensures in
    let near = bit_or stops quotes in
    let fits_n : near < 2 ^ 64 = or_lt 64 _ _ fits_s fits_q in
    λ full. next_found q s c.args.state bytes quotes stops turns (long ∙ full) is_q is_s turns_is fits_t fits_n (lt_of_le_of_lt (and_le_l _ _) fits_q)
