-- Bytes that need no escape: what a lane tells of them, and how they are written.
use Rattle.std.proofs.Common.{◌≡◌, ◌⊎◌, inl, inr, refl, ℕ, zero, suc, subst, ◌+◌, ◌-◌, ◌%◌, ◌^◌, ◌<◌, ◌≤◌, ◌∙◌, sym, ap, arith, append_assoc, Bool, true, false, cond, ◌||◌, ◌&&◌, ◌==◌, List, [], ◌∷◌, ◌++◌, length, get_or, take, drop, map, replicate, bit_or, eqb, ltb}
use Rattle.std.proofs.lemmas.Bool.{or_parts, eqb-true, ne_eqb, ltb-false, cases_lt, OnTrue_from}
use Rattle.std.proofs.lemmas.Grind.{flat_map-append}
use Rattle.std.proofs.lemmas.List.{length-map, take-append-drop}
use Rattle.std.proofs.lemmas.Simd.{zip2_splat, zip2_of_maps, mask_l-mod, none_from_empty_mask, trailing_mask_l, run_in_chunk_fails, length-chunk}
use Rattle.std.specs.Bool.{OnTrue}
use Rattle.std.specs.List.{flat_map}
use lib.Count.{count_trailing_zeros}
use lib.Lanes.{chunk, mask_l, zip2, top}
use Rattle.morsel_ndjson.specs.Ndjson.{escaped, json_string}
use Rattle.morsel_ndjson.specs.Members.{needs_escape, ArePlain}
use Rattle.morsel_ndjson.proofs.PutLemmas.{cut_words, take_add}

-- how a comparison of lanes tells: all bits, or none
abbrev all_bits : Bool → ℕ
all_bits b = cond b 255 0

abbrev compared : ℕ → ℕ
compared b = bit_or (bit_or (all_bits (eqb b 34)) (all_bits (eqb b 92))) (all_bits (ltb b 32))

any_of : (a b c : Bool) → top 7 (bit_or (bit_or (all_bits a) (all_bits b)) (all_bits c)) ≡ (a || b || c)
any_of true true true = refl
any_of true true false = refl
any_of true false true = refl
any_of true false false = refl
any_of false true true = refl
any_of false true false = refl
any_of false false true = refl
any_of false false false = refl

each_compared : (lane : List ℕ) → map (top 7) (map compared lane) ≡ map needs_escape lane
each_compared [] = refl
each_compared (b ∷ lane) =
    ap (λ x. x ∷ map (top 7) (map compared lane)) (any_of (eqb b 34) (eqb b 92) (ltb b 32))
    ∙ ap (λ xs. needs_escape b ∷ xs) (each_compared lane)

-- the three comparisons of a lane of `n` bytes, as the code makes them
abbrev pub escapes_told : ℕ → List ℕ → ℕ
escapes_told n lane = mask_l (map (top 7) (zip2 bit_or (zip2 bit_or (zip2 (λ a b. all_bits (eqb a b)) lane (replicate n 34)) (zip2 (λ a b. all_bits (eqb a b)) lane (replicate n 92)))
    (zip2 (λ a b. all_bits (ltb a b)) lane (replicate n 32)))) % 2 ^ 64

escapes_of_lane : (n : ℕ) (lane : List ℕ) → length lane ≡ n → n ≤ 64 → escapes_told n lane ≡ mask_l (map needs_escape lane)
escapes_of_lane n lane long fits =
    let quotes = zip2_splat (λ (a b : ℕ). all_bits (eqb a b)) lane n 34 long in
    let backslashes = zip2_splat (λ (a b : ℕ). all_bits (eqb a b)) lane n 92 long in
    let controls = zip2_splat (λ (a b : ℕ). all_bits (ltb a b)) lane n 32 long in
    let marks = zip2_of_maps bit_or _ _ lane (zip2_of_maps bit_or _ _ lane quotes backslashes) controls in
    ap (λ (l : List ℕ). mask_l (map (top 7) l) % 2 ^ 64) marks
    ∙ (ap (λ (l : List Bool). mask_l l % 2 ^ 64) (each_compared lane)
    ∙ mask_l-mod (map needs_escape lane) 64 (omega (arith, length-map lane needs_escape, long, fits)))

-- where no bit of a lane is set, none of its bytes needs an escape
pub plain_lane_none : (n : ℕ) (text : List ℕ) (from : ℕ) → from + n ≤ length text → n ≤ 64 → escapes_told n (chunk from n text) ≡ 0 → ArePlain from (from + n) text
plain_lane_none n text from within fits none =
    none_from_empty_mask needs_escape text from n 0 within (sym (escapes_of_lane n (chunk from n text) (length-chunk from n text within) fits) ∙ none)

pub plain_lane : (n : ℕ) (text : List ℕ) (from : ℕ) → from + n ≤ length text → n ≤ 64
    → OnTrue (escapes_told n (chunk from n text) == 0) (ArePlain from (from + n) text)
plain_lane n text from within fits =
    OnTrue_from (escapes_told n (chunk from n text) == 0) (ArePlain from (from + n) text)
    (λ none. plain_lane_none n text from within fits (eqb-true (escapes_told n (chunk from n text)) 0 none))

-- the lowest bit that is set is of the first byte that needs an escape
pub plain_to_first : (n : ℕ) (text : List ℕ) → n ≤ length text → n ≤ 64 → 0 < escapes_told n (chunk 0 n text) → ArePlain 0 (count_trailing_zeros 64 (escapes_told n (chunk 0 n text))) text
plain_to_first n text within fits some =
    let room : 0 + n ≤ length text = omega arith in
    let long = length-chunk 0 n text room in
    let told = escapes_of_lane n (chunk 0 n text) long fits in
    let first : ℕ = count_trailing_zeros 64 (escapes_told n (chunk 0 n text)) in
    let counted = ap (count_trailing_zeros 64) told ∙ trailing_mask_l needs_escape 64 (chunk 0 n text) (omega (arith, long)) (omega (arith, told, some)) in
    λ k low high. run_in_chunk_fails needs_escape text 0 n first 0 room counted k low (omega (arith, high))

-- bytes that need no escape, and more of them
pub plain_more : (text : List ℕ) (from mid to : ℕ) (last : ℕ) → last ≤ mid → ArePlain from mid text → ArePlain last to text → ArePlain from to text
plain_more text from mid to last meets front back = λ k low high. by k low high (cases_lt k mid)
  where
    by : (k : ℕ) → from ≤ k → k < to → (k < mid) ⊎ (mid ≤ k) → needs_escape (get_or text k 0) ≡ false
    by k low high (inl before) = front k low before
    by k low high (inr behind) = back k (omega arith) high

-- two lanes without an escape that meet
pub plain_both : (text : List ℕ) (n last len : ℕ) (front back : Bool) → last ≤ n → last + n ≡ len
    → OnTrue front (ArePlain 0 n text) → OnTrue back (ArePlain last (last + n) text) → OnTrue (front && back) (ArePlain 0 len text)
plain_both text n last len true true meets ends front back =
    plain_more text 0 n len last meets front (subst (λ (m : ℕ). ArePlain last m text) ends back)
plain_both text n last len true false meets ends front back = tt
plain_both text n last len false back meets ends front after = tt

plain_byte : (b : ℕ) → needs_escape b ≡ false → escaped b ≡ b ∷ []
plain_byte b is =
    let parts = or_parts (b == 34 || b == 92) (ltb b 32) is in
    let marks = or_parts (b == 34) (b == 92) parts.0 in
    let above : 32 ≤ b = ltb-false b 32 parts.1 in
    let no_8 : (b == 8) ≡ false = ne_eqb b 8 (omega arith) in
    let no_12 : (b == 12) ≡ false = ne_eqb b 12 (omega arith) in
    let no_10 : (b == 10) ≡ false = ne_eqb b 10 (omega arith) in
    let no_13 : (b == 13) ≡ false = ne_eqb b 13 (omega arith) in
    let no_9 : (b == 9) ≡ false = ne_eqb b 9 (omega arith) in
    rw (marks.0, marks.1, no_8, no_12, no_10, no_13, no_9, parts.1) refl

-- bytes that need no escape are as they are
plain_taken : (text : List ℕ) (n : ℕ) → n ≤ length text → ArePlain 0 n text → flat_map escaped (take n text) ≡ take n text
plain_taken text zero within plain = refl
plain_taken [] (suc n) within plain = absurd (omega arith)
plain_taken (b ∷ text) (suc n) within plain =
    ap (λ s. s ++ flat_map escaped (take n text)) (plain_byte b (plain zero (omega arith) (omega arith)))
    ∙ ap (λ s. b ∷ s) (plain_taken text n (omega arith) (λ k low high. plain (suc k) (omega arith) (omega arith)))

-- what follows them has its escapes
pub plain_front : (text : List ℕ) (n : ℕ) → n ≤ length text → ArePlain 0 n text → flat_map escaped text ≡ take n text ++ flat_map escaped (drop n text)
plain_front text n within plain =
    ap (flat_map escaped) (sym (take-append-drop n text))
    ∙ (flat_map-append escaped (take n text) (drop n text)
    ∙ ap (λ s. s ++ flat_map escaped (drop n text)) (plain_taken text n within plain))

-- a lane of which the first `len` bytes need no escape, between quotes
pub quoted_lane : (old opened laned closed bytes : List ℕ) (at begin len first end : ℕ) → begin ≡ at + 1 → end ≡ begin + len + 1
    → len ≤ first → len ≤ 16 → 16 ≤ length bytes → begin ≤ length opened → begin + 16 ≤ length laned → ArePlain 0 first bytes
    → take begin opened ≡ take at old ++ 34 ∷ [] → take (begin + 16) laned ≡ take begin opened ++ take 16 bytes
    → take end closed ≡ take (begin + len) laned ++ 34 ∷ [] → take (at + len + 2) closed ≡ take at old ++ json_string (take len bytes)
quoted_lane old opened laned closed bytes at begin len first end next last enough short long room lane_room plain quote lane close =
    let place : at + len + 2 ≡ end = omega arith in
    let text : List ℕ = take len bytes in
    let body : take (begin + len) laned ≡ take begin opened ++ text = cut_words opened laned bytes begin 16 len short room long lane_room lane in
    ap (λ (n : ℕ). take n closed) place
    ∙ (close
    ∙ (ap (λ (s : List ℕ). s ++ 34 ∷ []) (body ∙ (ap (λ (s : List ℕ). s ++ text) quote ∙ append_assoc (take at old) (34 ∷ []) text))
    ∙ (append_assoc (take at old) (34 ∷ text) (34 ∷ [])
    ∙ ap (λ (s : List ℕ). take at old ++ (34 ∷ s ++ 34 ∷ [])) (sym (plain_taken bytes len (omega arith) (λ k low high. plain k low (omega arith)))))))

-- the bytes before the first that needs an escape, and then the others with their escapes
parts_escaped : (bytes : List ℕ) (plain len : ℕ) → plain ≤ len → len ≤ length bytes → ArePlain 0 plain bytes
    → flat_map escaped (take len bytes) ≡ take plain bytes ++ flat_map escaped (take (len - plain) (drop plain bytes))
parts_escaped bytes plain len within long are =
    let rest : List ℕ = take (len - plain) (drop plain bytes) in
    let whole : len ≡ plain + (len - plain) = omega arith in
    ap (λ (n : ℕ). flat_map escaped (take n bytes)) whole
    ∙ (ap (flat_map escaped) (take_add bytes plain (len - plain))
    ∙ (flat_map-append escaped (take plain bytes) rest
    ∙ ap (λ (s : List ℕ). s ++ flat_map escaped rest) (plain_taken bytes plain (omega arith) are)))

-- the same after a lane was put, between quotes
pub quoted_front : (old opened laned closed bytes : List ℕ) (at begin plain len end : ℕ)
    → plain ≤ len → len ≤ 16 → 16 ≤ length bytes → begin ≤ length opened → begin + 16 ≤ length laned → ArePlain 0 plain bytes
    → take begin opened ≡ take at old ++ 34 ∷ [] → take (begin + 16) laned ≡ take begin opened ++ take 16 bytes
    → take end closed ≡ (take (begin + plain) laned ++ flat_map escaped (take (len - plain) (drop plain bytes))) ++ 34 ∷ []
    → take end closed ≡ take at old ++ json_string (take len bytes)
quoted_front old opened laned closed bytes at begin plain len end within short long room lane_room are quote lane rest =
    let front : List ℕ = take plain bytes in
    let back : List ℕ = flat_map escaped (take (len - plain) (drop plain bytes)) in
    let body : take (begin + plain) laned ≡ take begin opened ++ front = cut_words opened laned bytes begin 16 plain (omega arith) room long lane_room lane in
    let so_far : take (begin + plain) laned ≡ take at old ++ 34 ∷ front =
    body ∙ (ap (λ (s : List ℕ). s ++ front) quote ∙ append_assoc (take at old) (34 ∷ []) front) in
    rest
    ∙ (ap (λ (s : List ℕ). s ++ 34 ∷ []) (ap (λ (s : List ℕ). s ++ back) so_far ∙ append_assoc (take at old) (34 ∷ front) back)
    ∙ (append_assoc (take at old) (34 ∷ front ++ back) (34 ∷ [])
    ∙ ap (λ (s : List ℕ). take at old ++ (34 ∷ s ++ 34 ∷ [])) (sym (parts_escaped bytes plain len within (omega arith) are))))
