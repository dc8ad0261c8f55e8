-- Bytes that follow others, in a buffer that has room after them.
use Rattle.std.proofs.Common.{◌≡◌, ℕ, ◌+◌, ◌-◌, ◌/◌, ◌%◌, ◌^◌, ◌<◌, ◌≤◌, List, [], ◌∷◌, ◌++◌, length, take, drop, refl, ap, sym, ◌∙◌, append_assoc, arith, length-append, decimal, subst, Result, Ok, Err}
use Rattle.std.proofs.lemmas.List.{take_all, take-take, take-append-drop, take_at, take-append-le, length-take-le}
use Rattle.std.proofs.lemmas.List.{drop-take}
use Rattle.std.proofs.Math.Seq.{take-append-add}
use Rattle.std.proofs.lemmas.Fmt.{decimal_digit, decimal_step}
use Rattle.morsel_ndjson.specs.Members.{Puts}

-- the front of what was written is what stood there before
pub front_kept : (old now : List ℕ) (at to : ℕ) (x y : List ℕ) → at ≤ to → to ≤ length now → at ≤ length old
    → take to now ++ y ≡ take at old ++ x → take at now ≡ take at old
front_kept old now at to x y rises within was written =
    let long : at ≤ length (take to now) = rw (length-take-le to now within) rises in
    let short : at ≤ length (take at old) = rw (length-take-le at old was) (omega arith) in
    sym (take-take at to now rises) ∙ (sym (take-append-le at (take to now) y long) ∙ (ap (λ (s : List ℕ). take at s) written
    ∙ (take-append-le at (take at old) x short ∙ take-take at at old (omega arith))))

-- what is kept up to a later place is kept up to an earlier one
pub kept_below : (now old : List ℕ) (at to : ℕ) → at ≤ to → take to now ≡ take to old → take at now ≡ take at old
kept_below now old at to rises kept = sym (take-take at to now rises) ∙ (ap (λ (s : List ℕ). take at s) kept ∙ take-take at to old rises)

-- what is after a front of known length
pub take_behind : (xs ys : List ℕ) (at n : ℕ) → length xs ≡ at → take (at + n) (xs ++ ys) ≡ xs ++ take n ys
take_behind xs ys at n same = ap (λ (m : ℕ). take (m + n) (xs ++ ys)) (sym same) ∙ take-append-add xs ys n

-- the first of a list, and some more
pub take_add : (xs : List ℕ) (n m : ℕ) → take (n + m) xs ≡ take n xs ++ take m (drop n xs)
take_add xs n m =
    let rises : n ≤ n + m = omega arith in
    sym (ap (λ (s : List ℕ). s ++ take m (drop n xs)) (sym (take-take n (n + m) xs rises))
    ∙ (ap (λ (s : List ℕ). take n (take (n + m) xs) ++ s) (sym (drop-take n m xs)) ∙ take-append-drop n (take (n + m) xs)))

-- words up to the last that begins within the part
pub cut_words : (old now padded : List ℕ) (at from len : ℕ) → len ≤ from → at ≤ length old → from ≤ length padded → at + from ≤ length now
    → take (at + from) now ≡ take at old ++ take from padded → take (at + len) now ≡ take at old ++ take len padded
cut_words old now padded at from len past was long within written =
    let place : length (take at old) ≡ at = length-take-le at old was in
    sym (take-take (at + len) (at + from) now (omega arith)) ∙ (ap (λ (s : List ℕ). take (at + len) s) written
    ∙ (take_behind (take at old) (take from padded) at len place ∙ ap (λ (s : List ℕ). take at old ++ s) (take-take len from padded past)))

-- one more word of `n` bytes
pub one_word : (old out now padded : List ℕ) (at from n : ℕ) → from + n ≤ length padded
    → take (at + from) out ≡ take at old ++ take from padded → take (at + from + n) now ≡ take (at + from) out ++ take n (drop from padded)
    → take (at + (from + n)) now ≡ take at old ++ take (from + n) padded
one_word old out now padded at from n within so_far word =
    let place : at + (from + n) ≡ at + from + n = omega arith in
    ap (λ (m : ℕ). take m now) place ∙ (word ∙ (ap (λ (s : List ℕ). s ++ take n (drop from padded)) so_far
    ∙ (append_assoc (take at old) (take from padded) (take n (drop from padded))
    ∙ ap (λ (s : List ℕ). take at old ++ s) (sym (take_add padded from n)))))

-- a word that begins within those before it
pub word_over : (old out now padded : List ℕ) (at from last n len : ℕ) → last ≤ from → len ≤ last + n → at ≤ length old → from ≤ length padded → last + n ≤ length padded
    → at + from ≤ length out → at + (last + n) ≤ length now → take (at + from) out ≡ take at old ++ take from padded
    → take (at + last + n) now ≡ take (at + last) out ++ take n (drop last padded) → take (at + len) now ≡ take at old ++ take len padded
word_over old out now padded at from last n len within ends was from_within last_within from_room last_room so_far word =
    cut_words old now padded at (last + n) len ends was last_within last_room
    (one_word old out now padded at last n last_within (cut_words old out padded at from last within was from_within from_room so_far) word)

-- two words that meet are a whole text
pub two_words : (old out now text : List ℕ) (at n : ℕ) → n ≤ length text → length text ≤ n + n → at + length text ≤ length old
    → at + n ≤ length out → at + length text ≤ length now → take (at + n) out ≡ take at old ++ take n text
    → take (at + (length text - n) + n) now ≡ take (at + (length text - n)) out ++ take n (drop (length text - n) text)
    → take (at + length text) now ≡ take at old ++ text
two_words old out now text at n long short room out_room now_room front back =
    word_over old out now text at n (length text - n) n (length text) (omega arith) (omega arith) (omega arith) (omega arith) (omega arith) out_room (omega arith) front back
    ∙ ap (λ (s : List ℕ). take at old ++ s) (take_all (length text) text (omega arith))

-- what was before a word is what it was
pub before_word : (old now word : List ℕ) (at n : ℕ) → at ≤ length old → take (at + n) now ≡ take at old ++ word → take at now ≡ take at old
before_word old now word at n was written =
    let short : at ≤ length (take at old) = rw (length-take-le at old was) (omega arith) in
    sym (take-take at (at + n) now (omega arith)) ∙ (ap (λ (s : List ℕ). take at s) written
    ∙ (take-append-le at (take at old) word short ∙ take-take at at old (omega arith)))

-- digits that end where they were said to end begin where they should
pub digits_at : (old now digits : List ℕ) (at start : ℕ) → start + length digits ≡ at + length digits → at + length digits ≤ length old
    → drop start now ≡ digits ++ drop (at + length digits) old → take start now ≡ take start old
    → take (at + length digits) now ≡ take at old ++ digits
digits_at old now digits at start same within behind before =
    let here : start ≡ at = omega arith in
    let place : length (take at old) ≡ at = length-take-le at old (omega arith) in
    let whole : now ≡ take at old ++ (digits ++ drop (at + length digits) old) =
    sym (take-append-drop start now) ∙ (ap (λ (s : List ℕ). s ++ drop start now) before
    ∙ (ap (λ (s : List ℕ). take start old ++ s) behind ∙ ap (λ (n : ℕ). take n old ++ (digits ++ drop (at + length digits) old)) here))
    in ap (λ (s : List ℕ). take (at + length digits) s) whole
    ∙ (take_behind (take at old) (digits ++ drop (at + length digits) old) at (length digits) place
    ∙ ap (λ (s : List ℕ). take at old ++ s) (take_at digits (drop (at + length digits) old) (length digits) refl))

-- the same, with the count of the digits
pub digits_to : (old now digits : List ℕ) (at start count : ℕ) → count ≡ length digits → start + length digits ≡ at + count → at + count ≤ length old
    → drop start now ≡ digits ++ drop (at + count) old → take start now ≡ take start old → take (at + count) now ≡ take at old ++ digits
digits_to old now digits at start count same ends within behind before =
    rw same (digits_at old now digits at start (rw same at ends) (rw same at within) (rw same at behind) before)

-- a number of one digit, and one of more
pub length_one : (n : ℕ) → n < 10 → length (decimal n) ≡ 1
length_one n below = ap length (decimal_digit n below)

pub length_step : (n : ℕ) → 10 ≤ n → n < 2 ^ 64 → length (decimal n) ≡ length (decimal (n / 10)) + 1
length_step n above fits = ap length (decimal_step n above fits) ∙ length-append (decimal (n / 10)) ((48 + n % 10) ∷ [])

pub length_two : (n : ℕ) → 10 ≤ n → n < 100 → length (decimal n) ≡ 2
length_two n above below = omega (arith, length_step n above (omega arith), length_one (n / 10) (omega arith))

pub length_three : (n : ℕ) → 100 ≤ n → n < 1000 → length (decimal n) ≡ 3
length_three n above below = omega (arith, length_step n (omega arith) (omega arith), length_two (n / 10) (omega arith) (omega arith))

pub length_four : (n : ℕ) → 1000 ≤ n → n < 10000 → length (decimal n) ≡ 4
length_four n above below = omega (arith, length_step n (omega arith) (omega arith), length_three (n / 10) (omega arith) (omega arith))

pub length_five : (n : ℕ) → 10000 ≤ n → n < 100000 → length (decimal n) ≡ 5
length_five n above below = omega (arith, length_step n (omega arith) (omega arith), length_four (n / 10) (omega arith) (omega arith))

-- five digits more than without the last five
pub length_more : (n : ℕ) → 100000 ≤ n → n < 2 ^ 64 → length (decimal n) ≡ 5 + length (decimal (n / 100000))
length_more n above fits =
    let same : n / 10 / 10 / 10 / 10 / 10 ≡ n / 100000 = omega arith in
    let five = length_step (n / 10 / 10 / 10 / 10) (omega arith) (omega arith) in
    let four = length_step (n / 10 / 10 / 10) (omega arith) (omega arith) in
    let three = length_step (n / 10 / 10) (omega arith) (omega arith) in
    let two = length_step (n / 10) (omega arith) (omega arith) in
    let one = length_step n (omega arith) fits in
    rw (one, two, three, four, five, same) (omega arith)

-- one more line, or one more member
pub one_more : (old out now : List ℕ) (at to end : ℕ) (x rest whole : List ℕ) → take end now ≡ take to out ++ x
    → take to out ++ (x ++ rest) ≡ take at old ++ whole → take end now ++ rest ≡ take at old ++ whole
one_more old out now at to end x rest whole put left = ap (λ (s : List ℕ). s ++ rest) put ∙ (append_assoc (take to out) x rest ∙ left)

-- what is put of one text is put of another that is the same
pub puts_same : {E : Type 0} (old new text same : List ℕ) (at : ℕ) (result : Result ℕ E) → text ≡ same → Puts old at text result new → Puts old at same result new
puts_same {E} old new text same at result is puts = subst (λ (s : List ℕ). Puts old at s result new) is puts

-- what was put after a part that was put
pub puts_more : {E : Type 0} (old part new rest whole : List ℕ) (at to : ℕ) (result : Result ℕ E) → at ≤ to → to ≤ length part → at ≤ length old
    → take to part ++ rest ≡ take at old ++ whole → Puts part to rest result new → Puts old at whole result new
puts_more {E} old part new rest whole at to (Ok end) rises within was so_far puts =
    record { rises = omega (arith, puts.rises, rises); within = puts.within; written = puts.written ∙ so_far }
puts_more {E} old part new rest whole at to (Err fault) rises within was so_far puts =
    kept_below new part at to rises puts ∙ front_kept old part at to whole rest rises within was so_far
