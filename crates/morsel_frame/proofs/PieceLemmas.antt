-- Texts in a buffer: reading one, dropping the last ones, appending.
use Rattle.std.proofs.Common.{◌≡◌, ℕ, zero, suc, ◌+◌, ◌-◌, ◌<◌, ◌≤◌, List, [], ◌∷◌, ◌++◌, length, take, drop, get_or, replicate, refl, ap, sym, subst, ◌∙◌, arith, length-append, length-drop}
use Rattle.std.proofs.lemmas.Str.{IsCharBoundary-start, IsCharBoundary-end, IsUtf8-between}
use Rattle.std.proofs.lemmas.List.{length-take-le, get_or_default, take_rest}
use Rattle.std.specs.Prelude.{slice_range}
use Rattle.std.specs.Str.{IsCharBoundary, IsUtf8}
use Rattle.morsel_frame.specs.Pieces.{pieces, ArePieces, moved}
use Rattle.morsel_frame.proofs.RangeLemmas.{range-take, range-append, range-behind, range-moved, length-range, boundary-take, boundary-append, boundary-moved}

-- there is a text for each end
pub length-pieces : (from : ℕ) (ends bytes : List ℕ) → length (pieces from ends bytes) ≡ length ends
length-pieces from [] bytes = refl
length-pieces from (end ∷ ends) bytes = ap suc (length-pieces end ends bytes)

-- a text goes from the end before it to its own
pub get_or-pieces : (from : ℕ) (ends bytes : List ℕ) (at : ℕ) → at < length ends → get_or (pieces from ends bytes) at [] ≡ slice_range bytes (get_or (from ∷ ends) at 0) (get_or ends at 0)
get_or-pieces from [] bytes at within = absurd (omega arith)
get_or-pieces from (end ∷ ends) bytes zero within = refl
get_or-pieces from (end ∷ ends) bytes (suc at) within = get_or-pieces end ends bytes at (omega arith)

-- a text does not end before it begins
pub starts_before : (from : ℕ) (ends bytes : List ℕ) (at : ℕ) → at < length ends → ArePieces from ends bytes → get_or (from ∷ ends) at 0 ≤ get_or ends at 0
starts_before from [] bytes at within are = absurd (omega arith)
starts_before from (end ∷ ends) bytes zero within are = are.0
starts_before from (end ∷ ends) bytes (suc at) within are = starts_before end ends bytes at (omega arith) are.2

-- no text begins before the first
pub rises : (from : ℕ) (ends bytes : List ℕ) (at : ℕ) → at ≤ length ends → ArePieces from ends bytes → from ≤ get_or (from ∷ ends) at 0
rises from ends bytes zero within are = omega arith
rises from [] bytes (suc at) within are = absurd (omega arith)
rises from (end ∷ ends) bytes (suc at) within are =
    let before : end ≤ get_or (end ∷ ends) at 0 = rises end ends bytes at (omega arith) are.2 in omega (arith, are.0)

-- the bytes may be cut where a text ends
pub cut_at_end : (from : ℕ) (ends bytes : List ℕ) (at : ℕ) → at < length ends → ArePieces from ends bytes → IsCharBoundary bytes (get_or ends at 0)
cut_at_end from [] bytes at within are = absurd (omega arith)
cut_at_end from (end ∷ ends) bytes zero within are = are.1
cut_at_end from (end ∷ ends) bytes (suc at) within are = cut_at_end end ends bytes at (omega arith) are.2

-- the bytes may be cut where a text begins
pub cut_at_start : (from : ℕ) (ends bytes : List ℕ) (at : ℕ) → at ≤ length ends → IsCharBoundary bytes from → ArePieces from ends bytes → IsCharBoundary bytes (get_or (from ∷ ends) at 0)
cut_at_start from ends bytes zero within cut are = cut
cut_at_start from ends bytes (suc at) within cut are = cut_at_end from ends bytes at (omega arith) are

-- a text begins within the bytes
pub start_within : (ends bytes : List ℕ) (at : ℕ) → at < length ends → ArePieces 0 ends bytes → get_or (0 ∷ ends) at 0 ≤ length bytes
start_within ends bytes at within are =
    let before = starts_before 0 ends bytes at within are in
    let cut = cut_at_end 0 ends bytes at within are in omega (arith, before, cut.0)

-- where a text ends, and its bytes at the front of all those from where it begins
pub front-piece : (ends bytes : List ℕ) (at begin end : ℕ) → at < length ends → ArePieces 0 ends bytes → begin ≡ get_or (0 ∷ ends) at 0 → end ≡ get_or ends at end → (begin ≤ end) × (end ≤ length bytes) × (take (end - begin) (take (length bytes - begin) (drop begin bytes)) ≡ get_or (pieces 0 ends bytes) at [])
front-piece ends bytes at begin end within are starts read =
    let stops : end ≡ get_or ends at 0 = read ∙ get_or_default ends at end 0 within in
    let before = starts_before 0 ends bytes at within are in
    let cut = cut_at_end 0 ends bytes at within are in (
      omega (arith, before),
      omega (arith, cut.0),
      ap (take (end - begin)) (take_rest bytes begin)
          ∙ ap (λ n. take (n - begin) (drop begin bytes)) stops
          ∙ ap (λ n. take (get_or ends at 0 - n) (drop n bytes)) starts
          ∙ sym (get_or-pieces 0 ends bytes at within),
    )

-- the first texts
pub take-pieces : (from : ℕ) (ends bytes : List ℕ) (n : ℕ) → n ≤ length ends → ArePieces from ends bytes → pieces from (take n ends) (take (get_or (from ∷ ends) n 0) bytes) ≡ take n (pieces from ends bytes)
take-pieces from ends bytes zero within are = refl
take-pieces from [] bytes (suc n) within are = absurd (omega arith)
take-pieces from (end ∷ ends) bytes (suc n) within are =
    let before : end ≤ get_or (end ∷ ends) n 0 = rises end ends bytes n (omega arith) are.2 in
    ap (λ t. t ∷ pieces end (take n ends) (take (get_or (end ∷ ends) n 0) bytes)) (range-take bytes from end (get_or (end ∷ ends) n 0) before)
    ∙ ap (λ ts. slice_range bytes from end ∷ ts) (take-pieces end ends bytes n (omega arith) are.2)

-- what is kept of the first texts is in order
pub take-are_pieces : (from : ℕ) (ends bytes : List ℕ) (n : ℕ) → n ≤ length ends → IsCharBoundary bytes from → ArePieces from ends bytes → ArePieces from (take n ends) (take (get_or (from ∷ ends) n 0) bytes)
take-are_pieces from ends bytes zero within cut are = sym (length-take-le from bytes cut.0)
take-are_pieces from [] bytes (suc n) within cut are = absurd (omega arith)
take-are_pieces from (end ∷ ends) bytes (suc n) within cut are =
    let before : end ≤ get_or (end ∷ ends) n 0 = rises end ends bytes n (omega arith) are.2 in
    let stands = cut_at_start end ends bytes n (omega arith) are.1 are.2 in
    (are.0, boundary-take bytes end (get_or (end ∷ ends) n 0) before stands.0 are.1, take-are_pieces end ends bytes n (omega arith) are.1 are.2)

-- texts, and others after them
pub pieces-append : (from : ℕ) (ends bytes more tail : List ℕ) → ArePieces from ends bytes → pieces from (ends ++ more) (bytes ++ tail) ≡ pieces from ends bytes ++ pieces (length bytes) more (bytes ++ tail)
pieces-append from [] bytes more tail are = ap (λ n. pieces n more (bytes ++ tail)) are
pieces-append from (end ∷ ends) bytes more tail are =
    ap (λ t. t ∷ pieces end (ends ++ more) (bytes ++ tail)) (range-append bytes tail from end are.1.0)
    ∙ ap (λ ts. slice_range bytes from end ∷ ts) (pieces-append end ends bytes more tail are.2)

pub are_pieces-append : (from : ℕ) (ends bytes more tail : List ℕ) → IsUtf8 tail → ArePieces from ends bytes → ArePieces (length bytes) more (bytes ++ tail) → ArePieces from (ends ++ more) (bytes ++ tail)
are_pieces-append from [] bytes more tail text are are_more =
    let P : ℕ → Type 0 = λ n. ArePieces n more (bytes ++ tail) in subst P (sym are) are_more
are_pieces-append from (end ∷ ends) bytes more tail text are are_more =
    (are.0, boundary-append bytes tail end text are.1, are_pieces-append end ends bytes more tail text are.2 are_more)

-- one text more
pub pieces-push : (from : ℕ) (ends bytes text : List ℕ) (end : ℕ) → end ≡ length bytes + length text → ArePieces from ends bytes → pieces from (ends ++ end ∷ []) (bytes ++ text) ≡ pieces from ends bytes ++ text ∷ []
pieces-push from ends bytes text end at_end are =
    pieces-append from ends bytes (end ∷ []) text are
    ∙ ap (λ t. pieces from ends bytes ++ t ∷ []) (range-behind bytes text end at_end)

pub are_pieces-push : (from : ℕ) (ends bytes text : List ℕ) (end : ℕ) → end ≡ length bytes + length text → IsUtf8 text → ArePieces from ends bytes → ArePieces from (ends ++ end ∷ []) (bytes ++ text)
are_pieces-push from ends bytes text end at_end utf8 are =
    let all : end ≡ length (bytes ++ text) = at_end ∙ sym (length-append bytes text) in
    let P : ℕ → Type 0 = λ n. IsCharBoundary (bytes ++ text) n in
    are_pieces-append from ends bytes (end ∷ []) text utf8 are
    (omega arith, subst P (sym all) (IsCharBoundary-end (bytes ++ text)), all)

-- a later text does not begin before an earlier one
pub start_rises : (from : ℕ) (ends bytes : List ℕ) (i j : ℕ) → i ≤ j → j ≤ length ends → ArePieces from ends bytes → get_or (from ∷ ends) i 0 ≤ get_or (from ∷ ends) j 0
start_rises from ends bytes zero j order within are = rises from ends bytes j within are
start_rises from ends bytes (suc i) zero order within are = absurd (omega arith)
start_rises from [] bytes (suc i) (suc j) order within are = absurd (omega arith)
start_rises from (end ∷ ends) bytes (suc i) (suc j) order within are = start_rises end ends bytes i j (omega arith) (omega arith) are.2

-- the texts after the first ones, and the first ones alone
pub drop-pieces : (from : ℕ) (ends bytes : List ℕ) (i : ℕ) → i ≤ length ends → drop i (pieces from ends bytes) ≡ pieces (get_or (from ∷ ends) i 0) (drop i ends) bytes
drop-pieces from ends bytes zero within = refl
drop-pieces from [] bytes (suc i) within = absurd (omega arith)
drop-pieces from (end ∷ ends) bytes (suc i) within = drop-pieces end ends bytes i (omega arith)

pub first-pieces : (from : ℕ) (ends bytes : List ℕ) (n : ℕ) → take n (pieces from ends bytes) ≡ pieces from (take n ends) bytes
first-pieces from ends bytes zero = refl
first-pieces from [] bytes (suc n) = refl
first-pieces from (end ∷ ends) bytes (suc n) = ap (λ ts. slice_range bytes from end ∷ ts) (first-pieces end ends bytes n)

-- a range of texts
pub range-pieces : (from : ℕ) (ends bytes : List ℕ) (i j : ℕ) → i ≤ length ends → slice_range (pieces from ends bytes) i j ≡ pieces (get_or (from ∷ ends) i 0) (slice_range ends i j) bytes
range-pieces from ends bytes i j within =
    ap (take (j - i)) (drop-pieces from ends bytes i within)
    ∙ first-pieces (get_or (from ∷ ends) i 0) (drop i ends) bytes (j - i)

pub drop-are_pieces : (from : ℕ) (ends bytes : List ℕ) (i : ℕ) → i ≤ length ends → ArePieces from ends bytes → ArePieces (get_or (from ∷ ends) i 0) (drop i ends) bytes
drop-are_pieces from ends bytes zero within are = are
drop-are_pieces from [] bytes (suc i) within are = absurd (omega arith)
drop-are_pieces from (end ∷ ends) bytes (suc i) within are = drop-are_pieces end ends bytes i (omega arith) are.2

-- where a text of those after the first ones begins
pub start-drop : (from : ℕ) (ends : List ℕ) (i n j : ℕ) → j ≡ i + n → i ≤ length ends → get_or (get_or (from ∷ ends) i 0 ∷ drop i ends) n 0 ≡ get_or (from ∷ ends) j 0
start-drop from ends zero n j at within = let same : n ≡ j = omega arith in ap (λ m. get_or (from ∷ ends) m 0) same
start-drop from [] (suc i) n j at within = absurd (omega arith)
start-drop from (end ∷ ends) (suc i) n zero at within = absurd (omega arith)
start-drop from (end ∷ ends) (suc i) n (suc j) at within = start-drop end ends i n j (omega arith) (omega arith)

-- ends that do not fall from one place to another, which is the last, and lie between characters
abbrev pub Between : ℕ → List ℕ → ℕ → List ℕ → Type 0
Between from [] to bytes = from ≡ to
Between from (end ∷ ends) to bytes = (from ≤ end) × IsCharBoundary bytes end × Between end ends to bytes

between-first : (from : ℕ) (ends bytes : List ℕ) (n : ℕ) → n ≤ length ends → ArePieces from ends bytes → Between from (take n ends) (get_or (from ∷ ends) n 0) bytes
between-first from ends bytes zero within are = refl
between-first from [] bytes (suc n) within are = absurd (omega arith)
between-first from (end ∷ ends) bytes (suc n) within are = (are.0, are.1, between-first end ends bytes n (omega arith) are.2)

between-order : (from : ℕ) (ends : List ℕ) (to : ℕ) (bytes : List ℕ) → Between from ends to bytes → from ≤ to
between-order from [] to bytes between = omega arith
between-order from (end ∷ ends) to bytes between = let behind = between-order end ends to bytes between.2 in omega (arith, between.0)

-- a range of ends goes from where its first text begins to where its last one ends
pub between-range : (ends bytes : List ℕ) (i j : ℕ) → i ≤ j → j ≤ length ends → ArePieces 0 ends bytes → Between (get_or (0 ∷ ends) i 0) (slice_range ends i j) (get_or (0 ∷ ends) j 0) bytes
between-range ends bytes i j order within are =
    let n_within : j - i ≤ length (drop i ends) = omega (arith, length-drop i ends) in
    let first = between-first (get_or (0 ∷ ends) i 0) (drop i ends) bytes (j - i) n_within (drop-are_pieces 0 ends bytes i (omega arith) are) in
    let P : ℕ → Type 0 = λ to. Between (get_or (0 ∷ ends) i 0) (slice_range ends i j) to bytes in
    subst P (start-drop 0 ends i (j - i) j (omega arith) (omega arith)) first

-- each of them is at a place in it
pub between-at : (from : ℕ) (ends : List ℕ) (to : ℕ) (bytes : List ℕ) (k : ℕ) → k < length ends → Between from ends to bytes → (from ≤ get_or ends k 0) × (get_or ends k 0 ≤ to)
between-at from [] to bytes k within between = absurd (omega arith)
between-at from (end ∷ ends) to bytes zero within between = (between.0, between-order end ends to bytes between.2)
between-at from (end ∷ ends) to bytes (suc k) within between =
    let behind = between-at end ends to bytes k (omega arith) between.2 in (omega (arith, between.0, behind.0), behind.1)

-- texts of a range of bytes, put after others
pub moved-pieces : (front bytes : List ℕ) (begin end base from : ℕ) (ends : List ℕ) → begin ≤ from → end ≤ length bytes → base ≡ length front → Between from ends end bytes → pieces (base + (from - begin)) (moved begin base ends) (front ++ slice_range bytes begin end) ≡ pieces from ends bytes
moved-pieces front bytes begin end base from [] behind within at between = refl
moved-pieces front bytes begin end base from (next ∷ ends) behind within at between =
    let order = between-order next ends end bytes between.2 in
    let later : begin ≤ next = omega (arith, between.0) in
    ap (λ t. t ∷ pieces (base + (next - begin)) (moved begin base ends) (front ++ slice_range bytes begin end))
    (range-moved front bytes begin end base from next behind between.0 order within at)
    ∙ ap (λ ts. slice_range bytes from next ∷ ts) (moved-pieces front bytes begin end base next ends later within at between.2)

pub moved-are_pieces : (front bytes : List ℕ) (begin end base from : ℕ) (ends : List ℕ) → begin ≤ from → end ≤ length bytes → base ≡ length front → Between from ends end bytes → ArePieces (base + (from - begin)) (moved begin base ends) (front ++ slice_range bytes begin end)
moved-are_pieces front bytes begin end base from [] behind within at between =
    let len = length-range bytes begin end within in
    omega (arith, length-append front (slice_range bytes begin end), len, between)
moved-are_pieces front bytes begin end base from (next ∷ ends) behind within at between =
    let order = between-order next ends end bytes between.2 in
    let later : begin ≤ next = omega (arith, between.0) in
    (omega (arith, between.0), boundary-moved front bytes begin end base next later order within at between.1, moved-are_pieces front bytes begin end base next ends later within at between.2)

-- a range of other texts after texts
pub append-range : (ends bytes other_ends others : List ℕ) (i j base : ℕ) → base ≡ length bytes → i ≤ j → j ≤ length other_ends → IsUtf8 others → ArePieces 0 ends bytes → ArePieces 0 other_ends others → pieces 0 (ends ++ moved (get_or (0 ∷ other_ends) i 0) base (slice_range other_ends i j)) (bytes ++ slice_range others (get_or (0 ∷ other_ends) i 0) (get_or (0 ∷ other_ends) j 0)) ≡ pieces 0 ends bytes ++ slice_range (pieces 0 other_ends others) i j
append-range ends bytes other_ends others i j base at order within text are are_others =
    let begin : ℕ = get_or (0 ∷ other_ends) i 0 in
    let end : ℕ = get_or (0 ∷ other_ends) j 0 in
    let stop = cut_at_start 0 other_ends others j within (IsCharBoundary-start others text) are_others in
    let between = between-range other_ends others i j order within are_others in
    let starts : length bytes ≡ base + (begin - begin) = omega arith in
    pieces-append 0 ends bytes (moved begin base (slice_range other_ends i j)) (slice_range others begin end) are
    ∙ ap (λ ts. pieces 0 ends bytes ++ ts)
    (ap (λ n. pieces n (moved begin base (slice_range other_ends i j)) (bytes ++ slice_range others begin end)) starts
    ∙ moved-pieces bytes others begin end base begin (slice_range other_ends i j) (omega arith) stop.0 at between
    ∙ sym (range-pieces 0 other_ends others i j (omega arith)))

pub append-range_are : (ends bytes other_ends others : List ℕ) (i j base : ℕ) → base ≡ length bytes → i ≤ j → j ≤ length other_ends → IsUtf8 others → ArePieces 0 ends bytes → ArePieces 0 other_ends others → ArePieces 0 (ends ++ moved (get_or (0 ∷ other_ends) i 0) base (slice_range other_ends i j)) (bytes ++ slice_range others (get_or (0 ∷ other_ends) i 0) (get_or (0 ∷ other_ends) j 0))
append-range_are ends bytes other_ends others i j base at order within text are are_others =
    let begin : ℕ = get_or (0 ∷ other_ends) i 0 in
    let end : ℕ = get_or (0 ∷ other_ends) j 0 in
    let start = cut_at_start 0 other_ends others i (omega arith) (IsCharBoundary-start others text) are_others in
    let stop = cut_at_start 0 other_ends others j within (IsCharBoundary-start others text) are_others in
    let between = between-range other_ends others i j order within are_others in
    let utf8 = IsUtf8-between others begin end text (start_rises 0 other_ends others i j order within are_others) start stop in
    let starts : base + (begin - begin) ≡ length bytes = omega arith in
    let P : ℕ → Type 0 = λ n. ArePieces n (moved begin base (slice_range other_ends i j)) (bytes ++ slice_range others begin end) in
    are_pieces-append 0 ends bytes (moved begin base (slice_range other_ends i j)) (slice_range others begin end) utf8 are
    (subst P starts (moved-are_pieces bytes others begin end base begin (slice_range other_ends i j) (omega arith) stop.0 at between))

-- empty texts
pub blank-pieces : (n : ℕ) → pieces 0 (replicate n 0) [] ≡ replicate n []
blank-pieces zero = refl
blank-pieces (suc n) = ap (λ ts. [] ∷ ts) (blank-pieces n)

pub blank-are_pieces : (n : ℕ) → ArePieces 0 (replicate n 0) []
blank-are_pieces zero = refl
blank-are_pieces (suc n) = (omega arith, (omega arith, λ inside. absurd (omega arith)), blank-are_pieces n)
