-- Ranges of lists, and of texts where they may be cut.
use Rattle.std.proofs.Common.{◌≡◌, ℕ, ◌+◌, ◌-◌, ◌<◌, ◌≤◌, List, ◌++◌, length, take, drop, get_or, rules, refl, ap, sym, subst, inl, inr, ◌∙◌, arith, length-append, length-drop, length-take, map}
use Rattle.std.proofs.lemmas.List.{take-take, drop_at, take_all, take-append-le, get_or-take, get_or_append_left, map-append, take-map, drop-map, same_lists, places}
use Rattle.std.proofs.lemmas.Slice.{between_is}
use Rattle.std.proofs.lemmas.Str.{IsCharBoundary-at_seam}
use Rattle.std.proofs.lemmas.Bool.{cases_lt}
use Rattle.std.proofs.lemmas.Result.{on_ok_weaker}
use Rattle.std.specs.Prelude.{Result, OnOk, slice_range}
use Rattle.std.specs.Str.{IsCharBoundary, IsUtf8}

-- a range of what was cut after it
pub range-take : {X : Type 0} (xs : List X) (i j n : ℕ) → j ≤ n → slice_range (take n xs) i j ≡ slice_range xs i j
range-take xs i j n within =
    between_is (take n xs) i j ∙ ap (drop i) (take-take j n xs within) ∙ sym (between_is xs i j)

-- a range of the front
pub range-append : {X : Type 0} (xs ys : List X) (i j : ℕ) → j ≤ length xs → slice_range (xs ++ ys) i j ≡ slice_range xs i j
range-append xs ys i j within =
    between_is (xs ++ ys) i j ∙ ap (drop i) (take-append-le j xs ys within) ∙ sym (between_is xs i j)

-- the whole of what follows the front
pub range-behind : {X : Type 0} (xs ys : List X) (j : ℕ) → j ≡ length xs + length ys → slice_range (xs ++ ys) (length xs) j ≡ ys
range-behind xs ys j all =
    ap (take (j - length xs)) (drop_at xs ys (length xs) refl) ∙ take_all (j - length xs) ys (omega arith)

-- a range of what a function gives, put after what it gives
pub range-map : {X Y : Type 0} (f : X → Y) (xs ys : List X) (i j : ℕ) → map f (xs ++ slice_range ys i j) ≡ map f xs ++ slice_range (map f ys) i j
range-map f xs ys i j =
    map-append f xs (slice_range ys i j)
    ∙ ap (λ zs. map f xs ++ zs) (sym (take-map f (j - i) (drop i ys)) ∙ ap (take (j - i)) (sym (drop-map f i ys)))

-- the same after a call that may fail
pub kept_range : {X Y T E : Type 0} (f : X → Y) (r : Result T E) (new old others : List X) (i j : ℕ) → OnOk r (new ≡ old ++ slice_range others i j) → OnOk r (map f new ≡ map f old ++ slice_range (map f others) i j)
kept_range f r new old others i j appended =
    on_ok_weaker r (λ (e : new ≡ old ++ slice_range others i j). ap (map f) e ∙ range-map f old others i j) appended

-- a text that was cut at a place may be cut where it could be before it
pub boundary-take : (bytes : List ℕ) (at n : ℕ) → at ≤ n → n ≤ length bytes → IsCharBoundary bytes at → IsCharBoundary (take n bytes) at
boundary-take bytes at n before within cut =
    let len : length (take n bytes) ≡ n = length-take n bytes ∙ omega arith in (
      omega arith,
      λ l wide. let same : get_or (take n bytes) at 0 ≡ get_or bytes at 0 = get_or-take n bytes at 0 (omega arith) in
          let wide_before : 128 ≤ get_or bytes at 0 = omega arith in
          let lead : 192 ≤ get_or bytes at 0 = cut.1 (omega arith) wide_before in omega arith,
    )

-- a text may be cut where its front may
pub boundary-append : (bytes tail : List ℕ) (at : ℕ) → IsUtf8 tail → IsCharBoundary bytes at → IsCharBoundary (bytes ++ tail) at
boundary-append bytes tail at text cut = elim (cases_lt at (length bytes)) as (λ _. IsCharBoundary (bytes ++ tail) at) [
  | inl inside ↦ (
    omega (arith, length-append bytes tail),
    λ _ wide.
        let same : get_or (bytes ++ tail) at 0 ≡ get_or bytes at 0 = get_or_append_left bytes tail 0 at inside in
        let wide_before : 128 ≤ get_or bytes at 0 = omega arith in
        let lead : 192 ≤ get_or bytes at 0 = cut.1 inside wide_before in omega arith,
  )
  | inr behind ↦
      let all : length bytes ≡ at = omega arith in
      let P : ℕ → Type 0 = λ n. IsCharBoundary (bytes ++ tail) n in
      subst P all (IsCharBoundary-at_seam (bytes ++ tail) bytes tail refl text)
]

pub length-range : {X : Type 0} (xs : List X) (i j : ℕ) → j ≤ length xs → length (slice_range xs i j) ≡ j - i
length-range xs i j within = length-take (j - i) (drop i xs) ∙ omega (arith, length-drop i xs)

-- a range of a range that follows a front
pub range-moved : {X : Type 0} (front xs : List X) (begin end base i j : ℕ) → begin ≤ i → i ≤ j → j ≤ end → end ≤ length xs → base ≡ length front → slice_range (front ++ slice_range xs begin end) (base + (i - begin)) (base + (j - begin)) ≡ slice_range xs i j
range-moved front xs begin end base i j behind order before within at =
    same_lists _ _ (search (rules, places)) (λ k d h. grind (arith, places))

-- the byte at a place of a range that follows a front
pub get_or-moved : (front xs : List ℕ) (begin end base i : ℕ) → begin ≤ i → i < end → end ≤ length xs → base ≡ length front → get_or (front ++ slice_range xs begin end) (base + (i - begin)) 0 ≡ get_or xs i 0
get_or-moved front xs begin end base i behind before within at = grind (arith, places)

-- a place where the bytes may be cut, in such a range
pub boundary-moved : (front bytes : List ℕ) (begin end base at : ℕ) → begin ≤ at → at ≤ end → end ≤ length bytes → base ≡ length front → IsCharBoundary bytes at → IsCharBoundary (front ++ slice_range bytes begin end) (base + (at - begin))
boundary-moved front bytes begin end base at behind before within placed cut =
    let len = length-append front (slice_range bytes begin end) in
    let range = length-range bytes begin end within in (
      omega (arith, len, range),
      λ inside wide.
          let at_before : at < end = omega (arith, len, range) in
          let same = get_or-moved front bytes begin end base at behind at_before within placed in
          let wide_before : 128 ≤ get_or bytes at 0 = omega arith in
          let lead : 192 ≤ get_or bytes at 0 = cut.1 (omega arith) wide_before in omega arith,
    )
