-- The bytes between two places of all files, where the later one moves on within a file.
use Rattle.std.proofs.Common.{◌≡◌, ℕ, zero, suc, ◌+◌, ◌-◌, ◌<◌, ◌≤◌, ap, sym, subst, refl, ◌∙◌, inl, inr, arith}
use Rattle.std.proofs.lemmas.List.{take_all, length-drop}
use Rattle.std.proofs.lemmas.List.Sums.{sum_by-cons}
use Rattle.std.proofs.lemmas.Str.{IsUtf8-append, IsUtf8-nil}
use Rattle.std.specs.Prelude.{◌⊎◌, Some, List, [], ◌∷◌, length, take, drop, get_or, slice_get, slice_range, IsUtf8}
use Rattle.std.specs.List.{sum_by}
use Rattle.morsel_scan.specs.CsvPieces.{bytes_between}
use Rattle.morsel_scan.proofs.RowStretchLemmas.{slice-append}

-- a file before another ends where that one begins, or before
earlier_ends : (files : List (List ℕ)) (number source : ℕ) (bytes : List ℕ) → number < source → slice_get files source ≡ Some bytes
    → sum_by length (take number files) + length (get_or files number []) ≤ sum_by length (take source files)
earlier_ends [] number source bytes less is = absurd (cc)
earlier_ends (first ∷ files) number zero bytes less is = absurd (omega (arith, less))
earlier_ends (first ∷ files) zero (suc m) bytes less is = let one = sum_by-cons length first (take m files) in omega (arith, one)
earlier_ends (first ∷ files) (suc n) (suc m) bytes less is =
    let more = earlier_ends files n m bytes (omega (arith, less)) is in
    let one = sum_by-cons length first (take n files) in
    let two = sum_by-cons length first (take m files) in
    omega (arith, more, one, two)

-- a file after another begins where that one ends, or later
later_begins : (files : List (List ℕ)) (number source : ℕ) (bytes : List ℕ) → source < number → slice_get files source ≡ Some bytes
    → sum_by length (take source files) + length bytes ≤ sum_by length (take number files)
later_begins [] number source bytes less is = absurd (cc)
later_begins (first ∷ files) zero source bytes less is = absurd (omega (arith, less))
later_begins (first ∷ files) (suc n) zero bytes less is =
    let same : length bytes ≡ length first = cc in
    let one = sum_by-cons length first (take n files) in
    omega (arith, same, one)
later_begins (first ∷ files) (suc n) (suc m) bytes less is =
    let more = later_begins files n m bytes (omega (arith, less)) is in
    let one = sum_by-cons length first (take n files) in
    let two = sum_by-cons length first (take m files) in
    omega (arith, more, one, two)

order : (a b : ℕ) → (a < b) ⊎ (a ≡ b) ⊎ (b < a)
order zero zero = inr (inl refl)
order zero (suc b) = inl (omega arith)
order (suc a) zero = inr (inr (omega arith))
order (suc a) (suc b) = on (order a b)
  where
    on : (a < b) ⊎ (a ≡ b) ⊎ (b < a) → (suc a < suc b) ⊎ (suc a ≡ suc b) ⊎ (suc b < suc a)
    on (inl less) = inl (omega (arith, less))
    on (inr (inl same)) = inr (inl (ap suc same))
    on (inr (inr more)) = inr (inr (omega (arith, more)))

get_is : (files : List (List ℕ)) (source : ℕ) (bytes : List ℕ) → slice_get files source ≡ Some bytes → get_or files source [] ≡ bytes
get_is [] source bytes is = absurd (cc)
get_is (first ∷ files) zero bytes is = cc
get_is (first ∷ files) (suc n) bytes is = get_is files n bytes is

slice_past : (bytes : List ℕ) (from to later : ℕ) → length bytes ≤ to → to ≤ later → slice_range bytes from to ≡ slice_range bytes from later
slice_past bytes from to later past order =
    let size = length-drop from bytes in
    take_all (to - from) (drop from bytes) (omega (arith, size)) ∙ sym (take_all (later - from) (drop from bytes) (omega (arith, size)))

-- what is between two places is UTF-8 up to a later one in the same file, where what is between them is
pub between_further : (files : List (List ℕ)) (source : ℕ) (bytes : List ℕ) (before from mid to : ℕ) → slice_get files source ≡ Some bytes → before ≡ sum_by length (take source files)
    → from ≤ mid → before ≤ mid → mid ≤ to → to ≤ before + length bytes → ((number : ℕ) → IsUtf8 (bytes_between files number from mid))
    → IsUtf8 (slice_range bytes (mid - before) (to - before)) → (number : ℕ) → IsUtf8 (bytes_between files number from to)
between_further files source bytes before from mid to is before_is low within high over utf8 more = λ number. by number (order number source)
  where
    P : List ℕ → Type 0
    P x = IsUtf8 x

    by : (number : ℕ) → (number < source) ⊎ (number ≡ source) ⊎ (source < number) → IsUtf8 (bytes_between files number from to)
    by number (inl less) =
        let ends = earlier_ends files number source bytes less is in
        let start : ℕ = sum_by length (take number files) in
        subst P (slice_past (get_or files number []) (from - start) (mid - start) (to - start) (omega (arith, ends, before_is, within)) (omega (arith, high))) (utf8 number)
    by number (inr (inl same)) =
        let here : List ℕ = get_or files source [] in
        let there : here ≡ bytes = get_is files source bytes is in
        let start : ℕ = sum_by length (take source files) in
        let first : IsUtf8 (slice_range bytes (from - start) (mid - start)) = subst (λ (x : List ℕ). IsUtf8 (slice_range x (from - start) (mid - start))) there (utf8 source) in
        let second : IsUtf8 (slice_range bytes (mid - start) (to - start)) = subst (λ k. IsUtf8 (slice_range bytes (mid - k) (to - k))) before_is more in
        let all : IsUtf8 (slice_range bytes (from - start) (to - start)) =
        subst P (slice-append bytes (from - start) (mid - start) (to - start) (omega (arith, low)) (omega (arith, high)))
        (IsUtf8-append (slice_range bytes (from - start) (mid - start)) (slice_range bytes (mid - start) (to - start)) first second) in
        subst (λ k. IsUtf8 (bytes_between files k from to)) (sym same) (subst (λ (x : List ℕ). IsUtf8 (slice_range x (from - start) (to - start))) (sym there) all)
    by number (inr (inr later)) =
        let begins = later_begins files number source bytes later is in
        let start : ℕ = sum_by length (take number files) in
        let none : to - start - (from - start) ≡ 0 = omega (arith, begins, before_is, over) in
        subst (λ k. IsUtf8 (take k (drop (from - start) (get_or files number [])))) (sym none) IsUtf8-nil
