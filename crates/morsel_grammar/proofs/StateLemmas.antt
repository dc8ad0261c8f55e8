-- Any machine over bytes: its state and its last place, over a text in two parts.
use Rattle.std.proofs.Common.{◌≡◌, ◌≢◌, ℕ, zero, suc, ◌+◌, ◌≤◌, ap, refl, ◌∙◌, arith}
use Rattle.std.specs.Prelude.{Bool, true, false, List, [], ◌∷◌, ◌++◌, length, take, drop}
use Rattle.morsel_grammar.specs.Machine.{state_after, place_or_later, last_place, joined_place}
use Rattle.morsel_grammar.specs.Cuts.{PassesParts, JoinsPlaces, StaysWithin, HoldsAtLast, HoldsNotLater}

pub state_after-append : {S : Type 0} (step : S → ℕ → S) (s : S) (front back : List ℕ)
    → state_after step s (front ++ back) ≡ state_after step (state_after step s front) back
state_after-append step s [] back = refl
state_after-append step s (b ∷ front) back = state_after-append step (step s b) front back

joined_nothing : (n : ℕ) → n ≡ joined_place 0 0 n
joined_nothing zero = refl
joined_nothing (suc n) = omega arith

joined_byte : (here : Bool) (before n later : ℕ) → place_or_later here (joined_place before n later) ≡ joined_place (place_or_later here before) (suc n) later
joined_byte here before n zero = refl
joined_byte here before n (suc later) =
    let e : n + suc later ≡ suc (n + later) = omega arith in
    let d : suc (suc (n + later)) ≡ suc n + suc later = omega arith in
    ap (place_or_later here) e ∙ d

pub last_place-append : {S : Type 0} (step : S → ℕ → S) (test : S → Bool) (s : S) (front back : List ℕ)
    → last_place step test s (front ++ back) ≡ joined_place (last_place step test s front) (length front) (last_place step test (state_after step s front) back)
last_place-append step test s [] back = joined_nothing (last_place step test s back)
last_place-append step test s (b ∷ front) back =
    ap (place_or_later (test (step s b))) (last_place-append step test (step s b) front back)
    ∙ joined_byte (test (step s b)) (last_place step test (step s b) front) (length front) (last_place step test (state_after step (step s b) front) back)

later_within : (here : Bool) (later n : ℕ) → later ≤ n → place_or_later here later ≤ suc n
later_within true zero n within = omega arith
later_within false zero n within = omega arith
later_within here (suc later) n within = omega arith

pub last_place-within : {S : Type 0} (step : S → ℕ → S) (test : S → Bool) (s : S) (bytes : List ℕ) → last_place step test s bytes ≤ length bytes
last_place-within step test s [] = omega arith
last_place-within step test s (b ∷ bs) = later_within (test (step s b)) (last_place step test (step s b) bs) (length bs) (last_place-within step test (step s b) bs)

-- the test holds after so many bytes, unless that is none
abbrev HoldsAfter : {S : Type 0} → (S → ℕ → S) → (S → Bool) → S → List ℕ → ℕ → Type 0
HoldsAfter step test s bytes n = n ≢ 0 → test (state_after step s (take n bytes)) ≡ true

holds_after_byte : {S : Type 0} (step : S → ℕ → S) (test : S → Bool) (s : S) (b : ℕ) (bs : List ℕ) (here : Bool) (later : ℕ) → test (step s b) ≡ here
    → HoldsAfter step test (step s b) bs later → HoldsAfter step test s (b ∷ bs) (place_or_later here later)
holds_after_byte step test s b bs true zero is holds = λ some. is
holds_after_byte step test s b bs false zero is holds = λ some. absurd (some refl)
holds_after_byte step test s b bs here (suc later) is holds = λ some. holds (λ none. cc)

pub last_place-holds : {S : Type 0} (step : S → ℕ → S) (test : S → Bool) (s : S) (bytes : List ℕ) → HoldsAfter step test s bytes (last_place step test s bytes)
last_place-holds step test s [] = λ some. absurd (some refl)
last_place-holds step test s (b ∷ bs) =
    holds_after_byte step test s b bs (test (step s b)) (last_place step test (step s b) bs) refl (last_place-holds step test (step s b) bs)

-- no place is found after so many bytes
abbrev HasNoneAfter : {S : Type 0} → (S → ℕ → S) → (S → Bool) → S → List ℕ → ℕ → Type 0
HasNoneAfter step test s bytes n = last_place step test (state_after step s (take n bytes)) (drop n bytes) ≡ 0

none_after_byte : {S : Type 0} (step : S → ℕ → S) (test : S → Bool) (s : S) (b : ℕ) (bs : List ℕ) (here : Bool) (later : ℕ) → test (step s b) ≡ here
    → last_place step test (step s b) bs ≡ later → HasNoneAfter step test (step s b) bs later → HasNoneAfter step test s (b ∷ bs) (place_or_later here later)
none_after_byte step test s b bs true zero is found none = found
none_after_byte step test s b bs false zero is found none = rw (found, is) refl
none_after_byte step test s b bs here (suc later) is found none = none

pub last_place-none_later : {S : Type 0} (step : S → ℕ → S) (test : S → Bool) (s : S) (bytes : List ℕ) → HasNoneAfter step test s bytes (last_place step test s bytes)
last_place-none_later step test s [] = refl
last_place-none_later step test s (b ∷ bs) =
    none_after_byte step test s b bs (test (step s b)) (last_place step test (step s b) bs) refl refl (last_place-none_later step test (step s b) bs)

pub passes_parts : {S : Type 0} (step : S → ℕ → S) → PassesParts step
passes_parts step = λ s front back. state_after-append step s front back

pub joins_places : {S : Type 0} (step : S → ℕ → S) → JoinsPlaces step
joins_places step = λ test s front back. last_place-append step test s front back

pub stays_within : {S : Type 0} (step : S → ℕ → S) → StaysWithin step
stays_within step = λ test s bytes. last_place-within step test s bytes

pub holds_at_last : {S : Type 0} (step : S → ℕ → S) → HoldsAtLast step
holds_at_last step = λ test s bytes some. last_place-holds step test s bytes some

pub holds_not_later : {S : Type 0} (step : S → ℕ → S) → HoldsNotLater step
holds_not_later step = λ test s bytes. last_place-none_later step test s bytes
