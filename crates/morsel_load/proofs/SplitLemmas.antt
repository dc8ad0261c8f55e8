-- The pieces into which rows are cut stand without gaps, and have their rows.
use Rattle.std.proofs.Common.{◌≡◌, ℕ, zero, suc, ◌+◌, ◌-◌, ◌<◌, ◌≤◌, min, ltb, [], ◌∷◌, refl, sym, ap, ◌∙◌, subst, ◌⊎◌, inl, inr, arith}
use Rattle.std.proofs.lemmas.Bool.{lt-ltb, le-ltb, cases_lt, cond-true, cond-false}
use Rattle.morsel_load.specs.Splits.{pieces_up_to, pieces_from, StandWithoutGaps, HaveLengths}

-- a piece's rows: so many, or what is left
piece_len : (rows left : ℕ) → ((rows ≤ left) × (min rows left ≡ rows)) ⊎ ((left < rows) × (min rows left ≡ left))
piece_len rows left = elim (cases_lt left rows) [ inl short ↦ inr (short, omega arith) | inr enough ↦ inl (enough, omega arith) ]

-- one piece, and then those from its end on
step : (n height rows at : ℕ) → at < height → pieces_up_to (suc n) height rows at ≡ (at, min rows (height - at)) ∷ pieces_up_to n height rows (at + min rows (height - at))
step n height rows at below = cond-true (ltb at height) _ _ (lt-ltb at height below)

-- none where all is given
none : (n height rows at : ℕ) → height ≤ at → pieces_up_to n height rows at ≡ []
none zero height rows at past = refl
none (suc n) height rows at past = cond-false (ltb at height) _ _ (le-ltb at height past)

-- more pieces than rows make no difference
enough : (m n height rows at : ℕ) → 0 < rows → height - at ≤ m → height - at ≤ n → pieces_up_to m height rows at ≡ pieces_up_to n height rows at
enough zero n height rows at some all_m all_n = sym (none n height rows at (omega arith))
enough (suc m) zero height rows at some all_m all_n = none (suc m) height rows at (omega arith)
enough (suc m) (suc n) height rows at some all_m all_n = elim (cases_lt at height) [
  | inl below ↦
      let len = piece_len rows (height - at) in
      let later : pieces_up_to m height rows (at + min rows (height - at)) ≡ pieces_up_to n height rows (at + min rows (height - at)) = elim len [
        | inl full ↦ let is = full.1 in let least = full.0 in enough m n height rows (at + min rows (height - at)) some (omega arith) (omega arith)
        | inr short ↦ let is = short.1 in enough m n height rows (at + min rows (height - at)) some (omega arith) (omega arith)
      ] in
      step m height rows at below ∙ ap (λ ps. (at, min rows (height - at)) ∷ ps) later ∙ sym (step n height rows at below)
  | inr past ↦ none (suc m) height rows at past ∙ sym (none (suc n) height rows at past)
]

stand : (n height rows at : ℕ) → 0 < rows → at ≤ height → height - at ≤ n → StandWithoutGaps at (pieces_up_to n height rows at) height
stand zero height rows at some within all = let end : at ≡ height = omega arith in end
stand (suc n) height rows at some within all = elim (cases_lt at height) [
  | inl below ↦
      let len = piece_len rows (height - at) in
      let later : StandWithoutGaps (at + min rows (height - at)) (pieces_up_to n height rows (at + min rows (height - at))) height = elim len [
        | inl full ↦ let is = full.1 in let least = full.0 in stand n height rows (at + min rows (height - at)) some (omega arith) (omega arith)
        | inr short ↦ let is = short.1 in stand n height rows (at + min rows (height - at)) some (omega arith) (omega arith)
      ] in
      let positive : 0 < min rows (height - at) = elim len [ inl full ↦ let is = full.1 in omega arith | inr short ↦ let is = short.1 in omega arith ] in
      subst (λ ps. StandWithoutGaps at ps height) (sym (step n height rows at below)) (refl, positive, later)
  | inr past ↦ subst (λ ps. StandWithoutGaps at ps height) (sym (none (suc n) height rows at past)) (let end : at ≡ height = omega arith in end)
]

-- a piece that is not the last has all its rows
with_piece : (n height rows at from len : ℕ) → len ≤ rows → (at < height → len ≡ rows) → HaveLengths rows (pieces_up_to n height rows at) → HaveLengths rows ((from, len) ∷ pieces_up_to n height rows at)
with_piece zero height rows at from len most full have = most
with_piece (suc n) height rows at from len most full have = elim (cases_lt at height) [
  | inl below ↦
      let is = step n height rows at below in
      subst (λ ps. HaveLengths rows ((from, len) ∷ ps)) (sym is) (full below, subst (HaveLengths rows) is have)
  | inr past ↦ subst (λ ps. HaveLengths rows ((from, len) ∷ ps)) (sym (none (suc n) height rows at past)) most
]

have_rows : (n height rows at : ℕ) → 0 < rows → HaveLengths rows (pieces_up_to n height rows at)
have_rows zero height rows at some = tt
have_rows (suc n) height rows at some = elim (cases_lt at height) [
  | inl below ↦
      let len = piece_len rows (height - at) in
      let most : min rows (height - at) ≤ rows = elim len [ inl full ↦ let is = full.1 in omega arith | inr short ↦ let is = short.1 in let less = short.0 in omega arith ] in
      let full : at + min rows (height - at) < height → min rows (height - at) ≡ rows = λ more. elim len [ inl full ↦ full.1 | inr short ↦ let is = short.1 in absurd (omega arith) ] in
      subst (HaveLengths rows) (sym (step n height rows at below)) (with_piece n height rows (at + min rows (height - at)) at (min rows (height - at)) most full (have_rows n height rows (at + min rows (height - at)) some))
  | inr past ↦ subst (HaveLengths rows) (sym (none (suc n) height rows at past)) tt
]

pub pieces_stand : (height rows : ℕ) → 0 < rows → StandWithoutGaps 0 (pieces_from height rows 0) height
unfolding pieces_from
pieces_stand height rows some = stand (height - 0) height rows 0 some (omega arith) (omega arith)

pub pieces_have : (height rows at : ℕ) → 0 < rows → HaveLengths rows (pieces_from height rows at)
unfolding pieces_from
pieces_have height rows at some = have_rows (height - at) height rows at some

pub pieces_none : (height rows at : ℕ) → height ≤ at → pieces_from height rows at ≡ []
unfolding pieces_from
pieces_none height rows at past = none (height - at) height rows at past

pub pieces_next : (height rows at : ℕ) → 0 < rows → at < height → pieces_from height rows at ≡ (at, min rows (height - at)) ∷ pieces_from height rows (at + min rows (height - at))
unfolding pieces_from
pieces_next height rows at some below =
    enough (height - at) (suc (height - at)) height rows at some (omega arith) (omega arith)
    ∙ step (height - at) height rows at below
    ∙ ap (λ ps. (at, min rows (height - at)) ∷ ps) (elim (piece_len rows (height - at)) [
      | inl full ↦ let is = full.1 in let least = full.0 in enough (height - at) (height - (at + min rows (height - at))) height rows (at + min rows (height - at)) some (omega arith) (omega arith)
      | inr short ↦ let is = short.1 in enough (height - at) (height - (at + min rows (height - at))) height rows (at + min rows (height - at)) some (omega arith) (omega arith)
    ])
