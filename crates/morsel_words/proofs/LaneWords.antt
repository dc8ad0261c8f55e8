-- The three words of a lane, after one of them is set.
use Rattle.std.proofs.Common.{◌≡◌, ℕ, List, [], ◌∷◌, length, set, get_or, refl, arith}

pub set_state : (ws : List ℕ) (n : ℕ) → length ws ≡ 3 → (length (set ws 0 n) ≡ 3) × (get_or (set ws 0 n) 0 0 ≡ n) × (get_or (set ws 0 n) 1 0 ≡ get_or ws 1 0) × (get_or (set ws 0 n) 2 0 ≡ get_or ws 2 0)
set_state [] n e = absurd (omega arith)
set_state (a ∷ ws) n e = (e, refl, refl, refl)

pub set_send_wait : (ws : List ℕ) (n : ℕ) → length ws ≡ 3 → (length (set ws 1 n) ≡ 3) × (get_or (set ws 1 n) 0 0 ≡ get_or ws 0 0) × (get_or (set ws 1 n) 1 0 ≡ n) × (get_or (set ws 1 n) 2 0 ≡ get_or ws 2 0)
set_send_wait [] n e = absurd (omega arith)
set_send_wait (a ∷ []) n e = absurd (omega arith)
set_send_wait (a ∷ b ∷ ws) n e = (e, refl, refl, refl)

pub set_take_wait : (ws : List ℕ) (n : ℕ) → length ws ≡ 3 → (length (set ws 2 n) ≡ 3) × (get_or (set ws 2 n) 0 0 ≡ get_or ws 0 0) × (get_or (set ws 2 n) 1 0 ≡ get_or ws 1 0) × (get_or (set ws 2 n) 2 0 ≡ n)
set_take_wait [] n e = absurd (omega arith)
set_take_wait (a ∷ []) n e = absurd (omega arith)
set_take_wait (a ∷ b ∷ []) n e = absurd (omega arith)
set_take_wait (a ∷ b ∷ c ∷ ws) n e = (e, refl, refl, refl)
