-- A text put after others in a buffer that has room after them.
use Rattle.std.proofs.Common.{◌≡◌, ℕ, ◌+◌, ◌≤◌, sym, subst, arith, List, [], ◌∷◌, ◌++◌, length, length-drop, take, drop}
use Rattle.std.specs.Prelude.{IsUtf8}
use Rattle.std.proofs.lemmas.List.{length-take-le}
use Rattle.std.proofs.lemmas.Str.{IsUtf8-append}
use Rattle.morsel_frame.specs.Pieces.{pieces, ArePieces}
use Rattle.morsel_frame.proofs.PieceLemmas.{pieces-push, are_pieces-push}

-- what the buffer has once the text is put
pub record IsPut (ends more old new text : List ℕ) : Type 0 where
  pub utf8 : IsUtf8 new
  pub are_pieces : ArePieces 0 more new
  pub texts : pieces 0 more new ≡ pieces 0 ends old ++ text ∷ []

pub text_put : (at end from len : ℕ) (ends more old new source : List ℕ) → at ≤ length old → from + len ≤ length source → end ≡ at + len
    → take end new ≡ take at old ++ take len (drop from source) → more ≡ ends ++ end ∷ []
    → IsUtf8 (take at old) → IsUtf8 (take len (drop from source)) → ArePieces 0 ends (take at old)
    → IsPut ends more (take at old) (take end new) (take len (drop from source))
text_put at end from len ends more old new source within inside is written is_more utf8 text are =
    let part = take len (drop from source) in
    let front = take at old in
    let size : end ≡ length front + length part =
    omega (arith, is, length-take-le at old within, length-take-le len (drop from source) (omega (arith, length-drop from source))) in
    subst (λ (xs : List ℕ). IsPut ends xs front (take end new) part) (sym is_more)
    (subst (λ (xs : List ℕ). IsPut ends (ends ++ end ∷ []) front xs part) (sym written)
    (record {
      utf8 = IsUtf8-append front part utf8 text;
      are_pieces = are_pieces-push 0 ends front part end size text are;
      texts = pieces-push 0 ends front part end size are;
    }))
