-- Sinks that gain pieces: pieces one after another are one piece.
use Rattle.std.specs.Prelude.{◌≡◌, ℕ, Option, Some, None, List, [], ◌∷◌, ◌++◌, refl}
use Rattle.std.proofs.Common.{ap, append_assoc, append-nil}
use Rattle.morsel_outside.specs.Outside.{Sink, with_piece, with_sink, append_last}

append_last-append_last : (sinks : List Sink) (a b : List ℕ) → append_last (append_last sinks a) b ≡ append_last sinks (a ++ b)
append_last-append_last [] a b = refl
append_last-append_last (sink ∷ []) a b = ap (λ t. record { name = sink.name; text = t } ∷ []) (append_assoc sink.text a b)
append_last-append_last (sink ∷ next ∷ []) a b = ap (λ ss. sink ∷ ss) (append_last-append_last (next ∷ []) a b)
append_last-append_last (sink ∷ next ∷ more ∷ sinks) a b = ap (λ ss. sink ∷ ss) (append_last-append_last (next ∷ more ∷ sinks) a b)

-- a piece, and then another
pub with_piece-with_piece : (made : Option (List Sink)) (a b : List ℕ) → with_piece (with_piece made a) b ≡ with_piece made (a ++ b)
with_piece-with_piece None a b = refl
with_piece-with_piece (Some sinks) a b = ap Some (append_last-append_last sinks a b)

append_last-nil : (sinks : List Sink) → append_last sinks [] ≡ sinks
append_last-nil [] = refl
append_last-nil (sink ∷ []) = ap (λ t. record { name = sink.name; text = t } ∷ []) (append-nil sink.text)
append_last-nil (sink ∷ next ∷ sinks) = ap (λ ss. sink ∷ ss) (append_last-nil (next ∷ sinks))

-- an empty piece
pub with_piece-nil : (made : Option (List Sink)) → with_piece made [] ≡ made
with_piece-nil None = refl
with_piece-nil (Some sinks) = ap Some (append_last-nil sinks)

append_last-made : (sinks : List Sink) (name text : List ℕ) → append_last (sinks ++ record { name = name; text = [] } ∷ []) text ≡ sinks ++ record { name = name; text = text } ∷ []
append_last-made [] name text = refl
append_last-made (sink ∷ []) name text = refl
append_last-made (sink ∷ next ∷ sinks) name text = ap (λ ss. sink ∷ ss) (append_last-made (next ∷ sinks) name text)

-- a sink that was made empty and then written
pub with_piece-with_sink : (made : Option (List Sink)) (name text : List ℕ) → with_piece (with_sink made name []) text ≡ with_sink made name text
with_piece-with_sink None name text = refl
with_piece-with_sink (Some sinks) name text = ap Some (append_last-made sinks name text)
