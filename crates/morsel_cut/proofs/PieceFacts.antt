-- Pieces of worked texts that come in chunks.
use Rattle.std.proofs.Common.{◌≡◌, refl}
use Rattle.std.specs.Prelude.{List, ℕ, [], ◌∷◌, codes}
use Rattle.morsel_grammar.specs.Dialect.{standard}
use Rattle.morsel_cut.specs.Pieces.{cut_pieces, cut_rest, cut_texts, texts_unmarked, rest_begins}

-- a chunk with two ends, one that ends the record begun in it, and one without an end
abbrev lines : List (List ℕ)
lines = codes "a\nb\n1" ∷ codes "2\n" ∷ codes "3" ∷ []

pub pieces-lines : cut_pieces standard lines ≡ codes "a\nb\n" ∷ codes "12\n" ∷ []
pieces-lines = refl

pub rest-lines : cut_rest standard lines ≡ codes "3"
rest-lines = refl

-- an eol byte in quotes is no end, though its chunk ends there
pub texts-quoted : cut_texts standard (codes "\"\n" ∷ codes "\"\na" ∷ []) ≡ codes "\"\n\"\n" ∷ codes "a" ∷ []
texts-quoted = refl

-- the mark, in two chunks, stands in the first piece
pub texts-marked : texts_unmarked (cut_texts standard ((239 ∷ 187 ∷ []) ∷ (191 ∷ codes "a\n") ∷ codes "b" ∷ [])) ≡ codes "a\n" ∷ codes "b" ∷ []
texts-marked = refl

-- without a piece, the mark stands in the rest
abbrev marked : List (List ℕ)
marked = (239 ∷ 187 ∷ []) ∷ (191 ∷ codes "a") ∷ []

pub rest-marked : rest_begins (cut_pieces standard marked) (cut_rest standard marked) ≡ 3
rest-marked = refl
