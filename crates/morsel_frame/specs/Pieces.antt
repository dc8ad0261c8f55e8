-- How a text buffer keeps its texts: their bytes one after another, and the place where each ends.
use Rattle.std.specs.Prelude.{◌≡◌, ℕ, ◌+◌, ◌-◌, ◌≤◌, List, [], ◌∷◌, length, map, slice_range}
use Rattle.std.specs.Str.{IsCharBoundary}

-- the texts that end at these places
abbrev pub pieces : ℕ → List ℕ → List ℕ → List (List ℕ)
pieces from [] bytes = []
pieces from (end ∷ ends) bytes = slice_range bytes from end ∷ pieces end ends bytes

-- the ends do not fall, lie between characters, and the last is the end of the bytes
abbrev pub ArePieces : ℕ → List ℕ → List ℕ → Type 0
ArePieces from [] bytes = from ≡ length bytes
ArePieces from (end ∷ ends) bytes = (from ≤ end) × IsCharBoundary bytes end × ArePieces end ends bytes

-- ends that are moved, so that an end at `from` comes to `base`
abbrev pub moved : ℕ → ℕ → List ℕ → List ℕ
moved from base ends = map (λ end. base + (end - from)) ends
