-- Where the search for a text begins.
use Rattle.std.specs.Prelude.{◌+◌, ◌-◌, ◌*◌, ◌/◌, ◌%◌, ◌^◌, ℕ, zero, suc, nat_lt, if◌then◌else◌, List, [], ◌∷◌, length, slice_index, bit_xor}
use Rattle.std.specs.Int.{from_le_bytes, w32, w64}
use Rattle.morsel_keys.specs.Slots.{IsIndexed, HasKeysEachOnce}
use Rattle.morsel_keys.specs.Words.{spread_of}

-- a state with a word mixed in
unfoldable pub mix_of : ℕ → ℕ → ℕ
mix_of state word = bit_xor (bit_xor state word * 11400714819323198485 % 2 ^ 64) (bit_xor state word * 11400714819323198485 % 2 ^ 64 / 2 ^ 32)

-- eight bytes of a text as a word
abbrev pub eight_at : List ℕ → ℕ → ℕ
eight_at bytes at = from_le_bytes w64 (slice_index bytes at ∷ slice_index bytes (at + 1) ∷ slice_index bytes (at + 2) ∷ slice_index bytes (at + 3) ∷ slice_index bytes (at + 4) ∷ slice_index bytes (at + 5) ∷ slice_index bytes (at + 6) ∷ slice_index bytes (at + 7) ∷ [])

-- four bytes of a text as a word
abbrev pub four_at : List ℕ → ℕ → ℕ
four_at bytes at = from_le_bytes w32 (slice_index bytes at ∷ slice_index bytes (at + 1) ∷ slice_index bytes (at + 2) ∷ slice_index bytes (at + 3) ∷ [])

-- a state with so many words of a text mixed in
abbrev pub mix_eights : ℕ → List ℕ → ℕ → ℕ
mix_eights state bytes zero = state
mix_eights state bytes (suc count) = mix_of (mix_eights state bytes count) (eight_at bytes (count * 8))

-- a text of fewer than eight bytes as a word
abbrev pub short_word : List ℕ → ℕ
short_word bytes = if nat_lt (length bytes) 4
    then (if nat_lt 0 (length bytes) then slice_index bytes 0 + slice_index bytes (length bytes / 2) * 256 + slice_index bytes (length bytes - 1) * 65536 else 0)
    else four_at bytes 0 + four_at bytes (length bytes - 4) * 4294967296

-- a text, mixed to a word
unfoldable pub text_mix : ℕ → List ℕ → ℕ
text_mix seed bytes = if nat_lt (length bytes) 8
    then mix_of (bit_xor seed (length bytes)) (short_word bytes)
    else mix_of (mix_eights (bit_xor seed (length bytes)) bytes ((length bytes - 1) / 8)) (eight_at bytes (length bytes - 8))

-- the place where the search for a text begins
unfoldable pub text_home : ℕ → ℕ → List ℕ → ℕ
text_home seed mask bytes = spread_of mask (text_mix seed bytes)

-- the texts are found, each once
pub record AreTextKeys (seed mask : ℕ) (slots : List ℕ) (texts : List (List ℕ)) : Type 0 where
  pub indexed : IsIndexed (text_home seed mask) mask slots texts
  pub once : HasKeysEachOnce texts
