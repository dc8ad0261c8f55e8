-- Keys that are words of 64 bits.
use Rattle.std.specs.Prelude.{◌<◌, ◌+◌, ◌*◌, ◌/◌, ◌%◌, ◌^◌, ℕ, ℤ, List, get_or, bit_and}
use Rattle.std.specs.Int.{cast_unsigned, w64}
use Rattle.morsel_keys.specs.Slots.{IsIndexed, HasKeysEachOnce}

-- the place where a mixed word begins its search: by its top bits
unfoldable pub spread_of : ℕ → ℕ → ℕ
spread_of mask mixed = bit_and ((mixed / 2 ^ 32) * ((mask + 1) % 2 ^ 64) % 2 ^ 64 / 2 ^ 32) mask

-- the place where the search for a word begins
unfoldable pub word_home : ℕ → ℕ → ℕ → ℕ
word_home seed mask word = spread_of mask ((word + seed) % 2 ^ 64 * 11400714819323198485 % 2 ^ 64)

-- the slot where the search for a number's word begins, and 0 past the end
abbrev pub int_begin : ℕ → ℕ → List ℕ → ℤ → ℕ
int_begin seed mask slots number = get_or slots (word_home seed mask (cast_unsigned w64 number)) 0

-- the words are found, each once, and are of 64 bits
pub record AreWordKeys (seed mask : ℕ) (slots words : List ℕ) : Type 0 where
  pub indexed : IsIndexed (word_home seed mask) mask slots words
  pub once : HasKeysEachOnce words
  pub fit : (k : ℕ) → get_or words k 0 < 2 ^ 64
