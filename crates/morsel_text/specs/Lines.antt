-- A line without quotes, and where the bits of a number tell of its bytes.
use Rattle.std.specs.Prelude.{◌≡◌, ℕ, ◌<◌, ◌≤◌, ◌==◌, get_or, Bool, true, false, if◌then◌else◌, List, length}
use Rattle.std.specs.Int.{bit_at}
use Rattle.morsel_grammar.specs.Dialect.{Dialect}
use Rattle.morsel_grammar.specs.Split.{is_quote}

-- so many bytes come before the first eol byte, and none up to it is a quote
pub record IsPlainLine (o : Dialect) (text : List ℕ) (len : ℕ) : Type 0 where
  pub within : len < length text
  pub inside : (k : ℕ) → k < len → (get_or text k 0 == o.eol) ≡ false
  pub ended : (get_or text len 0 == o.eol) ≡ true
  pub unquoted : (k : ℕ) → k ≤ len → is_quote o.quote (get_or text k 0) ≡ false

-- the bits of a number tell which of the first `n` bytes pass a test, the lowest of the first
abbrev pub Marks : (ℕ → Bool) → List ℕ → ℕ → ℕ → Type 0
Marks test text n bits = (k : ℕ) → k < n → bit_at bits k ≡ (if test (get_or text k 0) then 1 else 0)
