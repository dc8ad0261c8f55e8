-- What 64 bytes do at once.
use Rattle.std.specs.Prelude.{◌≡◌, ◌⊎◌, ℕ, zero, suc, ◌+◌, Bool, true, false, ◌&&◌, ◌||◌, ◌==◌, if◌then◌else◌, List, [], ◌∷◌}
use Rattle.std.specs.Int.{bit_at}
use Rattle.std.specs.Simd.Lanes.{mask_l}
use Rattle.morsel_grammar.specs.Dialect.{Dialect}
use Rattle.morsel_grammar.specs.Machine.{CutPlace, AfterMark, AfterEol, AfterSeparator, InPlain, InQuotes, AfterQuote, state_after, place_step, is_after_eol}
use Rattle.morsel_cut.specs.Places.{cut_place}
use Rattle.morsel_cut.specs.declared.blocks.Block.{Block}

-- how many of the lowest bits are set
abbrev pub ones_below : ℕ → ℕ → ℕ
ones_below bits zero = 0
ones_below bits (suc k) = ones_below bits k + bit_at bits k

-- after each of these bytes, whether the test holds of the state
abbrev pub tests_after : {S : Type 0} → (S → ℕ → S) → (S → Bool) → S → List ℕ → List Bool
tests_after step test s [] = []
tests_after step test s (b ∷ bs) = test (step s b) ∷ tests_after step test (step s b) bs

-- after how many of these bytes the test holds of the state
abbrev pub count_after : {S : Type 0} → (S → ℕ → S) → (S → Bool) → S → List ℕ → ℕ
count_after step test s [] = 0
count_after step test s (b ∷ bs) = (if test (step s b) then 1 else 0) + count_after step test (step s b) bs

-- in a field without quotes
abbrev pub is_in_plain : CutPlace → Bool
is_in_plain InPlain = true
is_in_plain place = false

-- in quotes
abbrev pub is_in_quotes : CutPlace → Bool
is_in_quotes InQuotes = true
is_in_quotes place = false

-- after a quote in quotes
abbrev pub is_after_quote : CutPlace → Bool
is_after_quote AfterQuote = true
is_after_quote place = false

-- in or before a field, or after one, and nowhere else
abbrev pub IsAmongFields : CutPlace → Type 0
IsAmongFields AfterMark = Unit {0}
IsAmongFields AfterEol = Unit {0}
IsAmongFields AfterSeparator = Unit {0}
IsAmongFields InPlain = Unit {0}
IsAmongFields InQuotes = Unit {0}
IsAmongFields AfterQuote = Unit {0}
IsAmongFields place = ⊥

-- what bytes do that begin in, before or after a field: where the next byte stands, and after which of them a record ends
pub record DoesBlock (o : Dialect) (from : CutPlace) (bytes : List ℕ) (block : Block) : Type 0 where
  pub begins : IsAmongFields from
  pub place_is : cut_place block.place ≡ state_after (place_step o) from bytes
  pub ends_are : block.ends ≡ mask_l (tests_after (place_step o) is_after_eol from bytes)

-- whether a record begins with the eol byte or with 13, of those that follow the end of another
abbrev pub has_blank : Dialect → CutPlace → List ℕ → Bool
has_blank o place [] = false
has_blank o place (b ∷ bs) = (is_after_eol place && (b == o.eol || b == 13)) || has_blank o (place_step o place b) bs

-- records up to an end, and how many they are; where there is not one column alone, none of them is blank
pub record AreCountedLines (o : Dialect) (columns : ℕ) (lines : List ℕ) (count : ℕ) : Type 0 where
  pub ends : state_after (place_step o) AfterEol lines ≡ AfterEol
  pub count_is : count ≡ count_after (place_step o) is_after_eol AfterEol lines
  pub blanks : (columns ≡ 1) ⊎ (has_blank o AfterEol lines ≡ false)
