-- The ends of fields outside quotes, and where quotes may stand.
use Rattle.std.specs.Prelude.{ℕ, zero, suc, ◌+◌, ◌/◌, ◌%◌, Bool, true, false, not, ◌&&◌, ◌||◌, ◌==◌, List, [], ◌∷◌}
use Rattle.morsel_grammar.specs.Dialect.{Dialect}
use Rattle.morsel_grammar.specs.Split.{is_quote, stops}
use Rattle.morsel_marks.specs.declared.look.QuoteState.{QuoteState}

-- whether the place after a byte is in quotes: a quote turns it
abbrev pub quoted_after : Bool → Bool → Bool
quoted_after true quoted = not quoted
quoted_after false quoted = quoted

-- with this place before the others, where it is one
abbrev pub with_place : Bool → ℕ → List ℕ → List ℕ
with_place false at places = places
with_place true at places = at ∷ places

-- the places of the bytes that end a field: stops outside quotes. The list begins at `at`
abbrev pub marks_from : (ℕ → Bool) → (ℕ → Bool) → ℕ → Bool → List ℕ → List ℕ
marks_from quote stop at quoted [] = []
marks_from quote stop at quoted (b ∷ bs) =
    with_place (stop b && not (quoted_after (quote b) quoted)) at (marks_from quote stop (at + 1) (quoted_after (quote b) quoted) bs)

-- what is told before the first byte of a field
abbrev pub field_start : QuoteState
field_start = record { before = true; inside = false; closed = false }

-- what is told after one byte more
abbrev pub quote_step : (ℕ → Bool) → (ℕ → Bool) → QuoteState → ℕ → QuoteState
quote_step quote stop state b = record {
  before = stop b || quote b;
  inside = quoted_after (quote b) state.inside;
  closed = quote b && not (quoted_after (quote b) state.inside);
}

-- the byte is a quote that opens where none may, or follows a closing one and is neither stop, quote nor 13
abbrev pub is_misquoted : (ℕ → Bool) → (ℕ → Bool) → QuoteState → ℕ → Bool
is_misquoted quote stop state b =
    (quote b && quoted_after (quote b) state.inside && not state.before) || (state.closed && not (stop b || quote b || b == 13))

-- what is told after these bytes
abbrev pub quotes_after : (ℕ → Bool) → (ℕ → Bool) → QuoteState → List ℕ → QuoteState
quotes_after quote stop state [] = state
quotes_after quote stop state (b ∷ bs) = quotes_after quote stop (quote_step quote stop state b) bs

-- no byte of the list stands so, after what is told before it
abbrev pub is_sound_from : (ℕ → Bool) → (ℕ → Bool) → QuoteState → List ℕ → Bool
is_sound_from quote stop state [] = true
is_sound_from quote stop state (b ∷ bs) = not (is_misquoted quote stop state b) && is_sound_from quote stop (quote_step quote stop state b) bs

-- each quote opens a field, closes one or is doubled in one, and the last one closes
abbrev pub is_well_quoted_by : (ℕ → Bool) → (ℕ → Bool) → List ℕ → Bool
is_well_quoted_by quote stop text = is_sound_from quote stop field_start text && not (quotes_after quote stop field_start text).inside

-- the places of the bits of a number that are set, the lowest at `at`, of so many bits
unfoldable pub set_places : ℕ → ℕ → ℕ → List ℕ
set_places zero at bits = []
set_places (suc n) at bits = with_place (bits % 2 == 1) at (set_places n (at + 1) (bits / 2))

-- the places of the bytes that end the fields of a text
abbrev pub field_ends : Dialect → List ℕ → List ℕ
field_ends o text = marks_from (is_quote o.quote) (stops o) 0 false text

-- each quote of the text opens a field, closes one or is doubled in one, and the last one closes
abbrev pub is_well_quoted : Dialect → List ℕ → Bool
is_well_quoted o text = is_well_quoted_by (is_quote o.quote) (stops o) text
