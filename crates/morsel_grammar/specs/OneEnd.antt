-- Where a text ends is no choice: its rows by the grammar, and the place of the record that is refused, are one.
use Rattle.std.specs.Prelude.{◌≡◌, ℕ, Bool, Option, Some, None, List, length}
use Rattle.morsel_meaning.specs.declared.value.ColType.{ColType}
use Rattle.morsel_meaning.specs.Values.{Row}
use Rattle.morsel_grammar.specs.Dialect.{Dialect}
use Rattle.morsel_grammar.specs.Reading.{Refusal}
use Rattle.morsel_grammar.specs.Cells.{CsvCell}
use Rattle.morsel_grammar.specs.GrammarRows.{RowsOfGrammar, HasRowAt}

-- the place of the record that is refused, where one is
abbrev pub place_in : Option Refusal → Option ℕ
place_in None = None
place_in (Some refusal) = Some refusal.at

-- a text has one list of rows, up to its end or up to a record that is refused, and that record has one place
abbrev pub EndsOnce : Dialect → Type 0
EndsOnce o = (kinds : List ColType) (used : List Bool) (head : Bool) (at : ℕ) (text : List ℕ)
    (rows others : List Row) (awaits_header other : Bool) (refusal found : Option Refusal)
    → RowsOfGrammar o kinds used head at text rows awaits_header refusal → RowsOfGrammar o kinds used head at text others other found
    → (rows ≡ others) × (place_in refusal ≡ place_in found)

-- after so many rows, the next row begins at one place
abbrev pub StandsOnce : Dialect → Type 0
StandsOnce o = (kinds : List ColType) (head : Bool) (at : ℕ) (text : List ℕ) (before others : List (List CsvCell)) (place other : ℕ) (cells more : List CsvCell)
    → HasRowAt o kinds head at text before place cells → HasRowAt o kinds head at text others other more → length before ≡ length others → place ≡ other
