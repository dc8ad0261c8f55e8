-- The places of rows' records, and what passing one record finds.
use Rattle.std.specs.Prelude.{◌≡◌, ℕ, suc, ◌+◌, ◌-◌, Bool, false, List, [], length}
use Rattle.morsel_meaning.specs.declared.value.ColType.{ColType}
use Rattle.morsel_grammar.specs.Dialect.{Dialect}
use Rattle.morsel_grammar.specs.Cells.{CsvCell}
use Rattle.morsel_grammar.specs.Rows.{RowOf, NoRow, IsRow, Misfit}
use Rattle.morsel_grammar.specs.Reading.{with_cells, reading_up_to}
use Rattle.morsel_text.specs.declared.place.RowKind.{RowKind}
use Rattle.morsel_text.specs.declared.place.RowKind.TheVariants as kinds
use Rattle.morsel_text.specs.declared.place.Skip.{Skip}
use Rattle.morsel_text.specs.declared.place.Skip.TheVariants as skips

-- what a record of fields is to the rows
abbrev pub IsKind : RowOf → RowKind → Type 0
IsKind found kinds.Row = (cells : List CsvCell) × (found ≡ IsRow cells)
IsKind found kinds.NoRow = found ≡ NoRow
IsKind found kinds.Misfit = found ≡ Misfit

-- the record that a text begins with was passed
abbrev pub SkipsTo : Dialect → List ColType → Bool → ℕ → List ℕ → Skip → Type 0
SkipsTo o ks head at text (skips.Row rest) = (cells : List CsvCell) × ((n : ℕ) →
    reading_up_to (suc n) o ks head at text ≡ with_cells at cells (reading_up_to n o ks false (at + (length text - length rest.now)) rest.now))
SkipsTo o ks head at text (skips.Other rest awaits_header) = (n : ℕ) →
    reading_up_to (suc n) o ks head at text ≡ reading_up_to n o ks awaits_header (at + (length text - length rest.now)) rest.now
SkipsTo o ks head at text skips.Refused = (n : ℕ) → (reading_up_to (suc n) o ks head at text).rows ≡ []

-- how many bytes follow the record that was passed
abbrev pub skip_len : Skip → ℕ
skip_len (skips.Row rest) = length rest.now
skip_len (skips.Other rest awaits_header) = length rest.now
skip_len skips.Refused = 0
