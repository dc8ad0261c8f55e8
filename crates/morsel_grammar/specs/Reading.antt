-- What reading a text gives: the rows up to the first record that is refused, and why that one is.
use Rattle.std.specs.Prelude.{ℕ, zero, suc, ◌+◌, ◌-◌, Bool, true, false, not, if◌then◌else◌, Option, Some, None, List, [], ◌∷◌, map, length, take}
use Rattle.std.specs.Str.{is_utf8}
use Rattle.morsel_meaning.specs.declared.value.ColType.{ColType}
use Rattle.morsel_meaning.specs.declared.value.Value.{Value}
use Rattle.morsel_meaning.specs.Values.{Row}
use Rattle.morsel_grammar.specs.Dialect.{Dialect}
use Rattle.morsel_grammar.specs.Grammar.{CsvRecord}
use Rattle.morsel_grammar.specs.Cells.{CsvCell, Good, Bad}
use Rattle.morsel_grammar.specs.Rows.{RowOf, NoRow, IsRow, Misfit, row_of, is_header}
use Rattle.morsel_grammar.specs.Split.{record_at}

-- why a record is refused: no whole record or another number of fields than columns; not UTF-8; a used field that does not fit
pub data Flaw : Type 0 where
  Malformed : Flaw
  NotUtf8 : Flaw
  IllTyped : Flaw

-- a record that is refused, by the place of its first byte
pub record Refusal : Type 0 where
  pub at : ℕ
  pub flaw : Flaw

-- rows of cells, each with its record's place, up to a refused record; and whether the header is still to come
pub record Reading : Type 0 where
  pub rows : List (ℕ × List CsvCell)
  pub head : Bool
  pub refusal : Option Refusal

-- no more rows, and no record is refused
abbrev pub ends : Bool → Reading
ends head = record { rows = []; head = head; refusal = None }

-- no more rows: the record at this place is refused
abbrev pub refuses : Bool → ℕ → Flaw → Reading
refuses head at flaw = record { rows = []; head = head; refusal = Some (record { at = at; flaw = flaw }) }

-- a row at a place, and then what is read later
abbrev pub with_cells : ℕ → List CsvCell → Reading → Reading
with_cells at cells later = record later { rows = (at, cells) ∷ later.rows }

-- the row of a record at a place, and then what is read later
abbrev pub row_then : Bool → ℕ → RowOf → Reading → Reading
row_then head at NoRow later = later
row_then head at (IsRow cells) later = with_cells at cells later
row_then head at Misfit later = refuses head at Malformed

-- one record at a place, with its bytes; `later` reads what follows, told whether the header is still to come
abbrev pub record_then : Dialect → List ColType → Bool → ℕ → List ℕ → CsvRecord → (Bool → Reading) → Reading
record_then o kinds head at bytes r later =
    if is_utf8 bytes
    then (if head then later (not (is_header r)) else row_then false at (row_of o kinds r) (later false))
    else refuses head at NotUtf8

-- what the split of a text gave, and then what is read later
abbrev pub split_then : Dialect → List ColType → Bool → ℕ → List ℕ → Option (CsvRecord × List ℕ) → (Bool → ℕ → List ℕ → Reading) → Reading
split_then o kinds head at text None later = refuses head at Malformed
split_then o kinds head at text (Some split) later =
    let size = length text - length split.1 in
    record_then o kinds head at (take size text) split.0 (λ awaits_header. later awaits_header (at + size) split.1)

-- at most `n` records of the text, which begins at a place
abbrev pub reading_up_to : ℕ → Dialect → List ColType → Bool → ℕ → List ℕ → Reading
reading_up_to n o kinds head at [] = ends head
reading_up_to zero o kinds head at (b ∷ bs) = ends head
reading_up_to (suc n) o kinds head at (b ∷ bs) =
    split_then o kinds head at (b ∷ bs) (record_at o (b ∷ bs)) (λ awaits_header next rest. reading_up_to n o kinds awaits_header next rest)

-- a text is read record by record, each of at least one byte; `head` says that the header is still to come
abbrev pub reading : Dialect → List ColType → Bool → ℕ → List ℕ → Reading
reading o kinds head at text = reading_up_to (length text) o kinds head at text

-- the values of the used columns, where none of their cells is bad
abbrev pub used_values : List Bool → List CsvCell → Option Row
used_values [] cells = Some []
used_values (u ∷ used) [] = Some []
used_values (true ∷ used) (Good v ∷ cells) = with_value v (used_values used cells)
  where
    with_value : Value → Option Row → Option Row
    with_value v None = None
    with_value v (Some row) = Some (v ∷ row)
used_values (true ∷ used) (Bad ∷ cells) = None
used_values (false ∷ used) (c ∷ cells) = used_values used cells

-- rows of values, each with its record's place, up to a refused record
pub record Read : Type 0 where
  pub rows : List (ℕ × Row)
  pub head : Bool
  pub refusal : Option Refusal

-- the row at a place, and then what is read later; without a row, the record at the place is refused
abbrev pub value_then : Bool → ℕ → Option Row → Read → Read
value_then head at None later = record { rows = []; head = head; refusal = Some (record { at = at; flaw = IllTyped }) }
value_then head at (Some row) later = record later { rows = (at, row) ∷ later.rows }

-- rows of cells, as rows of the values in the used columns, up to the first that has a bad cell there
abbrev pub used_rows : List Bool → Bool → List (ℕ × List CsvCell) → Option Refusal → Read
used_rows used head [] refusal = record { rows = []; head = head; refusal = refusal }
used_rows used head (row ∷ rows) refusal = value_then head row.0 (used_values used row.1) (used_rows used head rows refusal)

-- the rows of the used columns, up to the first record that is refused
abbrev pub read_of : List Bool → Reading → Read
read_of used r = used_rows used r.head r.rows r.refusal

-- the entries of the used columns
abbrev pub chosen : {A : Type 0} → List Bool → List A → List A
chosen [] xs = []
chosen (u ∷ used) [] = []
chosen (true ∷ used) (x ∷ xs) = x ∷ chosen used xs
chosen (false ∷ used) (x ∷ xs) = chosen used xs

-- the places of the records of the rows
abbrev pub places_of : Reading → List ℕ
places_of r = map (λ row. row.0) r.rows

-- the place of the row of this number, counted from 0
abbrev pub row_place : List (ℕ × List CsvCell) → ℕ → Option ℕ
row_place [] row = None
row_place (r ∷ rows) zero = Some r.0
row_place (r ∷ rows) (suc row) = row_place rows row
