-- The rows of a text, and what is refused of it, in the words of the grammar.
use Rattle.std.specs.Prelude.{◌≡◌, ◌≢◌, ◌⊎◌, ℕ, ◌+◌, Bool, true, false, if◌then◌else◌, Option, Some, None, List, [], ◌∷◌, ◌++◌, length, IsUtf8}
use Rattle.morsel_meaning.specs.declared.value.ColType.{ColType}
use Rattle.morsel_meaning.specs.Values.{Row}
use Rattle.morsel_grammar.specs.Dialect.{Dialect}
use Rattle.morsel_grammar.specs.Grammar.{CsvField, CsvRecord, Comment, Fields, Spells, doubled, BeginsComment, IsRecord, Records}
use Rattle.morsel_grammar.specs.Cells.{CsvCell}
use Rattle.morsel_grammar.specs.Rows.{IsRow, is_empty, is_header, row_of, behind_header, rows_of_records}
use Rattle.morsel_grammar.specs.Reading.{Flaw, Malformed, NotUtf8, IllTyped, Refusal, used_values}

-- the text is these records, each with its eol byte
abbrev pub AreWholeRecords : Dialect → List ℕ → List CsvRecord → Type 0
AreWholeRecords o text [] = text ≡ []
AreWholeRecords o text (r ∷ records) = (line : List ℕ) × (rest : List ℕ) × (text ≡ line ++ o.eol ∷ rest)
    × IsRecord o r text rest × AreWholeRecords o rest records

-- whether the header is still to come after these records, where it was or was not before them
abbrev pub awaits_header_after : Bool → List CsvRecord → Bool
awaits_header_after false records = false
awaits_header_after true [] = true
awaits_header_after true (r ∷ records) = if is_header r then false else awaits_header_after true records

-- the values of the used columns, row by row, where none of their cells is bad
abbrev pub values_of : List Bool → List (List CsvCell) → Option (List Row)
values_of used [] = Some []
values_of used (cells ∷ rows) = values_first (used_values used cells) (values_of used rows)
  where
    values_first : Option Row → Option (List Row) → Option (List Row)
    values_first None rows = None
    values_first (Some row) None = None
    values_first (Some row) (Some rows) = Some (row ∷ rows)

-- the text is UTF-8 and a list of records, and these are the rows after its header
pub record HasRows (o : Dialect) (kinds : List ColType) (head : Bool) (text : List ℕ) (rows : List (List CsvCell)) (awaits_header : Bool) : Type 0 where
  pub utf8 : IsUtf8 text
  pub records : List CsvRecord
  pub split : Records o text records
  pub rows_are : rows_of_records o kinds (behind_header head records) ≡ Some rows
  pub awaits_header_is : awaits_header ≡ awaits_header_after head records

-- the bytes before a place of the text, which begins at place `at`, are UTF-8 and whole records; these are their rows, and this is the rest
pub record HasRowsBefore (o : Dialect) (kinds : List ColType) (head : Bool) (at : ℕ) (text : List ℕ) (place : ℕ) (rows : List (List CsvCell)) (awaits_header : Bool) (rest : List ℕ) : Type 0 where
  pub front : List ℕ
  pub records : List CsvRecord
  pub split : text ≡ front ++ rest
  pub place_is : place ≡ at + length front
  pub whole : AreWholeRecords o front records
  pub utf8 : IsUtf8 front
  pub rows_are : rows_of_records o kinds (behind_header head records) ≡ Some rows
  pub awaits_header_is : awaits_header ≡ awaits_header_after head records
  pub some_rest : rest ≢ []

-- no record begins here
abbrev pub BeginsNoRecord : Dialect → List ℕ → Type 0
BeginsNoRecord o text = (r : CsvRecord) (rest : List ℕ) → IsRecord o r text rest → ⊥

-- neither a comment nor empty, and with another number of fields than there are columns
abbrev pub HasOtherWidth : List ColType → CsvRecord → Type 0
HasOtherWidth kinds (Comment body) = ⊥
HasOtherWidth kinds (Fields fields) = (is_empty fields ≡ false) × (length fields ≢ length kinds)

-- a row with a bad cell in a used column
abbrev pub HasBadCell : Dialect → List ColType → List Bool → CsvRecord → Type 0
HasBadCell o kinds used r = (cells : List CsvCell) × (row_of o kinds r ≡ IsRow cells) × (used_values used cells ≡ None)

-- what begins here is refused: no whole record or one of another width; a record that is not UTF-8; one with a bad cell
abbrev pub HasFlaw : Dialect → List ColType → List Bool → Bool → List ℕ → Flaw → Type 0
HasFlaw o kinds used awaits_header text Malformed = BeginsNoRecord o text
    ⊎ ((r : CsvRecord) × (rest : List ℕ) × IsRecord o r text rest × (awaits_header ≡ false) × HasOtherWidth kinds r)
HasFlaw o kinds used awaits_header text NotUtf8 = (r : CsvRecord) × (bytes : List ℕ) × (rest : List ℕ)
    × IsRecord o r text rest × (text ≡ bytes ++ rest) × (IsUtf8 bytes → ⊥)
HasFlaw o kinds used awaits_header text IllTyped = (r : CsvRecord) × (rest : List ℕ) × IsRecord o r text rest × (awaits_header ≡ false) × HasBadCell o kinds used r

-- what begins at the place is refused, and nothing before it is
abbrev pub IsRefusedAt : Dialect → List ColType → List Bool → Bool → ℕ → List ℕ → List (List CsvCell) → Refusal → Type 0
IsRefusedAt o kinds used head at text rows refusal = (awaits_header : Bool) × (rest : List ℕ)
    × HasRowsBefore o kinds head at text refusal.at rows awaits_header rest × HasFlaw o kinds used awaits_header rest refusal.flaw

-- a row of these cells begins at the place, after these rows
abbrev pub HasRowAt : Dialect → List ColType → Bool → ℕ → List ℕ → List (List CsvCell) → ℕ → List CsvCell → Type 0
HasRowAt o kinds head at text before place cells = (rest : List ℕ) × (r : CsvRecord) × (after : List ℕ)
    × HasRowsBefore o kinds head at text place before false rest × IsRecord o r rest after × (row_of o kinds r ≡ IsRow cells)

-- rows of cells up to the end of the text, or up to a record that is refused
abbrev pub CellsOfGrammar : Dialect → List ColType → Bool → ℕ → List ℕ → List (List CsvCell) → Bool → Option Refusal → Type 0
CellsOfGrammar o kinds head at text rows awaits_header None = HasRows o kinds head text rows awaits_header
CellsOfGrammar o kinds head at text rows awaits_header (Some refusal) = IsRefusedAt o kinds [] head at text rows refusal

-- the used columns' rows up to the end of the text, or up to a record that is refused
abbrev pub RowsOfGrammar : Dialect → List ColType → List Bool → Bool → ℕ → List ℕ → List Row → Bool → Option Refusal → Type 0
RowsOfGrammar o kinds used head at text rows awaits_header None = (cells : List (List CsvCell))
    × HasRows o kinds head text cells awaits_header × (values_of used cells ≡ Some rows)
RowsOfGrammar o kinds used head at text rows awaits_header (Some refusal) = (cells : List (List CsvCell))
    × IsRefusedAt o kinds used head at text cells refusal × (values_of used cells ≡ Some rows)

-- fields with a separator after each, and then an opening quote and content up to the end of the text
abbrev pub OpensQuotes : Dialect → List CsvField → List ℕ → Type 0
OpensQuotes o [] text = (quote : ℕ) × (content : List ℕ) × (o.quote ≡ Some quote) × (text ≡ quote ∷ doubled quote content)
OpensQuotes o (f ∷ fields) text = (spelled : List ℕ) × (after : List ℕ)
    × Spells o f.quoted f.bytes spelled × (text ≡ spelled ++ o.separator ∷ after) × OpensQuotes o fields after

-- whole records, and then no comment and a text that ends within a quoted field
abbrev pub EndsWithinQuotes : Dialect → List ℕ → Type 0
EndsWithinQuotes o text = (front : List ℕ) × (rest : List ℕ) × (records : List CsvRecord) × (fields : List CsvField)
    × (text ≡ front ++ rest) × AreWholeRecords o front records × (BeginsComment o rest → ⊥) × OpensQuotes o fields rest
