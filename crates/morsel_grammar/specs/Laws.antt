-- What the grammar and the functions that read say of each other, for one choice of options.
use Rattle.std.specs.Prelude.{◌≡◌, ◌≢◌, ◌⊎◌, ◌↔◌, ℕ, ◌<◌, Bool, Some, None, List, [], ◌∷◌, ◌++◌, length, map}
use Rattle.morsel_meaning.specs.declared.value.ColType.{ColType}
use Rattle.morsel_meaning.specs.Values.{Row}
use Rattle.morsel_grammar.specs.Dialect.{Dialect}
use Rattle.morsel_grammar.specs.Grammar.{CsvRecord, IsRecord, Records}
use Rattle.morsel_grammar.specs.Split.{record_at}
use Rattle.morsel_grammar.specs.Cells.{CsvCell}
use Rattle.morsel_grammar.specs.Rows.{mark_len, unmarked, IsOfGrammar}
use Rattle.morsel_grammar.specs.Reading.{Refusal, reading, read_of}
use Rattle.morsel_grammar.specs.GrammarRows.{AreWholeRecords, BeginsNoRecord, HasRows, HasRowAt, CellsOfGrammar, RowsOfGrammar, EndsWithinQuotes}

-- the record that is read is one that the text begins with, and any record that it begins with is read
abbrev pub ReadsByGrammar : Dialect → Type 0
ReadsByGrammar o = (text : List ℕ) (r : CsvRecord) (rest : List ℕ) → (record_at o text ≡ Some (r, rest)) ↔ IsRecord o r text rest

-- nothing is read exactly where the text begins with no record
abbrev pub RefusesByGrammar : Dialect → Type 0
RefusesByGrammar o = (text : List ℕ) → (record_at o text ≡ None) ↔ BeginsNoRecord o text

-- a text begins with at most one record
abbrev pub BeginsWithOne : Dialect → Type 0
BeginsWithOne o = (text : List ℕ) (r s : CsvRecord) (rest other : List ℕ) → IsRecord o r text rest → IsRecord o s text other
    → (r ≡ s) × (rest ≡ other)

-- a text is at most one list of records
abbrev pub IsOneList : Dialect → Type 0
IsOneList o = (text : List ℕ) (a b : List CsvRecord) → Records o text a → Records o text b → a ≡ b

-- a record of a text takes at least one byte of it, and what is left is its end
abbrev pub TakesBytes : Dialect → Type 0
TakesBytes o = (text : List ℕ) (r : CsvRecord) (rest : List ℕ) → IsRecord o r text rest → text ≢ []
    → (front : List ℕ) × (text ≡ front ++ rest) × (length rest < length text)

-- a record ends with the text or with an eol byte
abbrev pub EndsWithEol : Dialect → Type 0
EndsWithEol o = (text : List ℕ) (r : CsvRecord) (rest : List ℕ) → IsRecord o r text rest
    → (rest ≡ []) ⊎ ((line : List ℕ) × (text ≡ line ++ o.eol ∷ rest))

-- what follows a record's eol byte does not change it
abbrev pub StandsWhateverFollows : Dialect → Type 0
StandsWhateverFollows o = (text : List ℕ) (r : CsvRecord) (line rest : List ℕ) → IsRecord o r text rest → text ≡ line ++ o.eol ∷ rest
    → (more : List ℕ) → IsRecord o r (line ++ o.eol ∷ more) more

-- after whole records a text is split as if they were not there
abbrev pub SplitsBehindWhole : Dialect → Type 0
SplitsBehindWhole o = (front rest : List ℕ) (whole records : List CsvRecord) → AreWholeRecords o front whole
    → Records o (front ++ rest) (whole ++ records) ↔ Records o rest records

-- whole records after whole records are whole records
abbrev pub JoinsWhole : Dialect → Type 0
JoinsWhole o = (front back : List ℕ) (records others : List CsvRecord) → AreWholeRecords o front records → AreWholeRecords o back others
    → AreWholeRecords o (front ++ back) (records ++ others)

-- whole records are records
abbrev pub WholeAreRecords : Dialect → Type 0
WholeAreRecords o = (text : List ℕ) (records : List CsvRecord) → AreWholeRecords o text records → Records o text records

-- reading gives the rows of the grammar, or refuses by it
abbrev pub ReadsCells : Dialect → Type 0
ReadsCells o = (kinds : List ColType) (head : Bool) (at : ℕ) (text : List ℕ) → (let r = reading o kinds head at text in
    CellsOfGrammar o kinds head at text (map (λ (row : ℕ × List CsvCell). row.1) r.rows) r.head r.refusal)

-- a text that has rows by the grammar is read to its end
abbrev pub ReadsAllCells : Dialect → Type 0
ReadsAllCells o = (kinds : List ColType) (head : Bool) (at : ℕ) (text : List ℕ) (rows : List (List CsvCell)) (awaits_header : Bool) → HasRows o kinds head text rows awaits_header
    → (let r = reading o kinds head at text in (r.refusal ≡ None) × (map (λ (row : ℕ × List CsvCell). row.1) r.rows ≡ rows) × (r.head ≡ awaits_header))

-- each row has the place where its record begins
abbrev pub PlacesRows : Dialect → Type 0
PlacesRows o = (kinds : List ColType) (head : Bool) (at : ℕ) (text : List ℕ)
    (before : List (ℕ × List CsvCell)) (place : ℕ) (cells : List CsvCell) (after : List (ℕ × List CsvCell))
    → (reading o kinds head at text).rows ≡ before ++ (place, cells) ∷ after
    → HasRowAt o kinds head at text (map (λ (row : ℕ × List CsvCell). row.1) before) place cells

-- reading the used columns gives their rows by the grammar, or refuses by it
abbrev pub ReadsRows : Dialect → Type 0
ReadsRows o = (kinds : List ColType) (used : List Bool) (head : Bool) (at : ℕ) (text : List ℕ) → (let read = read_of used (reading o kinds head at text) in
    RowsOfGrammar o kinds used head at text (map (λ (row : ℕ × Row). row.1) read.rows) read.head read.refusal)

-- a text that has rows by the grammar, with no bad cell in a used column, is read to its end
abbrev pub ReadsAllRows : Dialect → Type 0
ReadsAllRows o = (kinds : List ColType) (used : List Bool) (head : Bool) (at : ℕ) (text : List ℕ) (rows : List Row) (awaits_header : Bool)
    → RowsOfGrammar o kinds used head at text rows awaits_header None
    → (let read = read_of used (reading o kinds head at text) in
    (read.refusal ≡ None) × (map (λ (row : ℕ × Row). row.1) read.rows ≡ rows) × (read.head ≡ awaits_header))

-- a text that ends within a quoted field is refused
abbrev pub RefusesOpenQuotes : Dialect → Type 0
RefusesOpenQuotes o = (kinds : List ColType) (used : List Bool) (head : Bool) (at : ℕ) (text : List ℕ) → EndsWithinQuotes o text
    → (refusal : Refusal) × ((read_of used (reading o kinds head at text)).refusal ≡ Some refusal)

-- a file is of the grammar exactly where no record after its mark is refused
abbrev pub ReadsFiles : Dialect → Type 0
ReadsFiles o = (kinds : List ColType) (bytes : List ℕ)
    → IsOfGrammar o kinds bytes ↔ ((reading o kinds o.has_header (mark_len bytes) (unmarked bytes)).refusal ≡ None)
