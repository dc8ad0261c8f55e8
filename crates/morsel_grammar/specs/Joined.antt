-- What is read of a text in two pieces.
use Rattle.std.specs.Prelude.{◌≡◌, ℕ, ◌+◌, Bool, Option, Some, None, List, ◌++◌, length}
use Rattle.morsel_meaning.specs.declared.value.ColType.{ColType}
use Rattle.morsel_grammar.specs.Dialect.{Dialect}
use Rattle.morsel_grammar.specs.Grammar.{CsvRecord}
use Rattle.morsel_meaning.specs.Values.{Row}
use Rattle.morsel_grammar.specs.Cells.{CsvCell}
use Rattle.morsel_grammar.specs.Reading.{Refusal, Reading, reading, Read, read_of}
use Rattle.morsel_grammar.specs.GrammarRows.{AreWholeRecords}

-- these rows, and then, unless a record was refused, what is read later
abbrev pub joined_at : List (ℕ × List CsvCell) → Bool → Option Refusal → (Bool → Reading) → Reading
joined_at rows head None later = record (later head) { rows = rows ++ (later head).rows }
joined_at rows head (Some refusal) later = record { rows = rows; head = head; refusal = Some refusal }

-- what is read first, and then, unless a record was refused, what is read after it, told whether the header is still to come
abbrev pub joined : Reading → (Bool → Reading) → Reading
joined first later = joined_at first.rows first.head first.refusal later

-- a text that is cut after whole records is read piece by piece
abbrev pub ReadsPieces : Dialect → Type 0
ReadsPieces o = (kinds : List ColType) (head : Bool) (at : ℕ) (front rest : List ℕ) (records : List CsvRecord) → AreWholeRecords o front records
    → reading o kinds head at (front ++ rest) ≡ joined (reading o kinds head at front) (λ awaits_header. reading o kinds awaits_header (at + length front) rest)

-- the same of rows of values
abbrev pub joined_read_at : List (ℕ × Row) → Bool → Option Refusal → (Bool → Read) → Read
joined_read_at rows head None later = record (later head) { rows = rows ++ (later head).rows }
joined_read_at rows head (Some refusal) later = record { rows = rows; head = head; refusal = Some refusal }

-- the same of the used columns' rows
abbrev pub joined_read : Read → (Bool → Read) → Read
joined_read first later = joined_read_at first.rows first.head first.refusal later

-- the used columns of a text that is cut after whole records are read piece by piece
abbrev pub ReadsRowsOfPieces : Dialect → Type 0
ReadsRowsOfPieces o = (kinds : List ColType) (used : List Bool) (head : Bool) (at : ℕ) (front rest : List ℕ) (records : List CsvRecord) → AreWholeRecords o front records
    → read_of used (reading o kinds head at (front ++ rest))
    ≡ joined_read (read_of used (reading o kinds head at front)) (λ awaits_header. read_of used (reading o kinds awaits_header (at + length front) rest))
