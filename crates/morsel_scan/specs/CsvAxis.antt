-- What each byte of the sources of a CSV scan gives: the last byte of a record what the scan makes of that record, each other byte nothing.
use Rattle.std.specs.Prelude.{ℕ, zero, suc, ◌+◌, ◌-◌, nat_lt, nat_le, Bool, true, false, not, ◌&&◌, if◌then◌else◌, Option, Some, None, Result, Ok, Err, List, [], ◌∷◌, ◌++◌, map, length, take}
use Rattle.std.specs.List.{count_by, flat_map}
use Rattle.std.specs.Str.{is_utf8}
use Rattle.morsel_meaning.specs.declared.fault.ComputeKind.TheVariants as kinds
use Rattle.morsel_meaning.specs.declared.fault.Fault.{Fault}
use Rattle.morsel_meaning.specs.declared.fault.Fault.TheVariants as faults
use Rattle.morsel_meaning.specs.Values.{Row, kinds_of}
use Rattle.morsel_grammar.specs.Dialect.{Dialect}
use Rattle.morsel_grammar.specs.Grammar.{CsvRecord}
use Rattle.morsel_grammar.specs.Rows.{RowOf, NoRow, IsRow, Misfit, is_header, row_of, mark_len, unmarked}
use Rattle.morsel_grammar.specs.Split.{record_at}
use Rattle.morsel_cut.specs.RowCounts.{is_row}
use Rattle.morsel_scan.specs.Scans.{Scan, CsvScan}
use Rattle.morsel_scan.specs.ScanRows.{Placed, scanned, slice_keeps, total_rows}
use Rattle.morsel_scan.specs.CsvScans.{csv_sources}
use Rattle.morsel_scan.specs.Ahead.{Axis, one_if}

-- a record of a text with its bytes, its end among them; or, without one, the bytes that are left where none begins
pub record TextPart : Type 0 where
  pub bytes : List ℕ
  pub found : Option CsvRecord

-- what was found at the front of a text, and then the parts of the rest
abbrev pub part_then : List ℕ → Option (CsvRecord × List ℕ) → (List ℕ → List TextPart) → List TextPart
part_then text None later = record { bytes = text; found = None } ∷ []
part_then text (Some split) later = record { bytes = take (length text - length split.1) text; found = Some split.0 } ∷ later split.1

-- at most `n` parts of a text
abbrev pub parts_up_to : ℕ → Dialect → List ℕ → List TextPart
parts_up_to n o [] = []
parts_up_to zero o (b ∷ bs) = []
parts_up_to (suc n) o (b ∷ bs) = part_then (b ∷ bs) (record_at o (b ∷ bs)) (λ rest. parts_up_to n o rest)

-- a text as its records, one after the other, up to its end or to where none begins
abbrev pub text_parts : Dialect → List ℕ → List TextPart
text_parts o text = parts_up_to (length text) o text

-- where a part of a text begins
pub record PartStart : Type 0 where
  pub file : ℕ  -- its file's number within the query
  pub name : List ℕ  -- its file's name
  pub at : ℕ  -- its place in its file
  pub position : ℕ  -- how many rows of the scan come before it
  pub awaits_header : Bool  -- whether the header of its file is still to come

-- whether a part is a record that is a row, also one of another width than the columns
abbrev pub is_row_part : ℕ → Bool → Option CsvRecord → Bool
is_row_part columns awaits_header None = false
is_row_part columns awaits_header (Some r) = not awaits_header && is_row columns r

-- whether the header is still to come after a part
abbrev pub awaits_header_past : Bool → Option CsvRecord → Bool
awaits_header_past awaits_header None = awaits_header
awaits_header_past awaits_header (Some r) = awaits_header && not (is_header r)

-- where the part after this one begins
abbrev pub start_after : ℕ → PartStart → TextPart → PartStart
start_after columns start part = record {
  file = start.file;
  name = start.name;
  at = start.at + length part.bytes;
  position = start.position + one_if (is_row_part columns start.awaits_header part.found);
  awaits_header = awaits_header_past start.awaits_header part.found;
}

-- what a scan makes of a row, where it has at most so many rows as are allowed: one past these is a fault where the slice keeps it
abbrev pub scanned_within : Scan → (ℕ → Bool) → Placed → Result (Option Row) Fault
scanned_within scan keeps row = if keeps row.position && nat_le 4294967295 row.position
    then Err (faults.ComputeError kinds.TooManyRows 4294967295 0) else scanned scan keeps row

-- the rows that are made of one row: none, one, or its fault
abbrev pub rows_made : Result (Option Row) Fault → Result (List Row) Fault
rows_made (Ok None) = Ok []
rows_made (Ok (Some row)) = Ok (row ∷ [])
rows_made (Err fault) = Err fault

-- what a record after the header gives, by what it is to the rows; `make` makes what the scan asks of a row
abbrev pub record_gives : (Placed → Result (Option Row) Fault) → PartStart → RowOf → Result (List Row) Fault
record_gives make start NoRow = Ok []
record_gives make start (IsRow cells) = rows_made (make (record { position = start.position; file = start.file; source = start.name; at = start.at; cells = cells }))
record_gives make start Misfit = Err (faults.Malformed start.file start.at)

-- what a part gives: a record up to the header nothing, and one after it what it is to the rows; a fault where it is not UTF-8, and where it is no record
abbrev pub part_gives : CsvScan → (Placed → Result (Option Row) Fault) → PartStart → List ℕ → Option CsvRecord → Result (List Row) Fault
part_gives s make start bytes None = Err (faults.Malformed start.file start.at)
part_gives s make start bytes (Some r) = if is_utf8 bytes
    then (if start.awaits_header then Ok [] else record_gives make start (row_of s.options (kinds_of s.scan.fields) r))
    else Err (faults.ComputeError kinds.NotUtf8 start.file start.at)

-- some bytes of the sources, one after the other, of which the last gives what they give, and each other nothing
pub record AxisPart : Type 0 where
  pub size : ℕ  -- how many bytes
  pub given : Result (List Row) Fault
  pub is_record : Bool
  pub counts : Bool  -- whether they are a record that is a row

-- the bytes of a part of a text
abbrev pub axis_part : CsvScan → (Placed → Result (Option Row) Fault) → PartStart → TextPart → AxisPart
axis_part s make start part = record {
  size = length part.bytes;
  given = part_gives s make start part.bytes part.found;
  is_record = is_found part.found;
  counts = is_row_part (length s.scan.fields) start.awaits_header part.found;
}
  where
    is_found : Option CsvRecord → Bool
    is_found None = false
    is_found (Some r) = true

-- the bytes of a text, part by part
abbrev pub text_axis : CsvScan → (Placed → Result (Option Row) Fault) → PartStart → List TextPart → List AxisPart
text_axis s make start [] = []
text_axis s make start (part ∷ parts) = axis_part s make start part ∷ text_axis s make (start_after (length s.scan.fields) start part) parts

-- the bytes of a mark, which give nothing
abbrev pub mark_axis : ℕ → AxisPart
mark_axis size = record { size = size; given = Ok []; is_record = false; counts = false }

-- the bytes of a file of this number and name, before which come so many rows: its mark, and then its records
abbrev pub file_axis : CsvScan → (Placed → Result (Option Row) Fault) → ℕ → List ℕ → ℕ → List ℕ → List AxisPart
file_axis s make file name position bytes = mark_axis (mark_len bytes) ∷ text_axis s make
    (record { file = file; name = name; at = mark_len bytes; position = position; awaits_header = s.options.has_header }) (text_parts s.options (unmarked bytes))

-- how many rows there are among some bytes
abbrev pub rows_counted : List AxisPart → ℕ
rows_counted parts = count_by (λ (part : AxisPart). part.counts) parts

-- the bytes of files with these names, one for each, whose numbers go on from `file` and the positions of whose rows from `position`
abbrev pub files_axis : CsvScan → (Placed → Result (Option Row) Fault) → ℕ → ℕ → List (List ℕ) → List (List ℕ) → List AxisPart
files_axis s make file position [] files = []
files_axis s make file position (name ∷ names) [] = []
files_axis s make file position (name ∷ names) (bytes ∷ files) =
    let here = file_axis s make file name position bytes in
    here ++ files_axis s make (file + 1) (position + rows_counted here) names files

-- the last of so many bytes has this, and each other byte that
abbrev pub last_of : {A : Type 0} → ℕ → A → A → List A
last_of zero other last = []
last_of (suc zero) other last = last ∷ []
last_of (suc (suc n)) other last = other ∷ last_of (suc n) other last

-- what each byte gives
abbrev pub gives_of : List AxisPart → List (Result (List Row) Fault)
gives_of parts = flat_map (λ (part : AxisPart). last_of part.size (Ok []) part.given) parts

-- how many bytes the longest record has
abbrev pub longest_of : List AxisPart → ℕ
longest_of [] = 0
longest_of (part ∷ parts) = if part.is_record && nat_lt (longest_of parts) part.size then part.size else longest_of parts

-- the positions that a scan's slice keeps
abbrev pub csv_keeps : CsvScan → ℕ → List (List ℕ) → List (List ℕ) → ℕ → Bool
csv_keeps s first names files = slice_keeps s.scan.asked.slice (total_rows (csv_sources s first names files))

-- the axis of a CSV scan over files with these names and bytes, whose numbers within the query go on from `first`; they were opened as `opened`,
-- and a sink has `head` bytes before the text of its first row, to which rows add `text_of`
abbrev pub csv_axis : CsvScan → ℕ → List (List ℕ) → List (List ℕ) → List ℕ → ℕ → (List Row → List ℕ) → Axis
csv_axis s first names files opened head text_of =
    let parts = files_axis s (scanned_within s.scan (csv_keeps s first names files)) first 0 names files in record {
      files = opened;
      sizes = map (λ (bytes : List ℕ). length bytes) files;
      gives = gives_of parts;
      of_rows = flat_map (λ (part : AxisPart). last_of part.size part.counts part.counts) parts;
      row_ends = flat_map (λ (part : AxisPart). last_of part.size false part.counts) parts;
      head = head;
      text_of = text_of;
      longest = longest_of parts;
    }
