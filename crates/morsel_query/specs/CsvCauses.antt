-- Why a scan of CSV files may have a fault, by the records of its files; and why a query over such files.
use Rattle.std.specs.Prelude.{◌≡◌, ◌≢◌, ◌⊎◌, ℕ, ◌+◌, ◌<◌, true, false, Option, Some, None, List, [], ◌∷◌, ◌++◌, length, take, slice_get}
use Rattle.std.specs.List.{flat_map, sum_by}
use Rattle.morsel_meaning.specs.declared.fault.Fault.{Fault}
use Rattle.morsel_meaning.specs.declared.fault.Fault.TheVariants as faults
use Rattle.morsel_meaning.specs.declared.fault.ComputeKind.TheVariants as kinds
use Rattle.morsel_meaning.specs.Values.{Row, kinds_of}
use Rattle.morsel_grammar.specs.Dialect.{Dialect}
use Rattle.morsel_grammar.specs.Grammar.{CsvRecord, IsRecord}
use Rattle.morsel_grammar.specs.Cells.{CsvCell}
use Rattle.morsel_grammar.specs.Rows.{IsRow, row_of, behind_header, mark_len, unmarked}
use Rattle.morsel_grammar.specs.Reading.{Flaw, Malformed, NotUtf8, IllTyped}
use Rattle.morsel_grammar.specs.GrammarRows.{AreWholeRecords, awaits_header_after, HasFlaw}
use Rattle.morsel_cut.specs.RowCounts.{row_count}
use Rattle.morsel_group.specs.Asked.{GroupAsked}
use Rattle.morsel_group.specs.GroupCauses.{GroupCause}
use Rattle.morsel_scan.specs.declared.spec.RowIndex.{RowIndex}
use Rattle.morsel_scan.specs.Scans.{CsvScan}
use Rattle.morsel_scan.specs.ScanColumns.{used_columns}
use Rattle.morsel_scan.specs.Blocks.{compression_code}
use Rattle.morsel_scan.specs.CsvAxis.{TextPart, text_parts, csv_keeps}
use Rattle.morsel_query.specs.Queries.{FileScan, JoinPart, QueryParts}
use Rattle.morsel_query.specs.Meanings.{csv_scan, left_files, right_files, shape_over}

-- the record of a part of a text, where it is one
abbrev pub record_in : TextPart → List CsvRecord
record_in part = listed part.found
  where
    listed : Option CsvRecord → List CsvRecord
    listed None = []
    listed (Some r) = r ∷ []

-- the records of a text, up to its end or to where none begins
abbrev pub records_in : Dialect → List ℕ → List CsvRecord
records_in o text = flat_map record_in (text_parts o text)

-- how many rows these records of one file are, from its first on
abbrev pub rows_among : CsvScan → List CsvRecord → ℕ
rows_among s records = row_count (length s.scan.fields) (behind_header s.options.has_header records)

-- how many rows files have, each up to its end or to where no record begins
abbrev pub rows_in_all : CsvScan → List (List ℕ) → ℕ
rows_in_all s files = sum_by (λ (bytes : List ℕ). rows_among s (records_in s.options (unmarked bytes))) files

-- at this place of the file of this number, after its mark and these whole records, the rest begins
pub record BeginsRest (s : CsvScan) (first : ℕ) (files : List (List ℕ)) (file at : ℕ) (records : List CsvRecord) (rest : List ℕ) : Type 0 where
  pub source : ℕ
  pub number : file ≡ first + source
  pub bytes : List ℕ
  pub is_source : slice_get files source ≡ Some bytes
  pub front : List ℕ
  pub split : unmarked bytes ≡ front ++ rest
  pub place : at ≡ mark_len bytes + length front
  pub whole : AreWholeRecords s.options front records
  pub some : rest ≢ []

-- the position of the row of the record there, among the rows of all files
abbrev pub position_at : (s : CsvScan) (first : ℕ) (files : List (List ℕ)) (file at : ℕ) (records : List CsvRecord) (rest : List ℕ) → BeginsRest s first files file at records rest → ℕ
position_at s first files file at records rest begins = rows_in_all s (take begins.source files) + rows_among s records

-- the record at the place has the flaw
pub record HasFlawAt (s : CsvScan) (first : ℕ) (files : List (List ℕ)) (flaw : Flaw) (file at : ℕ) : Type 0 where
  pub records : List CsvRecord
  pub rest : List ℕ
  pub begins : BeginsRest s first files file at records rest
  pub flawed : HasFlaw s.options (kinds_of s.scan.fields) (used_columns s.scan) (awaits_header_after s.options.has_header records) rest flaw

-- the same, of a record whose row the slice keeps
pub record HasFlawWithinSlice (s : CsvScan) (first : ℕ) (names files : List (List ℕ)) (flaw : Flaw) (file at : ℕ) : Type 0 where
  pub flawed : HasFlawAt s first files flaw file at
  pub kept : csv_keeps s first names files (position_at s first files file at flawed.records flawed.rest flawed.begins) ≡ true

-- one of the rows that the slice keeps, the one at this position
pub record HasKeptRow (s : CsvScan) (first : ℕ) (names files : List (List ℕ)) (position : ℕ) : Type 0 where
  pub file : ℕ
  pub at : ℕ
  pub records : List CsvRecord
  pub rest : List ℕ
  pub begins : BeginsRest s first files file at records rest
  pub behind : awaits_header_after s.options.has_header records ≡ false
  pub found : CsvRecord
  pub after : List ℕ
  pub is_record : IsRecord s.options found rest after
  pub cells : List CsvCell
  pub is_row : row_of s.options (kinds_of s.scan.fields) found ≡ IsRow cells
  pub position_is : position ≡ position_at s first files file at records rest begins
  pub kept : csv_keeps s first names files position ≡ true

-- a row that the slice keeps, whose number, and so the one after it, does not fit in 32 bits
pub record HasLargeIndex (s : CsvScan) (first : ℕ) (names files : List (List ℕ)) : Type 0 where
  pub index : RowIndex
  pub asked : s.scan.asked.row_index ≡ Some index
  pub position : ℕ
  pub row : HasKeptRow s first names files position
  pub large : 4294967295 < index.offset + position + 1

-- when a scan of CSV files with these names and bytes, whose numbers within the query go on from the first, may have a fault: by one record, by one row,
-- by the number of rows, or by the first bytes of a file. Other faults are none of files
abbrev pub CsvCause : CsvScan → ℕ → List (List ℕ) → List (List ℕ) → Fault → Type 0
CsvCause s first names files (faults.Malformed file at) = HasFlawAt s first files Malformed file at
CsvCause s first names files (faults.Unsupported file code) = (source : ℕ) × (file ≡ first + source) × (bytes : List ℕ) × (slice_get files source ≡ Some bytes)
    × (compression_code bytes ≡ Some code)
CsvCause s first names files (faults.ComputeError kinds.NotUtf8 file at) = HasFlawAt s first files NotUtf8 file at
CsvCause s first names files (faults.ComputeError kinds.IllTyped file at) = HasFlawWithinSlice s first names files IllTyped file at
CsvCause s first names files (faults.ComputeError kinds.TooManyRows file at) = (file ≡ 4294967295) × (at ≡ 0) × (4294967295 < rows_in_all s files)
CsvCause s first names files (faults.ComputeError kinds.IndexTooLarge file at) = (file ≡ 4294967295) × (at ≡ 0) × HasLargeIndex s first names files
CsvCause s first names files fault = ⊥

-- when a query with this left side and this join may have a fault of its files: of those of one side
abbrev pub CauseBy : FileScan → Option JoinPart → List (List ℕ) → Fault → Type 0
CauseBy left None files fault = CsvCause (csv_scan left) 0 left.sources files fault
CauseBy left (Some join) files fault = CsvCause (csv_scan left) 0 left.sources (left_files left files) fault
    ⊎ CsvCause (csv_scan join.right) (length left.sources) join.right.sources (right_files left files) fault

-- when a query with this left side, this join and this group-by may have a fault of its groups, where these may be the rows that it groups
abbrev pub GroupCauseBy : FileScan → Option JoinPart → Option GroupAsked → (List Row → Type 0) → Fault → Type 0
GroupCauseBy left join None IsInput fault = ⊥
GroupCauseBy left join (Some asked) IsInput fault = (input : List Row) × IsInput input × GroupCause (shape_over left join asked) input fault

-- when a query over CSV files with these bytes may have a fault of its files
abbrev pub QueryCause : QueryParts → List (List ℕ) → Fault → Type 0
QueryCause query files fault = CauseBy query.left query.join files fault
