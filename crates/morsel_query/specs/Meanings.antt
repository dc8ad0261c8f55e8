-- What a query means: the rows that its files allow, and the text of rows in its sink.
use Rattle.std.specs.Prelude.{◌≡◌, ℕ, ◌≤◌, Option, Some, None, Result, Ok, List, length, map, take, drop}
use Rattle.std.specs.List.{All}
use Rattle.morsel_meaning.specs.declared.fault.Fault.{Fault}
use Rattle.morsel_meaning.specs.Values.{Row, kinds_of, names_of}
use Rattle.morsel_grammar.specs.Dialect.{Dialect}
use Rattle.morsel_grammar.specs.Rows.{IsOfGrammar}
use Rattle.morsel_group.specs.Asked.{GroupAsked, GroupShape, shape_of}
use Rattle.morsel_group.specs.GroupCauses.{FitsGroups}
use Rattle.morsel_group.specs.Grouping.{Grouped}
use Rattle.morsel_join.specs.Items.{JoinItem, JoinItems, IsPromised}
use Rattle.morsel_join.specs.Payloads.{key_places}
use Rattle.morsel_join.specs.Rows.{item_row, join_columns, rows_match}
use Rattle.morsel_scan.specs.Scans.{CsvScan}
use Rattle.morsel_scan.specs.ScanRows.{total_rows}
use Rattle.morsel_scan.specs.CsvScans.{csv_sources, csv_scan_rows}
use Rattle.morsel_sink.specs.Sinks.{text_by_format}
use Rattle.morsel_query.specs.Queries.{FileFormat, CsvFiles, FileScan, JoinPart, QueryParts, scan_asked}
use Rattle.morsel_query.specs.Plans.{planned, output_of, fields_of_scan, fields_of_input, query_fault}

-- how the files of a format are written
abbrev pub dialect_of : FileFormat → Dialect
dialect_of (CsvFiles fields options) = options

-- what is asked of CSV files, and how they are written
abbrev pub csv_scan : FileScan → CsvScan
csv_scan files = record { scan = scan_asked files; options = dialect_of files.format }

-- the rows of a scan of files of this format with these bytes, whose numbers within the query go on from the first; a fault where it has no meaning
abbrev pub rows_by_format : FileFormat → FileScan → ℕ → List (List ℕ) → Result (List Row) Fault
rows_by_format (CsvFiles fields options) scan first files = csv_scan_rows (csv_scan scan) first scan.sources files

-- the rows of a scan of files with these bytes
abbrev pub rows_over : FileScan → ℕ → List (List ℕ) → Result (List Row) Fault
rows_over scan first files = rows_by_format scan.format scan first files

-- how many rows files of this format with these bytes have, before a slice or a filter
abbrev pub height_by_format : FileFormat → FileScan → ℕ → List (List ℕ) → ℕ
height_by_format (CsvFiles fields options) scan first files = total_rows (csv_sources (csv_scan scan) first scan.sources files)

-- how many rows the files of a scan have
abbrev pub height_over : FileScan → ℕ → List (List ℕ) → ℕ
height_over scan first files = height_by_format scan.format scan first files

-- each file is one of this format
abbrev pub AreOfFormat : FileFormat → List (List ℕ) → Type 0
AreOfFormat (CsvFiles fields options) files = All (IsOfGrammar options (kinds_of fields)) files

-- the files of the left side, of those of a query with a join: the first
abbrev pub left_files : FileScan → List (List ℕ) → List (List ℕ)
left_files left files = take (length left.sources) files

-- the files of the right side: those that follow
abbrev pub right_files : FileScan → List (List ℕ) → List (List ℕ)
right_files left files = drop (length left.sources) files

-- rows that a join may give of these rows of its sides: those of a list that has each of its pairs and of its lone rows once, in the promised order
pub record AreJoinRows (left : FileScan) (join : JoinPart) (lefts rights rows : List Row) : Type 0 where
  pub items : List JoinItem
  pub once : JoinItems join.args.how (rows_match join.args.join_nulls (key_places (fields_of_scan left) join.left_keys) (key_places (fields_of_scan join.right) join.right_keys)) lefts rights items
  pub promised : IsPromised join.args.maintain_order items
  pub rows_are : rows ≡ map (item_row (join_columns join.args (fields_of_scan left) (fields_of_scan join.right) join.left_keys join.right_keys) lefts rights) items

-- rows that a join of scans may give, where their sources have these bytes, those of the left one first
pub record JoinMeans (left : FileScan) (join : JoinPart) (files : List (List ℕ)) (rows : List Row) : Type 0 where
  pub lefts : List Row
  pub rights : List Row
  pub left_rows : rows_over left 0 (left_files left files) ≡ Ok lefts
  pub right_rows : rows_over join.right (length left.sources) (right_files left files) ≡ Ok rights
  pub joined : AreJoinRows left join lefts rights rows

-- the rows that a query with this left side and this join may give, before they are grouped
abbrev pub MeansBy : FileScan → Option JoinPart → List (List ℕ) → List Row → Type 0
MeansBy left None files rows = rows_over left 0 files ≡ Ok rows
MeansBy left (Some join) files rows = JoinMeans left join files rows

-- a group-by of the rows of a query with this left side and this join: the places of its keys and of what it reduces
abbrev pub shape_over : FileScan → Option JoinPart → GroupAsked → GroupShape
shape_over left join asked = shape_of (fields_of_input left join) asked

-- the rows of a group-by of rows that a query with this left side and this join may give, the same rows for all reductions
pub record GroupMeans (left : FileScan) (join : Option JoinPart) (asked : GroupAsked) (files : List (List ℕ)) (rows : List Row) : Type 0 where
  pub input : List Row
  pub means : MeansBy left join files input
  pub grouped : Grouped (shape_over left join asked) input rows

-- the rows that a query with this left side, this join and this group-by may give
abbrev pub MeansWith : FileScan → Option JoinPart → Option GroupAsked → List (List ℕ) → List Row → Type 0
MeansWith left join None files rows = MeansBy left join files rows
MeansWith left join (Some asked) files rows = GroupMeans left join asked files rows

-- the rows that a query may give, where its sources have these bytes: those of its scan, or of its join; or a group-by of these
abbrev pub Meaning : QueryParts → List (List ℕ) → List Row → Type 0
Meaning query files rows = MeansWith query.left query.join query.group files rows

-- the text of rows of a query in its sink
abbrev pub text_of : QueryParts → List Row → List ℕ
text_of query rows = text_by_format query.sink.format (names_of (output_of (planned query))) rows

-- it holds of each scan of a query with this left side and this join, of the number of its first source and the bytes of its sources
abbrev pub EachSide : (FileScan → ℕ → List (List ℕ) → Type 0) → FileScan → Option JoinPart → List (List ℕ) → Type 0
EachSide P left None files = P left 0 files
EachSide P left (Some join) files = P left 0 (left_files left files) × P join.right (length left.sources) (right_files left files)

-- whatever rows a query with this left side and this join gives, a group-by of them has an answer, if there is memory
abbrev pub GroupsFit : FileScan → Option JoinPart → Option GroupAsked → List (List ℕ) → Type 0
GroupsFit left join None files = Unit {0}
GroupsFit left join (Some asked) files = (input : List Row) → MeansBy left join files input → FitsGroups (shape_over left join asked) input

-- a query whose names meet its columns, over files of which it has a meaning: each is one of its format, no scan has too many rows, no bad cell is used,
-- no number of a row is too large, and there are not too many groups, nor too many rows of one, nor a total that is too large
pub record IsValid (query : QueryParts) (files : List (List ℕ)) : Type 0 where
  pub planned : query_fault query ≡ None
  pub of_format : EachSide (λ scan first bytes. AreOfFormat scan.format bytes) query.left query.join files
  pub few : EachSide (λ scan first bytes. height_over scan first bytes ≤ 4294967295) query.left query.join files
  pub groups_fit : GroupsFit query.left query.join query.group files
  pub rows : List Row
  pub means : Meaning query files rows
