-- How many sweeps a run makes at most.
use Rattle.std.specs.Prelude.{◌≡◌, ◌⊎◌, ℕ, ◌+◌, ◌*◌, ◌≤◌, max, Option, Some, None, List, length}
use Rattle.std.specs.List.{sum_by}
use Rattle.morsel_outside.specs.Outside.{Outside}
use Rattle.morsel_group.specs.Asked.{GroupAsked, group_fields}
use Rattle.morsel_scan.specs.CsvPieces.{HaveRows}
use Rattle.morsel_query.specs.RunOptions.{RunOptions}
use Rattle.morsel_query.specs.Queries.{FileScan, JoinPart, QueryParts, fields_of_format}
use Rattle.morsel_query.specs.QueryFlaws.{sources_of}
use Rattle.morsel_query.specs.Plans.{fields_of_scan, fields_of_join, fields_of_input}
use Rattle.morsel_query.specs.Meanings.{csv_scan, left_files, right_files}
use Rattle.morsel_engine.specs.Runs.{HasOpened}

-- the bound, for so many workers, bytes of all sources, sources, rows of the left scan and of the right one, and columns
abbrev pub sweep_bound : ℕ → ℕ → ℕ → ℕ → ℕ → ℕ → ℕ
sweep_bound workers bytes sources left right columns = 1024 * (workers + bytes + sources + (left + 1) * (right + 1)) * (columns + 1)

-- a scan has so many rows, where its files are records to their ends; else they are taken for as many as there may be
abbrev pub HasScanRows : FileScan → List (List ℕ) → ℕ → Type 0
HasScanRows scan files rows = HaveRows (csv_scan scan) files rows ⊎ (((n : ℕ) → HaveRows (csv_scan scan) files n → ⊥) × (rows ≡ 4294967295))

-- the sides of a join have so many rows, where their bytes are told; else they are taken for as many as there may be
abbrev pub HaveJoinedRows : Option (List (List ℕ)) → FileScan → JoinPart → List (List ℕ) → ℕ → ℕ → Type 0
HaveJoinedRows None left join files lefts rights = (lefts ≡ 4294967295) × (rights ≡ 4294967295)
HaveJoinedRows (Some held) left join files lefts rights = HasScanRows left (left_files left files) lefts × HasScanRows join.right (right_files left files) rights

-- a scan whose rows are grouped has so many, and there are no right ones, where its bytes are told; else both are taken for as many as there may be
abbrev pub HaveGroupedRows : Option (List (List ℕ)) → FileScan → List (List ℕ) → ℕ → ℕ → Type 0
HaveGroupedRows None left files lefts rights = (lefts ≡ 4294967295) × (rights ≡ 4294967295)
HaveGroupedRows (Some held) left files lefts rights = HasScanRows left files lefts × (rights ≡ 0)

-- the scans of a query with this left side, this join and this group-by have so many rows, where what the files contain is told or not; a query without a join has no right ones
abbrev pub HaveSideRows : Option (List (List ℕ)) → FileScan → Option JoinPart → Option GroupAsked → List (List ℕ) → ℕ → ℕ → Type 0
HaveSideRows held left None None files lefts rights = HasScanRows left files lefts × (rights ≡ 0)
HaveSideRows held left None (Some group) files lefts rights = HaveGroupedRows held left files lefts rights
HaveSideRows held left (Some join) group files lefts rights = HaveJoinedRows held left join files lefts rights

-- the greatest number of columns of a scan: of its files, or of its rows
abbrev pub width_of_scan : FileScan → ℕ
width_of_scan scan = max (length (fields_of_format scan.format)) (length (fields_of_scan scan))

-- the greatest number of columns of a query with this left side and this join: of the files, or of the rows
abbrev pub width_by : FileScan → Option JoinPart → ℕ
width_by left None = width_of_scan left
width_by left (Some join) = max (max (width_of_scan left) (width_of_scan join.right)) (length (fields_of_join (fields_of_scan left) join))

-- the same with this group-by, whose rows have columns of their own
abbrev pub width_with : FileScan → Option JoinPart → Option GroupAsked → ℕ
width_with left join None = width_by left join
width_with left join (Some group) = max (width_by left join) (length (group_fields (fields_of_input left join) group))

-- the greatest number of columns of a query
abbrev pub greatest_width : QueryParts → ℕ
greatest_width query = width_with query.left query.join query.group

-- a run that counted its sweeps on from the first number to the second made no more than the bound, for the files that it opened
abbrev pub SweepsWithin : Outside → QueryParts → RunOptions → ℕ → Outside → ℕ → Type 0
SweepsWithin old query options before new after = (files : List (List ℕ)) (lefts rights : ℕ) → HasOpened old query files new → HaveSideRows new.held query.left query.join query.group files lefts rights
    → after ≤ before + sweep_bound options.workers (sum_by length files) (length (sources_of query)) lefts rights (greatest_width query)
