-- What a line of CSV pieces is for, as contracts see it.
use Rattle.std.specs.Prelude.{ℕ, List}
use Rattle.morsel_scan.specs.Scans.{CsvScan}
use Rattle.morsel_line.specs.RowStages.{StageSeen}

-- a scan, what its files contain, and what becomes of its rows
pub record Job : Type 0 where
  pub scan : CsvScan
  pub first : ℕ  -- the number of its first file within the query
  pub names : List (List ℕ)  -- the names of its files
  pub opened : List ℕ  -- their numbers as they were opened
  pub files : List (List ℕ)  -- their bytes
  pub stage : StageSeen  -- what the rows are that come out
