-- The run of a join of two scans: the rows of one are kept, then those of the other are looked up, then the kept rows follow that none of them finds.
use Rattle.std.specs.Prelude.{◌≡◌, ◌⊎◌, ℕ, ◌+◌, ◌*◌, ◌^◌, ◌<◌, ◌≤◌, true, false, Result, Ok, Err, List, length}
use Rattle.std.specs.List.{sum_by}
use Rattle.morsel_meaning.specs.declared.fault.Fault.{Fault}
use Rattle.morsel_meaning.specs.declared.fault.Fault.TheVariants as faults
use Rattle.morsel_outside.specs.Outside.{Outside}
use Rattle.morsel_scan.specs.Scans.{CsvScan}
use Rattle.morsel_scan.specs.StretchRows.{before_fault}
use Rattle.morsel_read.specs.ScanReads.{PiecesRead, HasGivenRows, sizes_in}
use Rattle.morsel_join.specs.declared.rules.JoinRules.{JoinRules}
use Rattle.morsel_join.specs.Sides.{KeptSide, IsRightSide, wants_kept, rows_found, rows_alone}
use Rattle.morsel_line.specs.ScanJobs.{scan_axis}
use Rattle.morsel_line.specs.ScanRuns.{JobGives, job_of}
use Rattle.morsel_keep_run.specs.KeepRuns.{KeepsScan}
use Rattle.morsel_probe_run.specs.ProbeRuns.{WritesFound}
use Rattle.morsel_emit_run.specs.EmitRuns.{WritesAlone}

-- a scan of CSV files, and the reader that is to read them
pub record JoinScan : Type 0 where
  pub scan : CsvScan
  pub reader : PiecesRead

-- the rows of a scan were kept, on this side of a join by these rules
pub record HasKept (kept : JoinScan) (rules : JoinRules) (side : KeptSide) (before after : Outside) : Type 0 where
  pub rules_are : side.rules ≡ rules
  pub is_right : IsRightSide side
  pub given : ℕ
  pub keeps : KeepsScan kept.scan kept.reader before (Ok given) after
  pub gives : (files : List (List ℕ)) → HasGivenRows kept.scan files before kept.reader → JobGives (job_of kept.scan kept.reader files) given side.rows

-- this number more
abbrev pub and_more : ℕ → Result ℕ Fault → Result ℕ Fault
and_more n (Ok m) = Ok (n + m)
and_more n (Err fault) = Err fault

-- memory ran out before anything more was done
abbrev pub IsLeftSo : Outside → Result ℕ Fault → Outside → Type 0
IsLeftSo before result after = (result ≡ Err faults.OutOfMemory) × (after ≡ before)

-- so many rows were written that were found; the kept rows that none finds followed, where the kind of the join has them. The files of the other scan were as they are in this outside
pub record EndsJoin (asked : JoinScan) (side : KeptSide) (opened : Outside) (count : ℕ) (before : Outside) (result : Result ℕ Fault) (after : Outside) : Type 0 where
  pub none : wants_kept side ≡ false → (result ≡ Ok count) × (after ≡ before)
  pub alone : wants_kept side ≡ true → IsLeftSo before result after
      ⊎ ((found : Result ℕ Fault) × WritesAlone asked.scan asked.reader opened side before found after × (result ≡ and_more count found))

-- the rows of the other scan were looked up and written; after a fault nothing more was done
pub record WritesJoin (asked : JoinScan) (side : KeptSide) (bound : ℕ) (before : Outside) (result : Result ℕ Fault) (after : Outside) : Type 0 where
  pub found : Result ℕ Fault
  pub between : Outside
  pub writes : WritesFound asked.scan asked.reader side bound before found between
  pub stops : (fault : Fault) → found ≡ Err fault → (result ≡ Err fault) × (after ≡ between)
  pub ends : (count : ℕ) → found ≡ Ok count → IsLeftSo between result after ⊎ EndsJoin asked side before count between result after

-- a join of two scans was written: the rows of one could not be kept, as its run says; or they were, and the join was written; or memory ran out before one or the other
pub record JoinsScans (kept asked : JoinScan) (rules : JoinRules) (bound : ℕ) (before : Outside) (result : Result ℕ Fault) (after : Outside) : Type 0 where
  pub course : IsLeftSo before result after
      ⊎ ((fault : Fault) × KeepsScan kept.scan kept.reader before (Err fault) after × (result ≡ Err fault))
      ⊎ ((given : ℕ) × (between : Outside) × KeepsScan kept.scan kept.reader before (Ok given) between × IsLeftSo between result after)
      ⊎ ((side : KeptSide) × (between : Outside) × HasKept kept rules side before between × WritesJoin asked side bound between result after)

-- how many bytes the files of a scan have
abbrev pub scan_size : JoinScan → Outside → ℕ
scan_size join_scan o = sum_by (λ n. n) (sizes_in o.sizes join_scan.reader.sources.files)

-- rows that were written are no more than the rows of a scan find on a side that has some first rows of another scan, and those that they do not find
pub record AreFewRows (kept asked : JoinScan) (files others : List (List ℕ)) (rows : ℕ) : Type 0 where
  pub side : KeptSide
  pub given : ℕ
  pub gives : JobGives (job_of kept.scan kept.reader files) given side.rows
  pub few : (let looked_up = before_fault (scan_axis (job_of asked.scan asked.reader others)).gives in rows ≤ length (rows_found side looked_up) + length (rows_alone side looked_up))

-- few sweeps were made for each byte of the files and for each row that was written, and no more rows were written than there are
pub record SweepsJoin (kept asked : JoinScan) (opened : Outside) (before after : ℕ) : Type 0 where
  pub rows : ℕ
  pub few : after ≤ before + 1024 * (scan_size kept opened + scan_size asked opened + 4) + 512 * rows
  pub small : rows < 2 ^ 65
  pub within : (files others : List (List ℕ)) → HasGivenRows kept.scan files opened kept.reader → HasGivenRows asked.scan others opened asked.reader → AreFewRows kept asked files others rows
