-- The run of a group-by: rows are taken, of a scan or of a join of two, and then the rows of the group-by are written.
use Rattle.std.specs.Prelude.{◌≡◌, ◌⊎◌, ℕ, ◌+◌, ◌*◌, ◌^◌, ◌<◌, ◌≤◌, ◌++◌, if◌then◌else◌, IfErr, Result, Ok, Err, List, [], length}
use Rattle.morsel_meaning.specs.declared.fault.Fault.{Fault}
use Rattle.morsel_meaning.specs.declared.fault.Fault.TheVariants as faults
use Rattle.morsel_meaning.specs.Values.{Row}
use Rattle.morsel_outside.specs.Outside.{Outside}
use Rattle.morsel_read.specs.ScanReads.{HasGivenRows}
use Rattle.morsel_drain.specs.Finding.{IsRowsEnd}
use Rattle.morsel_join.specs.declared.rules.JoinRules.{JoinRules}
use Rattle.morsel_join.specs.Sides.{KeptSide, rows_alone, rows_found, wants_kept}
use Rattle.morsel_line.specs.RowStages.{GivenRows}
use Rattle.morsel_line.specs.ScanJobs.{IsJobPiece}
use Rattle.morsel_line.specs.ScanRuns.{JobGives, job_of}
use Rattle.morsel_group.specs.Grouping.{Grouped}
use Rattle.morsel_group.specs.GroupCauses.{FitsGroups, GroupCause}
use Rattle.morsel_group_units.specs.GroupAsks.{GroupRulesSeen, rules_output, rules_shape}
use Rattle.morsel_keep_run.specs.KeepRuns.{KeepsScan}
use Rattle.morsel_emit_run.specs.EmitRuns.{WritesPlace}
use Rattle.morsel_join_plan.specs.JoinRuns.{HasKept, IsLeftSo, JoinScan, scan_size}

-- of the rows that were taken, which are of the input whatever its files are told to contain, a group-by has no answer
pub record HasNoGroups (is_input : List (List ℕ) → List Row → Type 0) (scan : JoinScan) (group : GroupRulesSeen) (opened : Outside) (fault : Fault) : Type 0 where
  pub rows : List Row
  pub are : (files : List (List ℕ)) → HasGivenRows scan.scan files opened scan.reader → is_input files rows
  pub cause : GroupCause (rules_shape group) rows fault

-- once all rows are taken, nothing fails but a write, or for want of memory
abbrev pub IsLastFault : Fault → Type 0
IsLastFault faults.OutOfMemory = Unit {0}
IsLastFault faults.WriteFault = Unit {0}
IsLastFault fault = ⊥

-- of the rows that were taken the group-by has an answer, and it is these rows, which were written
pub record WritesGroups (is_input : List (List ℕ) → List Row → Type 0) (scan : JoinScan) (group : GroupRulesSeen) (opened before : Outside) (result : Result ℕ Fault) (after : Outside) : Type 0 where
  pub rows : List Row
  pub are : (files : List (List ℕ)) → HasGivenRows scan.scan files opened scan.reader → is_input files rows
  pub groups : List Row
  pub grouped : Grouped (rules_shape group) rows groups
  pub fits : FitsGroups (rules_shape group) rows
  pub few : length groups ≤ length rows
  pub writes : WritesPlace scan.scan scan.reader opened (GivenRows (rules_output group) groups) before result after
  pub last : IfErr result IsLastFault

-- all rows were taken: they have no answer, and nothing was written; or the answer was written; or memory ran out before that
abbrev pub EndsGroups : (List (List ℕ) → List Row → Type 0) → JoinScan → GroupRulesSeen → Outside → Outside → Result ℕ Fault → Outside → Type 0
EndsGroups is_input scan group opened before result after = IsLeftSo before result after
    ⊎ ((fault : Fault) × (result ≡ Err fault) × (after ≡ before) × HasNoGroups is_input scan group opened fault)
    ⊎ WritesGroups is_input scan group opened before result after

-- the files of a scan were read, and rows were taken that are of the input where so many bytes were given; or they could not be read, as the run says; or memory ran out before that
pub record GroupsRows (is_input : ℕ → List (List ℕ) → List Row → Type 0) (scan : JoinScan) (group : GroupRulesSeen) (before : Outside) (result : Result ℕ Fault) (after : Outside) : Type 0 where
  pub course : IsLeftSo before result after
      ⊎ ((fault : Fault) × KeepsScan scan.scan scan.reader before (Err fault) after × (result ≡ Err fault))
      ⊎ ((given : ℕ) × (between : Outside) × KeepsScan scan.scan scan.reader before (Ok given) between × EndsGroups (is_input given) scan group before between result after)

-- the rows of a scan were grouped
abbrev pub GroupsScan : JoinScan → GroupRulesSeen → Outside → Result ℕ Fault → Outside → Type 0
GroupsScan scan group before result after = GroupsRows (λ given files rows. JobGives (job_of scan.scan scan.reader files) given rows) scan group before result after

-- what rows find on a kept side, and then the kept rows that they do not find, where the kind of the join has them
abbrev pub joined_rows : KeptSide → List Row → List Row
joined_rows side asked = rows_found side asked ++ (if wants_kept side then rows_alone side asked else [])

-- those of the rows that the first bytes of a scan's files give
abbrev pub JoinGives : JoinScan → KeptSide → ℕ → List (List ℕ) → List Row → Type 0
JoinGives asked side given files rows = (looked_up : List Row) × JobGives (job_of asked.scan asked.reader files) given looked_up × (rows ≡ joined_rows side looked_up)

-- the rows of a join of two scans were grouped: the rows of one could not be kept, as its run says; or they were, and those of the join were grouped; or memory ran out before one or the other
pub record GroupsJoin (kept asked : JoinScan) (rules : JoinRules) (group : GroupRulesSeen) (before : Outside) (result : Result ℕ Fault) (after : Outside) : Type 0 where
  pub course : IsLeftSo before result after
      ⊎ ((fault : Fault) × KeepsScan kept.scan kept.reader before (Err fault) after × (result ≡ Err fault))
      ⊎ ((given : ℕ) × (between : Outside) × KeepsScan kept.scan kept.reader before (Ok given) between × IsLeftSo between result after)
      ⊎ ((side : KeptSide) × (between : Outside) × HasKept kept rules side before between × GroupsRows (JoinGives asked side) asked group between result after)

-- there were so many rows of a group-by: none, or no more than there are rows of the input
abbrev pub AreFewGroups : (ℕ → List (List ℕ) → List Row → Type 0) → JoinScan → Outside → ℕ → Type 0
AreFewGroups is_input scan opened groups = (files : List (List ℕ)) → HasGivenRows scan.scan files opened scan.reader → (groups ≡ 0) ⊎ ((given : ℕ) × (rows : List Row) × is_input given files rows × (groups ≤ length rows))

-- few sweeps were made for each byte of the files, and for each row of the group-by
pub record SweepsGroups (scan : JoinScan) (opened : Outside) (before after : ℕ) : Type 0 where
  pub groups : ℕ
  pub few : after ≤ before + 1024 * (scan_size scan opened + 3) + 512 * groups
  pub small : groups < 2 ^ 64
  pub within : AreFewGroups (λ given files rows. JobGives (job_of scan.scan scan.reader files) given rows) scan opened groups

-- the kept rows of a join are those that some first bytes of a scan's files give, and others have their end at a place; the rows of a group-by are no more than those of the join
pub record AreFewJoined (kept asked : JoinScan) (files others : List (List ℕ)) (per_row looked_up groups : ℕ) : Type 0 where
  pub side : KeptSide
  pub given : ℕ
  pub gives : JobGives (job_of kept.scan kept.reader files) given side.rows
  pub finds : per_row ≤ length side.rows
  pub ends : IsRowsEnd (IsJobPiece (job_of asked.scan asked.reader others)) looked_up
  pub few : (groups ≡ 0) ⊎ ((to : ℕ) × (rows : List Row) × JoinGives asked side to others rows × (groups ≤ length rows))

-- few sweeps were made for each byte of the files, for each row that the rows of one side may find on the other, and for each row of the group-by
pub record SweepsGroupsJoin (kept asked : JoinScan) (opened : Outside) (before after : ℕ) : Type 0 where
  pub per_row : ℕ
  pub looked_up : ℕ
  pub groups : ℕ
  pub few : after ≤ before + 1024 * (scan_size kept opened + scan_size asked opened + 4) + 512 * (per_row * looked_up) + 512 * groups
  pub kept_small : per_row ≤ 4294967295
  pub asked_small : looked_up ≤ 4294967295
  pub groups_small : groups < 2 ^ 64
  pub within : (files others : List (List ℕ)) → HasGivenRows kept.scan files opened kept.reader → HasGivenRows asked.scan others opened asked.reader → AreFewJoined kept asked files others per_row looked_up groups
