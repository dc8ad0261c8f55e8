-- The course of a group-by of a join, put together of what its phases did.
use Rattle.std.proofs.Common.{◌≡◌, ◌⊎◌, inl, inr, ℕ, ◌+◌, ◌*◌, ◌≤◌, true, List, [], Result, Ok, Err, IfErr, IsOkUnless, length, refl, sym, ap, subst, ◌∙◌, arith}
use Rattle.std.specs.List.{sum_by}
use Rattle.atomic_table.specs.Seated.{TableId}
use Rattle.morsel_meaning.specs.declared.fault.Fault.{Fault}
use Rattle.morsel_meaning.specs.declared.fault.Fault.TheVariants as faults
use Rattle.morsel_meaning.specs.Values.{Row}
use Rattle.morsel_outside.specs.Outside.{Outside}
use Rattle.morsel_scan.specs.Scans.{CsvScan}
use Rattle.morsel_read.specs.ScanReads.{HasGivenRows, PiecesRead, sizes_in}
use Rattle.morsel_read.proofs.SourceLemmas.{told_same}
use Rattle.morsel_drain.specs.Draining.{LeavesAllElse}
use Rattle.morsel_join.specs.declared.rules.JoinRules.{JoinRules}
use Rattle.morsel_join.specs.Sides.{KeptSide}
use Rattle.morsel_group_units.specs.GroupAsks.{GroupRulesSeen}
use Rattle.morsel_group_phases.specs.declared.phase.GroupPhase.{GroupPhase}
use Rattle.morsel_scan_units.specs.LaneJobs.{LaneFor}
use Rattle.morsel_keep_run.specs.KeepRuns.{KeepsOrNot, KeepsScan, SweepsKept}
use Rattle.morsel_join_plan.specs.JoinLanes.{StopsKept, rows_lane}
use Rattle.morsel_join_plan.specs.JoinRuns.{HasKept, JoinScan, scan_size}
use Rattle.morsel_group_plan.specs.GroupLanes.{AreRowsTo, GivesGroups, SweepsGiving}
use Rattle.morsel_group_plan.specs.GroupRuns.{AreFewJoined, EndsGroups, GroupsJoin, GroupsRows, JoinGives, SweepsGroupsJoin}
use Rattle.morsel_group_plan.specs.JoinedLanes.{HasTakenJoined, SweepsGrouped, SweepsTaken, joined_ends}
use Rattle.morsel_group_plan.proofs.JoinedFacts.{kept_all, took_joined}

-- the rows of the other scan could not be looked up
pub taken_stopped : (asked : JoinScan) (before after : Outside) (fault : Fault) → KeepsOrNot asked.scan asked.reader before (Err fault) after → StopsKept asked before fault after
taken_stopped asked before after fault (inl left) = inl left
taken_stopped asked before after fault (inr keeps) = inr (inl keeps)

-- they were, and memory ran out behind it
pub others_stopped : {X : Type 0} (asked : JoinScan) (before after : Outside) (given : ℕ) (result : Result X Fault) → KeepsScan asked.scan asked.reader before (Ok given) after → IsOkUnless result faults.OutOfMemory
    → IfErr result (λ fault. StopsKept asked before fault after)
others_stopped asked before after given (Ok x) keeps out = tt
others_stopped asked before after given (Err fault) keeps out = inr (inr (given, keeps, out))

-- the rows of a join could not be taken
pub rest_stopped : (asked : JoinScan) (side : KeptSide) (group : GroupRulesSeen) (before after : Outside) (fault : Fault) → StopsKept asked before fault after → GroupsRows (JoinGives asked side) asked group before (Err fault) after
rest_stopped asked side group before after fault (inl left) = record { course = inl left }
rest_stopped asked side group before after fault (inr (inl keeps)) = record { course = inr (inl (fault, keeps, refl)) }
rest_stopped asked side group before after fault (inr (inr (given, keeps, is))) = record { course = inr (inr (given, after, keeps, inl (ap Err is, refl))) }

-- they were, and the rows of the group-by followed
module _ (asked : JoinScan) (side : KeptSide) (group : GroupRulesSeen) (opened between : Outside) where
  ends_joined : (tokens : TableId) (given : ℕ) (result : Result ℕ Fault) (after : Outside) → ((rows : List Row) → AreRowsTo (joined_ends side (rows_lane asked.scan asked.reader opened tokens) given) rows
      → (files : List (List ℕ)) → HasGivenRows asked.scan files opened asked.reader → JoinGives asked side given files rows)
      → GivesGroups asked group (joined_ends side (rows_lane asked.scan asked.reader opened tokens) given) opened between result after → EndsGroups (JoinGives asked side given) asked group opened between result after
  ends_joined tokens given result after are (inl left) = inl left
  ends_joined tokens given result after are (inr (inl (fault, is, same, cause))) = inr (inl (fault, is, same, record { rows = cause.rows; are = are cause.rows cause.are; cause = cause.cause }))
  ends_joined tokens given result after are (inr (inr (rows, groups, known, grouped, fits, few, writes, last))) =
      inr (inr (record { rows = rows; are = are rows known; groups = groups; grouped = grouped; fits = fits; few = few; writes = writes; last = last }))

  pub rest_grouped : {K : Type 0} {a b : _} (phase : GroupPhase K LaneFor a b) (result : Result ℕ Fault) (after : Outside) → (has : HasTakenJoined phase asked side group opened between)
      → GivesGroups asked group (joined_ends side (rows_lane asked.scan asked.reader opened has.tokens) has.given) opened between result after → GroupsRows (JoinGives asked side) asked group opened result after
  rest_grouped phase result after has gives = record {
    course = inr (inr (
      has.given,
      between,
      has.keeps,
      ends_joined has.tokens has.given result after
          (λ rows known files had. took_joined asked.scan asked.reader opened has.tokens side has.given (kept_all asked.scan asked.reader opened between has.given has.keeps) rows known files had) gives,
    ));
  }

-- the rows of one side could not be kept
pub joined_stopped : (kept asked : JoinScan) (rules : JoinRules) (group : GroupRulesSeen) (before after : Outside) (fault : Fault) → StopsKept kept before fault after → GroupsJoin kept asked rules group before (Err fault) after
joined_stopped kept asked rules group before after fault (inl left) = record { course = inl left }
joined_stopped kept asked rules group before after fault (inr (inl keeps)) = record { course = inr (inl (fault, keeps, refl)) }
joined_stopped kept asked rules group before after fault (inr (inr (given, keeps, is))) = record { course = inr (inr (inl (given, after, keeps, (ap Err is, refl)))) }

-- they were kept
pub joined_kept : (kept asked : JoinScan) (rules : JoinRules) (group : GroupRulesSeen) (side : KeptSide) (before between after : Outside) (result : Result ℕ Fault) → HasKept kept rules side before between
    → GroupsRows (JoinGives asked side) asked group between result after → GroupsJoin kept asked rules group before result after
joined_kept kept asked rules group side before between after result has groups = record { course = inr (inr (inr (side, between, has, groups))) }

-- nothing was done
pub kept_unswept : (s : CsvScan) (r : PiecesRead) (per_row : ℕ) (opened : Outside) (steps : ℕ) → SweepsKept s r per_row opened steps steps
kept_unswept s r per_row opened steps = record { rows = 0; few = omega arith; small = omega arith; within = λ files had. inl refl }

pub taken_unswept : (asked : JoinScan) (side : KeptSide) (opened : Outside) (steps : ℕ) → SweepsTaken asked side opened steps steps
taken_unswept asked side opened steps = record {
  per_row = 0;
  looked_up = 0;
  few = omega arith;
  kept_small = omega arith;
  asked_small = omega arith;
  finds = omega arith;
  ends = λ others had. inl refl;
}

-- rows were taken
pub taken_swept : (asked : JoinScan) (side : KeptSide) (opened : Outside) (per_row before after : ℕ) → per_row ≤ 4294967295 → per_row ≤ length side.rows → SweepsKept asked.scan asked.reader per_row opened before after
    → SweepsTaken asked side opened before after
taken_swept asked side opened per_row before after small finds kept = record {
  per_row = per_row;
  looked_up = kept.rows;
  few = kept.few;
  kept_small = small;
  asked_small = kept.small;
  finds = finds;
  ends = kept.within;
}

-- and no more was done
pub grouped_taken : (asked : JoinScan) (side : KeptSide) (opened : Outside) (before after : ℕ) → SweepsTaken asked side opened before after → SweepsGrouped asked side opened before after
grouped_taken asked side opened before after taken = record {
  between = after;
  taken = taken;
  groups = 0;
  few = omega arith;
  groups_small = omega arith;
  within = λ others had. inl refl;
}

-- and then the rows of the group-by were given
pub grouped_swept : {K : Type 0} {a b : _} (phase : GroupPhase K LaneFor a b) (asked : JoinScan) (side : KeptSide) (group : GroupRulesSeen) (opened now : Outside) (before between after : ℕ) → (has : HasTakenJoined phase asked side group opened now)
    → SweepsTaken asked side opened before between → SweepsGiving asked (joined_ends side (rows_lane asked.scan asked.reader opened has.tokens) has.given) opened between after → SweepsGrouped asked side opened before after
grouped_swept phase asked side group opened now before between after has taken giving = record {
  between = between;
  taken = taken;
  groups = giving.groups;
  few = giving.few;
  groups_small = giving.small;
  within = λ others had. within others had (giving.within others had);
}
  where
    within : (others : List (List ℕ)) → HasGivenRows asked.scan others opened asked.reader
        → (giving.groups ≡ 0) ⊎ ((rows : List Row) × AreRowsTo (joined_ends side (rows_lane asked.scan asked.reader opened has.tokens) has.given) rows × (giving.groups ≤ length rows))
        → (giving.groups ≡ 0) ⊎ ((to : ℕ) × (rows : List Row) × JoinGives asked side to others rows × (giving.groups ≤ length rows))
    within others had (inl none) = inl none
    within others had (inr (rows, known, few)) =
        inr (has.given, rows, took_joined asked.scan asked.reader opened has.tokens side has.given (kept_all asked.scan asked.reader opened now has.given has.keeps) rows known others had, few)

-- rows of one side were kept, and no more was done
pub joined_swept_kept : (kept asked : JoinScan) (rules : JoinRules) (opened : Outside) (before after : ℕ) → after ≤ before + 512 * (scan_size kept opened + 1) → SweepsGroupsJoin kept asked opened before after
joined_swept_kept kept asked rules opened before after few = record {
  per_row = 0;
  looked_up = 0;
  groups = 0;
  few = omega (arith, few);
  kept_small = omega arith;
  asked_small = omega arith;
  groups_small = omega arith;
  within = λ files others had had_others. record {
    side = record { rules = rules; is_left = true; rows = [] };
    given = 0;
    gives = record { order = omega arith; within = omega arith; all = refl };
    finds = omega arith;
    ends = inl refl;
    few = inl refl;
  };
}

-- what was given of files is so while their sizes and bytes stay
given_later : (s : CsvScan) (files : List (List ℕ)) (o other : Outside) (r : PiecesRead) → other.sizes ≡ o.sizes → other.held ≡ o.held → HasGivenRows s files o r → HasGivenRows s files other r
given_later s files o other r sizes held had = record {
  fit = had.fit;
  is = had.is;
  from_first = had.from_first;
  no_fault = had.no_fault;
  one_each = had.one_each;
  told = told_same o other r.sources.files files sizes held had.told;
  earlier = had.earlier;
  rows_before = had.rows_before;
  within = had.within;
  rows_within = had.rows_within;
  rows_are = had.rows_are;
  after_pieces = had.after_pieces;
  passed = had.passed;
}

-- and then the rest was done
pub joined_swept : (kept asked : JoinScan) (rules : JoinRules) (side : KeptSide) (opened now : Outside) (before between after : ℕ) → between ≤ before + 512 * (scan_size kept opened + 1) → HasKept kept rules side opened now
    → SweepsGrouped asked side now between after → SweepsGroupsJoin kept asked opened before after
joined_swept kept asked rules side opened now before between after first has rest =
    let leaves : LeavesAllElse opened now = has.keeps.leaves in
    let same : scan_size asked now ≡ scan_size asked opened = ap (λ (ns : List ℕ). sum_by (λ n. n) (sizes_in ns asked.reader.sources.files)) leaves.sizes in record {
      per_row = rest.taken.per_row;
      looked_up = rest.taken.looked_up;
      groups = rest.groups;
      few = (let taken = rest.taken.few in let later = rest.few in omega (arith, first, taken, later, same));
      kept_small = rest.taken.kept_small;
      asked_small = rest.taken.asked_small;
      groups_small = rest.groups_small;
      within = λ files others had had_others.
          let there = given_later asked.scan others opened now asked.reader leaves.sizes leaves.held had_others in record {
            side = side;
            given = has.given;
            gives = has.gives files had;
            finds = rest.taken.finds;
            ends = rest.taken.ends others there;
            few = rest.within others there;
          };
    }
