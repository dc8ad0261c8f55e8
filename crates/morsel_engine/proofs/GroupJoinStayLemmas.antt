-- A join with a group-by opens no file.
use Rattle.std.proofs.Common.{◌≡◌, ◌⊎◌, ℕ, inl, inr}
use Rattle.std.specs.Prelude.{Bool, true, false, Result, Ok, Err, List, length}
use Rattle.morsel_meaning.specs.declared.fault.Fault.{Fault}
use Rattle.morsel_outside.specs.declared.io.FileNo.{FileNo}
use Rattle.morsel_outside.specs.Outside.{Outside}
use Rattle.morsel_join.specs.declared.rules.JoinRules.{JoinRules}
use Rattle.morsel_join.specs.Rows.{keeps_left}
use Rattle.morsel_join.specs.Sides.{KeptSide}
use Rattle.morsel_join_plan.specs.PhaseRuns.{KeepsScan}
use Rattle.morsel_join_plan.specs.JoinRuns.{JoinScan, HasKept, IsLeftSo}
use Rattle.morsel_group_units.specs.GroupAsks.{GroupRulesSeen}
use Rattle.morsel_group_plan.specs.GroupRuns.{GroupsJoin, GroupsRows, JoinGives}
use Rattle.morsel_query.specs.RunOptions.{RunOptions}
use Rattle.morsel_query.specs.Queries.{FileScan}
use Rattle.morsel_engine.specs.Stages.{side_scan, GroupsSides, JoinsGroups}
use Rattle.morsel_engine.proofs.JoinStayLemmas.{AreSame, then_same, left_same}
use Rattle.morsel_engine.proofs.GroupStayLemmas.{groups_same}

groups_join_same : (kept asked : JoinScan) (rules : JoinRules) (group : GroupRulesSeen) (o : Outside) (result : Result ℕ Fault) (new : Outside) → GroupsJoin kept asked rules group o result new → AreSame o new
groups_join_same kept asked rules group o result new groups = by groups.course
  where
    by : IsLeftSo o result new
        ⊎ (((fault : Fault) × KeepsScan kept.scan kept.reader o (Err fault) new × (result ≡ Err fault))
        ⊎ (((given : ℕ) × (between : Outside) × KeepsScan kept.scan kept.reader o (Ok given) between × IsLeftSo between result new)
        ⊎ ((side : KeptSide) × (between : Outside) × HasKept kept rules side o between × GroupsRows (JoinGives asked side) asked group between result new)))
        → AreSame o new
    by (inl so) = left_same o result new so
    by (inr (inl (fault, keeps, is))) = (keeps.leaves.sizes, keeps.leaves.held)
    by (inr (inr (inl (given, between, keeps, so)))) = then_same o between new (keeps.leaves.sizes, keeps.leaves.held) (left_same between result new so)
    by (inr (inr (inr (side, between, has, rows)))) = then_same o between new (has.keeps.leaves.sizes, has.keeps.leaves.held) (groups_same (JoinGives asked side) asked group between result new rows)

pub joined_groups_same : (o : Outside) (left right : FileScan) (lefts rights : List FileNo) (rules : JoinRules) (group : GroupRulesSeen) (options : RunOptions) (result : Result ℕ Fault) (new : Outside)
    → JoinsGroups o left right lefts rights rules group options result new → AreSame o new
joined_groups_same o left right lefts rights rules group options result new (inl so) = left_same o result new so
joined_groups_same o left right lefts rights rules group options result new (inr (left_fit, right_fit, groups)) = by (keeps_left rules.how rules.maintain_order) groups
  where
    by : (is_left : Bool) → GroupsSides is_left (side_scan left lefts 0 options) (side_scan right rights (length left.sources) options) rules group o result new → AreSame o new
    by true grouped = groups_join_same _ _ rules group o result new grouped
    by false grouped = groups_join_same _ _ rules group o result new grouped
