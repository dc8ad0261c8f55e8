-- A group-by opens no file.
use Rattle.std.proofs.Common.{◌≡◌, ◌⊎◌, ℕ, inl, inr}
use Rattle.std.specs.Prelude.{Result, Ok, Err, List}
use Rattle.morsel_meaning.specs.declared.fault.Fault.{Fault}
use Rattle.morsel_meaning.specs.Values.{Row}
use Rattle.morsel_outside.specs.declared.io.FileNo.{FileNo}
use Rattle.morsel_outside.specs.Outside.{Outside}
use Rattle.morsel_drive.proofs.TransferLemmas.{stays, either_writing}
use Rattle.morsel_join_plan.specs.PhaseRuns.{KeepsScan}
use Rattle.morsel_join_plan.specs.JoinRuns.{JoinScan, IsLeftSo}
use Rattle.morsel_group_units.specs.GroupAsks.{GroupRulesSeen}
use Rattle.morsel_group_plan.specs.GroupRuns.{EndsGroups, GroupsRows}
use Rattle.morsel_query.specs.RunOptions.{RunOptions}
use Rattle.morsel_query.specs.Queries.{FileScan}
use Rattle.morsel_engine.specs.Stages.{GroupsFiles}
use Rattle.morsel_engine.proofs.JoinStayLemmas.{AreSame, then_same, left_same, is_same}

-- the last part of its run
ends_same : (is_input : List (List ℕ) → List Row → Type 0) (scan : JoinScan) (group : GroupRulesSeen) (opened o : Outside) (result : Result ℕ Fault) (new : Outside)
    → EndsGroups is_input scan group opened o result new → AreSame o new
ends_same is_input scan group opened o result new (inl so) = left_same o result new so
ends_same is_input scan group opened o result new (inr (inl (fault, is, same, none))) = is_same o new same
ends_same is_input scan group opened o result new (inr (inr w)) =
    let there = stays o new w.writes.actions (either_writing w.writes.actions w.writes.each) w.writes.does in (there.sizes, there.held)

-- the whole of it
pub groups_same : (is_input : ℕ → List (List ℕ) → List Row → Type 0) (scan : JoinScan) (group : GroupRulesSeen) (o : Outside) (result : Result ℕ Fault) (new : Outside)
    → GroupsRows is_input scan group o result new → AreSame o new
groups_same is_input scan group o result new groups = by groups.course
  where
    by : IsLeftSo o result new
        ⊎ (((fault : Fault) × KeepsScan scan.scan scan.reader o (Err fault) new × (result ≡ Err fault))
        ⊎ ((given : ℕ) × (between : Outside) × KeepsScan scan.scan scan.reader o (Ok given) between × EndsGroups (is_input given) scan group o between result new))
        → AreSame o new
    by (inl so) = left_same o result new so
    by (inr (inl (fault, keeps, is))) = (keeps.leaves.sizes, keeps.leaves.held)
    by (inr (inr (given, between, keeps, ends))) = then_same o between new (keeps.leaves.sizes, keeps.leaves.held) (ends_same (is_input given) scan group o between result new ends)

-- that of a scan's open files
pub grouped_same : (o : Outside) (scan : FileScan) (numbers : List FileNo) (group : GroupRulesSeen) (options : RunOptions) (result : Result ℕ Fault) (new : Outside)
    → GroupsFiles o scan numbers group options result new → AreSame o new
grouped_same o scan numbers group options result new (inl so) = left_same o result new so
grouped_same o scan numbers group options result new (inr (fit, groups)) = groups_same _ _ group o result new groups
