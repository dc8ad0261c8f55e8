-- What is seen of the board of one thread.
use Rattle.std.specs.Prelude.{ℕ, List, Option, slice_get}
use Rattle.atomic_table.specs.Seated.{TableId}
use Rattle.morsel_prims.specs.declared.plain_item.Mark.{Mark}
use Rattle.morsel_prims.specs.declared.plain_item.PlainLane.{PlainLane}
use Rattle.morsel_prims.specs.declared.plain_counts.GroupMark.{GroupMark}
use Rattle.morsel_prims.specs.declared.plain_counts.GroupCount.{GroupCount}
use Rattle.morsel_meaning.specs.declared.task.TaskNo.{TaskNo}
use Rattle.morsel_prims.specs.Marks.{send_waits_of, recv_waits_of}
use Rattle.morsel_prims.specs.Counts.{group_waits_of}
use Rattle.morsel_prims.specs.Waiting.{WaitPlace, ForRoom, ForValue, ForLastToken}

-- the lanes and groups, what their ends and tokens wrote, and which tables keep it
pub record PlainSeen (A J : Type 0) : Type 0 where
  pub lane_table : TableId
  pub rows : List (List (Mark (A × J) J))
  pub lanes : List (PlainLane (A × J) J)
  pub group_table : TableId
  pub group_rows : List (List GroupMark)
  pub groups : List GroupCount

-- who waits at a place of a board with these lanes and groups
abbrev pub waits_among : {V J : Type 0} → List (PlainLane V J) → List GroupCount → WaitPlace → Option TaskNo
waits_among lanes groups (ForRoom i) = send_waits_of (slice_get lanes i)
waits_among lanes groups (ForValue i) = recv_waits_of (slice_get lanes i)
waits_among lanes groups (ForLastToken i) = group_waits_of (slice_get groups i)
