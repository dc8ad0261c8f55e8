-- What is seen of a group between threads and of its tokens, and what the steps of their calls found.
use Rattle.std.specs.Prelude.{◌≡◌, ◌⊎◌, ℕ, ◌+◌, true, false, List, [], ◌∷◌, ◌++◌, ⊤, Option, None}
use Rattle.atomic_table.specs.Seated.{TableId}
use Rattle.atomic_table.specs.declared.shared.Seat.{Seat}
use Rattle.morsel_meaning.specs.declared.task.TaskNo.{TaskNo}
use Rattle.morsel_prims.specs.Polled.{held_list}
use Rattle.morsel_words.specs.Since.{IsNumberOf}
use Rattle.morsel_word_groups.specs.declared.view.GroupFound.{GroupFound}
use Rattle.morsel_word_groups.specs.declared.view.GroupFound.TheVariants as found
use Rattle.morsel_word_groups.specs.declared.view.GroupPart.TheVariants as part
use Rattle.morsel_word_groups.specs.declared.view.GroupView.{GroupView}

-- a group: its table, its parts, and what its steps found, the last one first
pub record GroupSeen : Type 0 where
  pub table : TableId
  pub parts : ℕ
  pub found : List GroupFound

abbrev pub group_seen : Seat (Unit {0}) GroupView → GroupSeen
group_seen seat = record { table = seat.table_id; parts = seat.me.0.spare; found = seat.me.0.found }

-- the seat is the group's at this table, and is between calls
pub record IsGroup (table : TableId) (seat : Seat (Unit {0}) GroupView) : Type 0 where
  pub words : table.words ≡ 2
  pub seated : seat.table_id ≡ table
  pub part : seat.me.0.part ≡ part.Group
  pub parted : seat.me.0.added ≡ false
  pub looked : seat.me.0.owes ≡ false

-- a token: the table of its group, its parts, and what its steps found, the last one first
pub record TokenSeen : Type 0 where
  pub table : TableId
  pub parts : ℕ
  pub found : List GroupFound

abbrev pub token_seen : Seat (Unit {0}) GroupView → TokenSeen
token_seen seat = record { table = seat.table_id; parts = seat.me.0.spare + 1; found = seat.me.0.found }

-- the seat is that of a token which this table counts, and is between calls
pub record IsToken (table : TableId) (seat : Seat (Unit {0}) GroupView) : Type 0 where
  pub words : table.words ≡ 2
  pub seated : seat.table_id ≡ table
  pub part : seat.me.0.part ≡ part.Token
  pub parted : seat.me.0.added ≡ false

-- a step that changes no count
abbrev pub LeavesCount : GroupFound → Type 0
LeavesCount found.More = ⊥
LeavesCount (found.Less last) = ⊥
LeavesCount found.SomeLeft = ⊤
LeavesCount found.NoneLeft = ⊤
LeavesCount (found.Waits number) = ⊤
LeavesCount (found.Waiter number) = ⊤

abbrev pub AllLeaveCount : List GroupFound → Type 0
AllLeaveCount [] = ⊤
AllLeaveCount (f ∷ fs) = LeavesCount f × AllLeaveCount fs

-- no step since then changed the count
abbrev pub OnlyLooked : List GroupFound → List GroupFound → Type 0
OnlyLooked old new = (later : List GroupFound) × (new ≡ later ++ old) × AllLeaveCount later

-- a token's last step was its release, and it was not the last one; or it was, and the step after that found this task waiting
abbrev pub FoundLast : List GroupFound → List GroupFound → Option TaskNo → Type 0
FoundLast old new task = ((new ≡ found.Less false ∷ old) × (task ≡ None)) ⊎ ((number : ℕ) × (new ≡ found.Waiter number ∷ found.Less true ∷ old) × IsNumberOf number task)

-- the release of a token whose steps had found this found these tasks waiting
abbrev pub FoundWaitingForLast : List GroupFound → List TaskNo → Type 0
FoundWaitingForLast old tasks = (new : List GroupFound) × (task : Option TaskNo) × FoundLast old new task × (tasks ≡ held_list task)

-- a group with a number of its own: the number, and the group
pub record IndexedSeen : Type 0 where
  pub index : ℕ
  pub group : GroupSeen
