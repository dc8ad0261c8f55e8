-- How the counts of groups agree with what groups and tokens wrote.
use Rattle.std.specs.Prelude.{◌≡◌, ◌≢◌, ℕ, ◌+◌, ◌<◌, ◌==◌, if◌then◌else◌, Bool, false, List, [], ◌∷◌, length, slice_get, Option, None, Some}
use mathlib.Core.Option.{some}
use lib.ListN.{get_elem?}
use Rattle.morsel_meaning.specs.declared.task.TaskNo.{TaskNo}
use Rattle.morsel_prims.specs.declared.plain_counts.GroupMark.{GroupMark}
use Rattle.morsel_prims.specs.declared.plain_counts.GroupMark.TheVariants.{Group, Token, Released}
use Rattle.morsel_prims.specs.declared.plain_counts.GroupCount.{GroupCount}

-- the group of what wrote this
abbrev pub group_of : List GroupMark → Option ℕ
group_of [] = None
group_of (Group i ∷ marks) = Some i
group_of (Token i ∷ marks) = Some i
group_of (Released ∷ marks) = None

-- whether a token of group i wrote this, and was not released
abbrev pub is_token : ℕ → List GroupMark → Bool
is_token i [] = false
is_token i (Group j ∷ marks) = false
is_token i (Token j ∷ []) = j == i
is_token i (Token j ∷ mark ∷ marks) = false
is_token i (Released ∷ marks) = false

-- how many tokens of group i are not released
abbrev pub count_tokens : ℕ → List (List GroupMark) → ℕ
count_tokens i [] = 0
count_tokens i (row ∷ rows) = if is_token i row then count_tokens i rows + 1 else count_tokens i rows

-- each row is of a group that there is, and each count is that of the tokens
pub record AreCounted (rows : List (List GroupMark)) (groups : List GroupCount) : Type 0 where
  pub within : (k i : ℕ) (marks : List GroupMark) → get_elem? rows k ≡ some marks → group_of marks ≡ Some i → i < length groups
  pub counts : (i : ℕ) (group : GroupCount) → slice_get groups i ≡ Some group → group.count ≡ count_tokens i rows

-- at most group i has changed
abbrev pub OnlyGroup : ℕ → List GroupCount → List GroupCount → Type 0
OnlyGroup i old new = (j : ℕ) → j ≢ i → slice_get new j ≡ slice_get old j

-- the count is one more, and who waits is the same
abbrev pub CountsMore : Option GroupCount → Option GroupCount → Type 0
CountsMore old new = (group : GroupCount) × (old ≡ Some group) × (new ≡ Some (record { count = group.count + 1; waits = group.waits }))

-- the count is one less, and who waits is the same until none is left, and then nobody
abbrev pub CountsLess : Option GroupCount → Option GroupCount → Type 0
CountsLess old new = (group now : GroupCount) × (old ≡ Some group) × (new ≡ Some now) × (group.count ≡ now.count + 1) × (now.waits ≡ (if group.count == 1 then None else group.waits))

-- no token is left
abbrev pub HasNone : Option GroupCount → Type 0
HasNone group = (it : GroupCount) × (group ≡ Some it) × (it.count ≡ 0)

-- a token is left
abbrev pub HasSome : Option GroupCount → Type 0
HasSome group = (it : GroupCount) × (group ≡ Some it) × (0 < it.count)

-- the count is the same
abbrev pub CountsSame : Option GroupCount → Option GroupCount → Type 0
CountsSame old new = (group now : GroupCount) × (old ≡ Some group) × (new ≡ Some now) × (now.count ≡ group.count)

-- the task that waits until no token is left
abbrev pub group_waits_of : Option GroupCount → Option TaskNo
group_waits_of None = None
group_waits_of (Some group) = group.waits

-- the same, where one token is left
abbrev pub waits_if_last : Option GroupCount → Option TaskNo
waits_if_last None = None
waits_if_last (Some group) = if group.count == 1 then group.waits else None
