-- The rule of a group between threads: how the count and the wait word agree with what the group and its tokens know.
use Rattle.std.specs.Prelude.{◌≡◌, ◌⊎◌, ℕ, ◌+◌, ◌≤◌, ◌^◌, Bool, true, false, List, [], ◌∷◌, length, slice_index}
use Rattle.atomic_table.specs.Table.{State}
use Rattle.morsel_word_groups.specs.declared.view.GroupPart.{GroupPart}
use Rattle.morsel_word_groups.specs.declared.view.GroupPart.TheVariants as part
use Rattle.morsel_word_groups.specs.declared.view.GroupView.{GroupView}

-- how many tokens a seat counts for; one that has still to part from a token counts for that too
abbrev pub counts_for : GroupPart → Bool → ℕ
counts_for part.Group false = 0
counts_for part.Group true = 1
counts_for part.Token false = 1
counts_for part.Token true = 2
counts_for part.Released added = 0

-- the parts of a seat that has so many beside one for each token that it counts for; none once it was released
abbrev pub parts_of : GroupPart → Bool → ℕ → ℕ
parts_of part.Group added spare = counts_for part.Group added + spare
parts_of part.Token added spare = counts_for part.Token added + spare
parts_of part.Released added spare = 0

-- one for the group
abbrev pub groups_in : GroupPart → ℕ
groups_in part.Group = 1
groups_in part.Token = 0
groups_in part.Released = 0

-- the number that the group put last into the wait word
abbrev pub waits_of : GroupPart → ℕ → ℕ
waits_of part.Group waits = waits
waits_of part.Token waits = 0
waits_of part.Released waits = 0

-- one for a seat that has still to look after the wait word
abbrev pub owed_by : Bool → ℕ
owed_by true = 1
owed_by false = 0

-- the same, of what a seat knows
abbrev pub counted_by : GroupView → ℕ
counted_by v = counts_for v.part v.added

abbrev pub shared : GroupView → ℕ
shared v = parts_of v.part v.added v.spare

abbrev pub grouped : GroupView → ℕ
grouped v = groups_in v.part

abbrev pub named : GroupView → ℕ
named v = waits_of v.part v.waits

abbrev pub owed : GroupView → ℕ
owed v = owed_by v.owes

-- the sum of a number over all seats
abbrev pub total : (GroupView → ℕ) → List GroupView → ℕ
total f [] = 0
total f (v ∷ vs) = f v + total f vs

-- the rule: of the words and all seats of the table
pub record IsGroupTable (z : State (Unit {0}) GroupView) : Type 0 where
  pub wide : length z.words ≡ 2
  -- the first word is the count of tokens that were not released
  pub count : slice_index z.words 0 ≡ total counted_by z.views
  -- the group and its tokens have at most so many parts, so the count has no more
  pub budget : total shared z.views ≤ 2 ^ 62
  pub single : total grouped z.views ≤ 1
  -- the second word has the number under which a task waits, as the group put it there last, or 0
  pub number : slice_index z.words 1 ≤ 4294967296
  pub whose : (slice_index z.words 1 ≡ 0) ⊎ (slice_index z.words 1 ≡ total named z.views)
  -- where no token is left no task waits, unless the last token has still to take its number, or the group to look again
  pub heard : slice_index z.words 0 ≡ 0 → (slice_index z.words 1 ≡ 0) ⊎ (1 ≤ total owed z.views)

-- what the group knows at first
abbrev pub new_group_view : GroupView
new_group_view = record { part = part.Group; added = false; spare = 2 ^ 62; owes = false; waits = 0; found = [] }
