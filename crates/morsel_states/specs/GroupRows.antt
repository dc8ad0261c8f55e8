-- Rows of groups, and what is kept of them for a reduction, at the number of each group.
use Rattle.std.specs.Prelude.{◌≡◌, ◌<◌, ◌+◌, ℕ, nat_eq, if◌then◌else◌, Option, Some, None, List, [], ◌∷◌, length, get_or, set, slice_get, take, Result, Ok, Err}
use Rattle.morsel_meaning.specs.declared.fault.Fault.{Fault}
use Rattle.morsel_meaning.specs.declared.value.Value.{Value}
use Rattle.morsel_frame.specs.Refusals.{Refuses}
use Rattle.morsel_keys.specs.declared.reduction.Reduction.{Reduction}
use Rattle.morsel_keys.specs.Groups.{both_parts}
use Rattle.morsel_keys.specs.Reductions.{ValueAt, Entry, one_entry, plus_entries, entry_of, entry_len, len_fault}

-- a row of a group: the number of the group, and the row's value with its place
pub record GroupRow : Type 0 where
  pub group : ℕ
  pub valued : ValueAt

-- the rows of a piece, of which the first has this place and each other one the next
abbrev pub group_rows : ℕ → List ℕ → List Value → List GroupRow
group_rows at [] vs = []
group_rows at (group ∷ groups) [] = []
group_rows at (group ∷ groups) (v ∷ vs) = (record { group = group; valued = record { at = at; value = v } }) ∷ group_rows (at + 1) groups vs

-- the values of one group, each with its place
abbrev pub group_values : ℕ → List GroupRow → List ValueAt
group_values group [] = []
group_values group (row ∷ rows) = if nat_eq row.group group then row.valued ∷ group_values group rows else group_values group rows

-- what is kept of values and of one more
abbrev pub with_value : Reduction → Option Entry → ValueAt → Option Entry
with_value op entry v = both_parts (plus_entries op) entry (Some (one_entry op v))

-- what is kept for groups, with a row put to its own
abbrev pub with_group_row : Reduction → List (Option Entry) → GroupRow → List (Option Entry)
with_group_row op entries row = set entries row.group (with_value op (get_or entries row.group None) row.valued)

-- what is kept for groups, with rows put to their own, one after the other
abbrev pub with_group_rows : Reduction → List (Option Entry) → List GroupRow → List (Option Entry)
with_group_rows op entries [] = entries
with_group_rows op entries (row ∷ rows) = with_group_rows op (with_group_row op entries row) rows

-- the rows before one were put to their groups, and that one was refused: its group has as many values as may be
pub record StopsRows (op : Reduction) (old : List (Option Entry)) (rows : List GroupRow) (fault : Fault) (new : List (Option Entry)) : Type 0 where
  pub at : ℕ
  pub row : GroupRow
  pub stopped : slice_get rows at ≡ Some row
  pub before : new ≡ with_group_rows op old (take at rows)
  pub refused : Refuses {T = Unit {0}} (len_fault (entry_len (get_or new row.group None) + 1)) (Err fault)

-- rows are put to their groups, or stop at one that is refused
abbrev pub PutsGroupRows : Reduction → List (Option Entry) → List GroupRow → List (Option Entry) → Result (Unit {0}) Fault → Type 0
PutsGroupRows op old rows new (Ok done) = new ≡ with_group_rows op old rows
PutsGroupRows op old rows new (Err fault) = StopsRows op old rows fault new

-- after rows each group has what it had before, and what is kept of its own values among them
abbrev pub KeepsGroups : Type 0
KeepsGroups = (op : Reduction) (entries : List (Option Entry)) (rows : List GroupRow) (group : ℕ) → group < length entries
    → get_or (with_group_rows op entries rows) group None ≡ both_parts (plus_entries op) (get_or entries group None) (entry_of op (group_values group rows))
