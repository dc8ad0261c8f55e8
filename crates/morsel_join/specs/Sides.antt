-- One side of a join that is kept by its keys, and what rows of the other side find there.
use Rattle.std.specs.Prelude.{◌≡◌, ℕ, Bool, true, false, not, if◌then◌else◌, List, [], ◌∷◌, map}
use Rattle.std.specs.List.{filter, flat_map, list_any}
use Rattle.morsel_meaning.specs.declared.value.Field.{Field}
use Rattle.morsel_meaning.specs.Values.{Row}
use Rattle.morsel_join.specs.declared.rules.JoinRules.{JoinRules}
use Rattle.morsel_join.specs.Items.{JoinItem, wants_left, wants_right}
use Rattle.morsel_join.specs.Rows.{FitRules, column_value, keeps_left, left_row, right_row, rows_match}

-- the rules of a join, which of its sides is kept, and the rows of that side
pub record KeptSide : Type 0 where
  pub rules : JoinRules
  pub is_left : Bool
  pub rows : List Row

-- the side that is kept is the one that the rules say
abbrev pub IsRightSide : KeptSide → Type 0
IsRightSide side = side.is_left ≡ keeps_left side.rules.how side.rules.maintain_order

-- the columns of the kept rows' keys
abbrev pub kept_keys : KeptSide → List ℕ
kept_keys side = if side.is_left then side.rules.left_keys.items else side.rules.right_keys.items

-- the columns of the other rows' keys
abbrev pub asked_keys : KeptSide → List ℕ
asked_keys side = if side.is_left then side.rules.right_keys.items else side.rules.left_keys.items

-- whether the kind has the rows that find nothing
abbrev pub wants_asked : KeptSide → Bool
wants_asked side = if side.is_left then wants_right side.rules.how else wants_left side.rules.how

-- whether the kind has the kept rows that no row finds
abbrev pub wants_kept : KeptSide → Bool
wants_kept side = if side.is_left then wants_left side.rules.how else wants_right side.rules.how

-- whether a row finds a kept row: their keys are equal
abbrev pub row_finds : KeptSide → Row → Row → Bool
row_finds side asked kept = rows_match side.rules.join_nulls (asked_keys side) (kept_keys side) asked kept

-- the row of the join that a row and a kept row make; either has no value where the other one is alone
abbrev pub joined_row : KeptSide → Row → Row → Row
joined_row side asked kept = if side.is_left then map (column_value kept asked) side.rules.columns.items else map (column_value asked kept) side.rules.columns.items

-- a row with each of these, and alone where there are none and that is wanted
abbrev pub with_each : Bool → (Row → Row) → List Row → List Row
with_each wanted joined [] = if wanted then joined [] ∷ [] else []
with_each wanted joined (kept ∷ more) = map joined (kept ∷ more)

-- what one row finds: the kept rows with its key, in their order
abbrev pub found_by_row : KeptSide → Row → List Row
found_by_row side asked = with_each (wants_asked side) (joined_row side asked) (filter (row_finds side asked) side.rows)

-- what rows find, one row after the other
abbrev pub rows_found : KeptSide → List Row → List Row
rows_found side asked = flat_map (found_by_row side) asked

-- whether one of these rows finds a kept row
abbrev pub is_asked_for : KeptSide → List Row → Row → Bool
is_asked_for side asked kept = list_any (λ row. row_finds side row kept) asked

-- the kept rows that none of these rows finds, in their order, where the kind has them
abbrev pub rows_alone : KeptSide → List Row → List Row
rows_alone side asked = if wants_kept side then map (joined_row side []) (filter (λ kept. not (is_asked_for side asked kept)) side.rows) else []

-- the left and the right rows of the join, of which these are not the kept ones
abbrev pub rows_on_left : KeptSide → List Row → List Row
rows_on_left side asked = if side.is_left then side.rows else asked

abbrev pub rows_on_right : KeptSide → List Row → List Row
rows_on_right side asked = if side.is_left then asked else side.rows

-- the row of an item, whose left row is one of these and whose right row is a kept one
abbrev pub side_row : KeptSide → List Row → JoinItem → Row
side_row side asked item = joined_row side (left_row asked item) (right_row side.rows item)

-- rules of joins of kept rows and other rows of these columns, where the left ones are kept or the right ones
abbrev pub FitSides : Bool → List Field → List Field → JoinRules → Type 0
FitSides true kept asked rules = FitRules kept asked rules
FitSides false kept asked rules = FitRules asked kept rules
