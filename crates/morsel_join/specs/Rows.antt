-- The rows of a join: the values of its items.
use Rattle.std.specs.Prelude.{◌≡◌, ◌<◌, ℕ, suc, nat_eq, ◌&&◌, ◌||◌, Bool, true, false, if◌then◌else◌, Option, Some, None, List, [], ◌∷◌, ◌++◌, length, map, get_or}
use Rattle.morsel_meaning.specs.declared.value.ColType.{ColType}
use Rattle.morsel_meaning.specs.declared.value.ColType.TheVariants as types
use Rattle.morsel_meaning.specs.declared.value.Value.{Value}
use Rattle.morsel_meaning.specs.declared.value.Field.{Field}
use Rattle.morsel_meaning.specs.Values.{Row, Table, kinds_of, names_of}
use Rattle.morsel_meaning.specs.Order.{value_eq}
use Rattle.morsel_frame.specs.Cells.{not_null}
use Rattle.morsel_frame.specs.Columns.{Values, value_or_null}
use Rattle.morsel_frame.specs.Tables.{cell_at, cells_at}
use Rattle.morsel_join.specs.declared.join_type.JoinType.{JoinType}
use Rattle.morsel_join.specs.declared.join_type.JoinType.TheVariants as kinds
use Rattle.morsel_join.specs.declared.join_type.MaintainOrderJoin.{MaintainOrderJoin}
use Rattle.morsel_join.specs.declared.join_type.MaintainOrderJoin.TheVariants as orders
use Rattle.morsel_join.specs.Chains.{left_mark, right_mark}
use Rattle.morsel_join.specs.declared.rules.JoinColumn.{JoinColumn}
use Rattle.morsel_join.specs.declared.rules.JoinColumn.TheVariants as columns
use Rattle.morsel_join.specs.declared.rules.JoinRules.{JoinRules}
use Rattle.morsel_join.specs.Items.{JoinItem, Both, LoneLeft, LoneRight, JoinItems, IsPromised}
use Rattle.morsel_join.specs.declared.payload.JoinArgs.{JoinArgs}
use Rattle.morsel_join.specs.Payloads.{FitKeys, left_names, right_names, merged_keys, key_places}

-- whether two key values are equal; nulls are equal where that is asked
abbrev pub values_match : Bool → Value → Value → Bool
values_match nulls a b = value_eq a b && (nulls || not_null a)

-- whether two keys are equal, value by value
abbrev pub keys_match : Bool → Row → Row → Bool
keys_match nulls [] [] = true
keys_match nulls [] (b ∷ bs) = false
keys_match nulls (a ∷ as_) [] = false
keys_match nulls (a ∷ as_) (b ∷ bs) = values_match nulls a b && keys_match nulls as_ bs

-- whether a left and a right row pair, by the columns of their keys
abbrev pub rows_match : Bool → List ℕ → List ℕ → Row → Row → Bool
rows_match nulls lefts rights x y = keys_match nulls (cells_at lefts x) (cells_at rights y)

-- the left row of an item, which has no value where there is none
abbrev pub left_row : List Row → JoinItem → Row
left_row rows (Both i j) = get_or rows i []
left_row rows (LoneLeft i) = get_or rows i []
left_row rows (LoneRight j) = []

-- the right row of an item, which has no value where there is none
abbrev pub right_row : List Row → JoinItem → Row
right_row rows (Both i j) = get_or rows j []
right_row rows (LoneLeft i) = []
right_row rows (LoneRight j) = get_or rows j []

-- the first value that is no null
abbrev pub first_value : Value → Value → Value
first_value a b = if not_null a then a else b

-- the value of a column, by a left and a right row
abbrev pub column_value : Row → Row → JoinColumn → Value
column_value x y (columns.Left at) = cell_at at x
column_value x y (columns.Right at) = cell_at at y
column_value x y (columns.Either left right) = first_value (cell_at left x) (cell_at right y)

-- the row of an item
abbrev pub item_row : List JoinColumn → List Row → List Row → JoinItem → Row
item_row cs lefts rights item = map (column_value (left_row lefts item) (right_row rights item)) cs

-- the type at a place, of a side's columns
abbrev pub kind_at : List Field → ℕ → ColType
kind_at fields at = get_or (kinds_of fields) at types.Int

-- the type of a column
abbrev pub column_kind : List Field → List Field → JoinColumn → ColType
column_kind left right (columns.Left at) = kind_at left at
column_kind left right (columns.Right at) = kind_at right at
column_kind left right (columns.Either l r) = kind_at left l

-- a column is one of its side's; two that become one are of the same type
abbrev pub FitsColumn : List Field → List Field → JoinColumn → Type 0
FitsColumn left right (columns.Left at) = at < length left
FitsColumn left right (columns.Right at) = at < length right
FitsColumn left right (columns.Either l r) = (l < length left) × (r < length right) × (kind_at right r ≡ kind_at left l)

-- each column is so
abbrev pub FitColumns : List Field → List Field → List JoinColumn → Type 0
FitColumns left right [] = Unit {0}
FitColumns left right (c ∷ cs) = FitsColumn left right c × FitColumns left right cs

-- rules of joins of tables with these columns
pub record FitRules (left right : List Field) (rules : JoinRules) : Type 0 where
  pub keys : FitKeys left right rules.left_keys.items rules.right_keys.items rules.kinds.items
  pub some : 0 < length rules.kinds.items
  pub columns : FitColumns left right rules.columns.items
  pub types : kinds_of rules.output ≡ map (column_kind left right) rules.columns.items

-- the rows of a join: of a list that has each of its items once, in the promised order
pub record IsJoin (rules : JoinRules) (left right out : Table) : Type 0 where
  pub schema : out.schema ≡ rules.output
  pub items : List JoinItem
  pub once : JoinItems rules.how (rows_match rules.join_nulls rules.left_keys.items rules.right_keys.items) left.rows right.rows items
  pub promised : IsPromised rules.maintain_order items
  pub rows : out.rows ≡ map (item_row rules.columns.items left.rows right.rows) items

-- the column with which a left column becomes one, if there is one
abbrev pub left_column : List (ℕ × ℕ) → ℕ → JoinColumn
left_column [] at = columns.Left at
left_column (pair ∷ merged) at = if nat_eq pair.0 at then columns.Either at pair.1 else left_column merged at

-- the left columns that have names, from a place on
abbrev pub left_columns : List (ℕ × ℕ) → ℕ → List (Option (List ℕ)) → List JoinColumn
left_columns merged at [] = []
left_columns merged at (None ∷ names) = left_columns merged (suc at) names
left_columns merged at (Some name ∷ names) = left_column merged at ∷ left_columns merged (suc at) names

-- the right columns that have names, from a place on
abbrev pub right_columns : ℕ → List (Option (List ℕ)) → List JoinColumn
right_columns at [] = []
right_columns at (None ∷ names) = right_columns (suc at) names
right_columns at (Some name ∷ names) = columns.Right at ∷ right_columns (suc at) names

-- the first value that is no null, row by row
abbrev pub first_values : List Value → List Value → List Value
first_values [] bs = []
first_values (a ∷ as_) [] = []
first_values (a ∷ as_) (b ∷ bs) = first_value a b ∷ first_values as_ bs

-- the values of a column, by the row numbers of both sides
abbrev pub marked_values : Table → Table → List ℕ → List ℕ → JoinColumn → List Value
marked_values left right lefts rights (columns.Left at) = map (value_or_null (map (cell_at at) left.rows)) lefts
marked_values left right lefts rights (columns.Right at) = map (value_or_null (map (cell_at at) right.rows)) rights
marked_values left right lefts rights (columns.Either l r) = first_values (map (value_or_null (map (cell_at l) left.rows)) lefts) (map (value_or_null (map (cell_at r) right.rows)) rights)

-- a column, by the row numbers of both sides
abbrev pub marked_column : Table → Table → List ℕ → List ℕ → JoinColumn → Values
marked_column left right lefts rights column = record { kind = column_kind left.schema right.schema column; values = marked_values left right lefts rights column }

-- whether the left rows are kept by their keys, and the right ones looked up
abbrev pub keeps_left : JoinType → MaintainOrderJoin → Bool
keeps_left kinds.Inner orders.None = true
keeps_left kinds.Left orders.None = false
keeps_left kinds.Right orders.None = true
keeps_left kinds.Full orders.None = true
keeps_left how orders.Left = false
keeps_left how orders.LeftRight = false
keeps_left how orders.Right = true
keeps_left how orders.RightLeft = true

-- the row numbers of both sides are those of a list that has each item of a join once, in the promised order
pub record HasItems (rules : JoinRules) (lefts rights : List Row) (left_marks right_marks : List ℕ) : Type 0 where
  pub items : List JoinItem
  pub once : JoinItems rules.how (rows_match rules.join_nulls rules.left_keys.items rules.right_keys.items) lefts rights items
  pub promised : IsPromised rules.maintain_order items
  pub left_side : left_marks ≡ map left_mark items
  pub right_side : right_marks ≡ map right_mark items

-- where the columns of a join's rows come from
abbrev pub join_columns : JoinArgs → List Field → List Field → List (List ℕ) → List (List ℕ) → List JoinColumn
join_columns args left right left_keys right_keys = left_columns (merged_keys args (key_places left left_keys) (key_places right right_keys)) 0 (left_names args left_keys left) ++ right_columns 0 (right_names args right_keys (names_of left) right)
