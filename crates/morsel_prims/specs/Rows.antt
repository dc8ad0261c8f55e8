-- Which lists are kept, and who holds each. The keeper knows all, and a holder knows one; at most one seat knows the list at a place.
use Rattle.std.specs.Prelude.{◌≡◌, ℕ, ◌-◌, Bool, true, false, List, [], ◌∷◌, ◌++◌, length, slice_set}
use mathlib.Core.Option.{some}
use lib.ListN.{get_elem?}
use Rattle.atomic_table.specs.Table.{State, Me, Step}
use Rattle.morsel_prims.specs.declared.row_view.RowView.{RowView}

-- what a seat knows, from its parts
abbrev pub row_view : {T : Type 0} → Bool → List (List T) → Bool → ℕ → List T → RowView T
row_view keeps rows has place list = record { keeps = keeps; rows = rows; has = has; place = place; list = list }

-- the seat that keeps these rows
abbrev pub keeper_view : {T : Type 0} → List (List T) → RowView T
keeper_view rows = row_view true rows false 0 []

-- the keeper, with one row lent to it
abbrev pub keeper_with_guest : {T : Type 0} → List (List T) → ℕ → List T → RowView T
keeper_with_guest rows place list = row_view true rows true place list

-- the seat that has this row
abbrev pub holder_view : {T : Type 0} → ℕ → List T → RowView T
holder_view place list = row_view false [] true place list

-- a seat that knows nothing
abbrev pub nobody_view : {T : Type 0} → RowView T
nobody_view = row_view false [] false 0 []

-- what this seat knows is so: the keeper knows the rows, and only the seat at the place of a row has it
abbrev pub AgreesWithRows : {T : Type 0} → ℕ → List (List T) → (ℕ → ℕ) → ℕ → RowView T → Type 0
AgreesWithRows seat rows at id v = (v.keeps ≡ true → (id ≡ seat) × (v.rows ≡ rows)) × (v.has ≡ true → (at v.place ≡ id) × (get_elem? rows v.place ≡ some v.list))

-- what all seats know agrees with one list of rows
abbrev pub IsRolled : (T : Type 0) → State T (RowView T) → Type 0
IsRolled T s = (seat : ℕ) × (rows : List (List T)) × (at : ℕ → ℕ) × ((id : ℕ) (v : RowView T) → get_elem? s.views id ≡ some v → AgreesWithRows seat rows at id v)

-- the first seat, with the second one's row
abbrev pub lent_view : {T : Type 0} → RowView T → RowView T → RowView T
lent_view v w = row_view v.keeps v.rows w.has w.place w.list

-- the seat without the row that was lent to it
abbrev pub alone_view : {T : Type 0} → RowView T → RowView T
alone_view v = row_view v.keeps v.rows false 0 []

-- the row that was lent to a seat
abbrev pub guest_view : {T : Type 0} → RowView T → RowView T
guest_view v = row_view false [] v.has v.place v.list

-- looking changes nothing, and tells that the rows have the guest's list at its place
abbrev pub LooksAtRow : {T : Type 0} → Step T → Me T (RowView T) → ℕ → Me T (RowView T) → Type 0
LooksAtRow st m n m' = (m' ≡ m) × (get_elem? m.0.rows m.0.place ≡ some m.0.list)

-- writing puts what was said last into the guest's list, and into the rows
abbrev pub WritesRow : (T : Type 0) → Step T → Me T (RowView T) → ℕ → Me T (RowView T) → Type 0
WritesRow T st m n m' = (get_elem? m.0.rows m.0.place ≡ some m.0.list)
    × ((x : T) → st.said ≡ some x → m' ≡ (keeper_with_guest (slice_set m.0.rows m.0.place (m.0.list ++ x ∷ [])) m.0.place (m.0.list ++ x ∷ []), m.1))

-- copying puts the next item of the row before into the guest's list, and into the rows
abbrev pub CopiesRow : (T : Type 0) → Step T → Me T (RowView T) → ℕ → Me T (RowView T) → Type 0
CopiesRow T st m n m' = (get_elem? m.0.rows m.0.place ≡ some m.0.list)
    × ((before : List T) (x : T) → get_elem? m.0.rows (m.0.place - 1) ≡ some before → get_elem? before (length m.0.list) ≡ some x
    → m' ≡ (keeper_with_guest (slice_set m.0.rows m.0.place (m.0.list ++ x ∷ [])) m.0.place (m.0.list ++ x ∷ []), m.1))

-- adding puts an empty row last, and lends it
abbrev pub AddsRow : {T : Type 0} → Step T → Me T (RowView T) → ℕ → Me T (RowView T) → Type 0
AddsRow st m n m' = m' ≡ (keeper_with_guest (m.0.rows ++ [] ∷ []) (length m.0.rows) [], m.1)

-- at which place of the roll a row is
abbrev pub place_of_row : {T : Type 0} → List (RowView T) → ℕ
place_of_row [] = 0
place_of_row (v ∷ vs) = v.place

-- what a row has
abbrev pub list_of_row : {T : Type 0} → List (RowView T) → List T
list_of_row [] = []
list_of_row (v ∷ vs) = v.list

-- this is item n, from 0, of the list in row k
abbrev pub IsNext : {T : Type 0} → List (List T) → ℕ → ℕ → T → Type 0
IsNext rows k n x = (before : List _) × (get_elem? rows k ≡ some before) × (get_elem? before n ≡ some x)
