-- Items that are put so many at a time, and rows that are given so.
use Rattle.std.specs.Prelude.{◌≡◌, ◌≤◌, ◌<◌, ◌++◌, ℕ, min, Bool, false, true, not, List, [], length, map, drop, get_or}
use Rattle.morsel_meaning.specs.Values.{Row}
use Rattle.morsel_join.specs.declared.probe_some.Cursor.{Cursor}
use Rattle.morsel_join.specs.declared.some_rows.SomeRows.{SomeRows}
use Rattle.morsel_join.specs.Items.{JoinItem, Both, LoneRight, left_items, places}
use Rattle.morsel_join.specs.Chains.{Chain, same_number}
use Rattle.morsel_join.specs.Probes.{PutsItems}

-- the first of these items were put last, and the others are left
pub record PutsFirst (items rest : List JoinItem) (lefts rights new_lefts new_rights : List ℕ) : Type 0 where
  pub done : List JoinItem
  pub same : items ≡ done ++ rest
  pub put : PutsItems done lefts rights new_lefts new_rights

-- the first of the items of a row were put, and the others are those with the rows of a chain from a link on
pub record PutsFollowed (next : List ℕ) (row : ℕ) (items : List JoinItem) (lefts rights new_lefts new_rights : List ℕ) (link : ℕ) : Type 0 where
  pub chain : List ℕ
  pub linked : Chain next link chain
  pub put : PutsFirst items (map (Both row) chain) lefts rights new_lefts new_rights

-- the items from a cursor on: of the row begun last with the rows of a chain from a link on, and of the rows that were not begun
pub record AreItemsFrom (kept : List ℕ) (keys : ℕ) (next numbers : List ℕ) (wanted : Bool) (cursor : Cursor) (items : List JoinItem) : Type 0 where
  pub chain : List ℕ
  pub linked : Chain next cursor.link chain
  pub all : items ≡ map (Both cursor.row) chain ++ left_items (same_number keys) wanted cursor.at (drop cursor.at numbers) kept

-- the first of the items from one cursor on were put, and the others are those from another one on
pub record PutsFrom (kept : List ℕ) (keys : ℕ) (next numbers : List ℕ) (wanted : Bool) (items : List JoinItem) (lefts rights new_lefts new_rights : List ℕ) (cursor : Cursor) : Type 0 where
  pub rest : List JoinItem
  pub left : AreItemsFrom kept keys next numbers wanted cursor rest
  pub put : PutsFirst items rest lefts rights new_lefts new_rights

-- no row finds anything from one place up to another, and the row there does
pub record FindNothing (first numbers : List ℕ) (from to : ℕ) : Type 0 where
  pub after : from ≤ to
  pub nothing : (k : ℕ) → from ≤ k → k < to → get_or first (get_or numbers k 0) 0 ≡ 0
  pub something : to < length numbers → 0 < get_or first (get_or numbers to 0) 0

-- the lone items of the rows from a place on whose keys are not marked
abbrev pub unmarked_items : List Bool → List ℕ → ℕ → List JoinItem
unmarked_items marks numbers at = map LoneRight (places (λ m. not (get_or marks m false)) at (drop at numbers))

-- the first of the lone items from one place on were put, and the others are those from another one on
pub record PutsUnmarked (marks : List Bool) (numbers : List ℕ) (from : ℕ) (lefts rights new_lefts new_rights : List ℕ) (at : ℕ) : Type 0 where
  pub after : from ≤ at
  pub put : PutsFirst (unmarked_items marks numbers from) (unmarked_items marks numbers at) lefts rights new_lefts new_rights

-- all rows are marked from one place up to another, and the row there is not
pub record AreMarkedUp (marks : List Bool) (numbers : List ℕ) (from to : ℕ) : Type 0 where
  pub after : from ≤ to
  pub marked : (k : ℕ) → from ≤ k → k < to → get_or marks (get_or numbers k 0) false ≡ true
  pub unmarked : to < length numbers → get_or marks (get_or numbers to 0) false ≡ false

-- the first of these rows were given, so many where there are as many, and the others are left; `last` says that none is
pub record GivesSome (Left : List Row → Type 0) (limit : ℕ) (rest : List Row) (some : SomeRows) : Type 0 where
  pub later : List Row
  pub all : rest ≡ some.frame.rows ++ later
  pub left : Left later
  pub many : length some.frame.rows ≡ min limit (length rest)
  pub last : some.last ≡ true → later ≡ []
  pub none : later ≡ [] → some.last ≡ true
