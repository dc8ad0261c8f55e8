-- Rows that are looked up in a kept side, and what they find there.
use Rattle.std.specs.Prelude.{◌≡◌, ◌<◌, ◌≤◌, ◌^◌, ◌++◌, ℕ, List, [], length, map, drop, get_or}
use Rattle.std.specs.Arc.{arc_value}
use Rattle.morsel_meaning.specs.Values.{Row}
use Rattle.morsel_frame.specs.Tables.{cells_at}
use Rattle.morsel_keys.specs.Slots.{AreLookedUp}
use Rattle.morsel_join.specs.declared.build_side.Build.{Build}
use Rattle.morsel_join.specs.declared.probe_some.Cursor.{Cursor}
use Rattle.morsel_join.specs.declared.probing.Probing.{Probing}
use Rattle.morsel_join.specs.BuildSides.{IsBuild, kept_side}
use Rattle.morsel_join.specs.Chains.{Chain}
use Rattle.morsel_join.specs.Cuts.{AreItemsFrom, PutsFrom}
use Rattle.morsel_join.specs.Items.{JoinItem}
use Rattle.morsel_join.specs.Sides.{asked_keys, joined_row, rows_found, wants_asked}

-- the numbers of rows' keys among those of the kept rows
abbrev pub AreNumbersOf : Build → List Row → List ℕ → Type 0
AreNumbersOf build asked numbers = AreLookedUp build.keyed.keys.keys (map (cells_at (asked_keys (kept_side build))) asked) numbers

-- a row, with each of the kept rows at these places
abbrev pub rows_with : Build → Row → List ℕ → List Row
rows_with build asked places = map (λ (j : ℕ). joined_row (kept_side build) asked (get_or build.kept.rows j [])) places

-- what rows find from a cursor on: the row begun last with the kept rows of a chain from a link on, and what the rows find that were not begun
pub record AreFoundFrom (build : Build) (asked : List Row) (cursor : Cursor) (rest : List Row) : Type 0 where
  pub chain : List ℕ
  pub linked : Chain build.keyed.next.items cursor.link chain
  pub all : rest ≡ rows_with build (get_or asked cursor.row []) chain ++ rows_found (kept_side build) (drop cursor.at asked)

-- the items from a cursor on of rows with these numbers
abbrev pub AreItemsIn : Build → List ℕ → Cursor → List JoinItem → Type 0
AreItemsIn build numbers cursor items = AreItemsFrom build.keyed.numbers.items (length build.keyed.keys.keys) build.keyed.next.items numbers (wants_asked (kept_side build)) cursor items

-- the first of these items were put, and the others are those from a cursor on
abbrev pub FindsItems : Build → List ℕ → List JoinItem → List ℕ → List ℕ → List ℕ → List ℕ → Cursor → Type 0
FindsItems build numbers items lefts rights new_lefts new_rights cursor = PutsFrom build.keyed.numbers.items (length build.keyed.keys.keys) build.keyed.next.items numbers (wants_asked (kept_side build)) items lefts rights new_lefts new_rights cursor

-- rows are looked up in a kept side
pub record IsProbing (probing : Probing) : Type 0 where
  pub built : IsBuild (arc_value probing.build)
  pub columns : probing.frame.schema ≡ (arc_value probing.build).asked
  pub short : length probing.frame.rows < 2 ^ 32
  pub numbers : AreNumbersOf (arc_value probing.build) probing.frame.rows probing.numbers.items
  pub within : probing.cursor.link ≤ length (arc_value probing.build).keyed.next.items

-- these rows are still to be given of those that are found
abbrev pub LooksUp : Probing → List Row → Type 0
LooksUp probing rest = AreFoundFrom (arc_value probing.build) probing.frame.rows probing.cursor rest
