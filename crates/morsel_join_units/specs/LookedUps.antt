-- Rows that were looked up on the kept side of a join.
use Rattle.std.specs.Prelude.{List}
use Rattle.std.specs.List.{flat_map}
use Rattle.morsel_meaning.specs.Values.{Row}
use Rattle.morsel_load.specs.Loads.{LoadSeen}
use Rattle.morsel_join_units.specs.RowKeepers.{AreKeptOf}
use Rattle.morsel_join_units.specs.declared.looked_up.LookedUp.{LookedUp}
use Rattle.morsel_join_units.specs.declared.row_keeper.KeptRows.{KeptRows}

-- what was looked up, with its rows
abbrev pub looked_rows : LookedUp → KeptRows
looked_rows looked = record { seq = looked.seq; stretch = looked.stretch; frame = looked.frame.value }

-- the rows, one load after the other
abbrev pub rows_looked_up : List LookedUp → List Row
rows_looked_up looked = flat_map (λ (one : LookedUp). one.frame.value.rows) looked

-- what was looked up is the rows of a load that suits a job
abbrev pub AreLookedUpOf : {J : Type 0} → (J → LoadSeen → Type 0) → J → LookedUp → Type 0
AreLookedUpOf suits job looked = AreKeptOf suits job (looked_rows looked)
