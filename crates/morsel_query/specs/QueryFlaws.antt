-- Why a query cannot be asked, whatever its files are.
use Rattle.std.specs.Prelude.{◌≡◌, ◌≢◌, ◌⊎◌, ℕ, ◌<◌, ◌≤◌, Bool, true, false, ◌||◌, Option, Some, None, option_map, List, [], ◌∷◌, ◌++◌, length}
use Rattle.morsel_meaning.specs.declared.fault.Fault.{Fault}
use Rattle.morsel_meaning.specs.declared.fault.Fault.TheVariants.{InvalidQuery}
use Rattle.morsel_meaning.specs.declared.fault.Why.{Why}
use Rattle.morsel_meaning.specs.declared.fault.Why.TheVariants.{NoSource, ManySources, NoColumn, SinkIsSource, NoKeys, RepeatedKey, UnequalKeys}
use Rattle.morsel_frame.specs.Names.{stands_in}
use Rattle.morsel_group.specs.Asked.{GroupAsked}
use Rattle.morsel_query.specs.Queries.{FileFormat, CsvFiles, FileScan, JoinPart, QueryParts}

-- one side of a query, as far as its flaws go
pub record Side : Type 0 where
  pub sources : List (List ℕ)  -- the names of its files
  pub columns : Option ℕ  -- how many columns the query gives them, where their format asks that

-- the keys of a join, by their names: the first left one and the first right one are a pair, and so on
pub record JoinKeys : Type 0 where
  pub left : List (List ℕ)
  pub right : List (List ℕ)

-- how many columns a query gives its files, where their format asks that
abbrev pub columns_given : FileFormat → Option ℕ
columns_given (CsvFiles fields options) = Some (length fields)

-- a scan as a side
abbrev pub side_of : FileScan → Side
side_of scan = record { sources = scan.sources; columns = columns_given scan.format }

-- the right side of a join, where there is one
abbrev pub right_sides : Option JoinPart → List Side
right_sides None = []
right_sides (Some join) = side_of join.right ∷ []

-- the sides of a query, the left one first
abbrev pub sides_of : QueryParts → List Side
sides_of query = side_of query.left ∷ right_sides query.join

-- the keys of a join
abbrev pub keys_of : JoinPart → JoinKeys
keys_of join = record { left = join.left_keys; right = join.right_keys }

-- the keys of a query's join, where it has one
abbrev pub keys_of_query : QueryParts → Option JoinKeys
keys_of_query query = option_map keys_of query.join

-- the keys of a group-by by their names, where there is one
abbrev pub keys_of_group : Option GroupAsked → Option (List (List ℕ))
keys_of_group group = option_map (λ (asked : GroupAsked). asked.keys) group

-- the sources of all sides, in order
abbrev pub sources_of_sides : List Side → List (List ℕ)
sources_of_sides [] = []
sources_of_sides (side ∷ sides) = side.sources ++ sources_of_sides sides

-- the sources of a query, those of the left side first
abbrev pub sources_of : QueryParts → List (List ℕ)
sources_of query = sources_of_sides (sides_of query)

-- it holds of one of the sides
abbrev pub HasSide : (Side → Type 0) → List Side → Type 0
HasSide P [] = ⊥
HasSide P (side ∷ sides) = P side ⊎ HasSide P sides

-- no column, or too many, where a query gives them
abbrev pub AreNoColumns : Option ℕ → Type 0
AreNoColumns None = ⊥
AreNoColumns (Some columns) = (columns ≡ 0) ⊎ (65535 < columns)

-- some columns, and not too many, where a query gives them
abbrev pub AreColumns : Option ℕ → Type 0
AreColumns None = Unit {0}
AreColumns (Some columns) = (0 < columns) × (columns ≤ 65535)

-- whether one of these names stands among those that follow it
abbrev pub has_repeats : List (List ℕ) → Bool
has_repeats [] = false
has_repeats (name ∷ names) = stands_in name names || has_repeats names

-- it holds of the keys of a join, where there is one
abbrev pub HasKeys : (JoinKeys → Type 0) → Option JoinKeys → Type 0
HasKeys P None = ⊥
HasKeys P (Some keys) = P keys

-- neither side has a key
abbrev pub AreNoKeys : JoinKeys → Type 0
AreNoKeys keys = (length keys.left ≡ 0) × (length keys.right ≡ 0)

-- it holds of the keys of a group-by, where there is one
abbrev pub HasGroupKeys : (List (List ℕ) → Type 0) → Option (List (List ℕ)) → Type 0
HasGroupKeys P None = ⊥
HasGroupKeys P (Some names) = P names

-- the flaw that is named, of a query with these sides, these keys of its join and of its group-by, and a sink of this name
abbrev pub IsFlaw : List Side → Option JoinKeys → Option (List (List ℕ)) → List ℕ → Why → Type 0
IsFlaw sides keys group sink NoSource = HasSide (λ side. length side.sources ≡ 0) sides
IsFlaw sides keys group sink ManySources = HasSide (λ side. 65536 < length side.sources) sides
IsFlaw sides keys group sink NoColumn = HasSide (λ side. AreNoColumns side.columns) sides
IsFlaw sides keys group sink NoKeys = HasKeys AreNoKeys keys ⊎ HasGroupKeys (λ names. length names ≡ 0) group
IsFlaw sides keys group sink RepeatedKey = HasKeys (λ names. (has_repeats names.left || has_repeats names.right) ≡ true) keys ⊎ HasGroupKeys (λ names. has_repeats names ≡ true) group
IsFlaw sides keys group sink UnequalKeys = HasKeys (λ names. length names.left ≢ length names.right) keys
IsFlaw sides keys group sink SinkIsSource = stands_in sink (sources_of_sides sides) ≡ true
IsFlaw sides keys group sink why = ⊥

-- a side without flaws
pub record IsSoundSide (side : Side) : Type 0 where
  pub some_source : 0 < length side.sources
  pub few_sources : length side.sources ≤ 65536
  pub columns : AreColumns side.columns

-- sides without flaws
abbrev pub AreSoundSides : List Side → Type 0
AreSoundSides [] = Unit {0}
AreSoundSides (side ∷ sides) = IsSoundSide side × AreSoundSides sides

-- keys of a join without flaws
pub record AreJoinKeys (keys : JoinKeys) : Type 0 where
  pub equal : length keys.left ≡ length keys.right
  pub some : 0 < length keys.left
  pub left_once : has_repeats keys.left ≡ false
  pub right_once : has_repeats keys.right ≡ false

-- the keys of a join without flaws, where there is one
abbrev pub AreSoundKeys : Option JoinKeys → Type 0
AreSoundKeys None = Unit {0}
AreSoundKeys (Some keys) = AreJoinKeys keys

-- keys of a group-by without flaws
pub record AreGroupKeys (names : List (List ℕ)) : Type 0 where
  pub some : 0 < length names
  pub once : has_repeats names ≡ false

-- the keys of a group-by without flaws, where there is one
abbrev pub AreSoundGroupKeys : Option (List (List ℕ)) → Type 0
AreSoundGroupKeys None = Unit {0}
AreSoundGroupKeys (Some names) = AreGroupKeys names

-- sides, keys of a join and of a group-by, and a sink without flaws
pub record AreSound (sides : List Side) (keys : Option JoinKeys) (group : Option (List (List ℕ))) (sink : List ℕ) : Type 0 where
  pub each : AreSoundSides sides
  pub keys_fit : AreSoundKeys keys
  pub group_fits : AreSoundGroupKeys group
  pub sink_apart : stands_in sink (sources_of_sides sides) ≡ false

-- a query without flaws
abbrev pub IsSound : QueryParts → Type 0
IsSound query = AreSound (sides_of query) (keys_of_query query) (keys_of_group query.group) query.sink.name

-- the fault names a flaw of the query
abbrev pub IsFlawFault : QueryParts → Fault → Type 0
IsFlawFault query (InvalidQuery why) = IsFlaw (sides_of query) (keys_of_query query) (keys_of_group query.group) query.sink.name why
IsFlawFault query fault = ⊥

-- no query has a flaw and none
abbrev pub SoundHasNoFlaw : Type 0
SoundHasNoFlaw = (sides : List Side) (keys : Option JoinKeys) (group : Option (List (List ℕ))) (sink : List ℕ) (why : Why)
    → AreSound sides keys group sink → IsFlaw sides keys group sink why → ⊥
