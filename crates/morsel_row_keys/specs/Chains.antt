-- Tables of pairs one after the other, each of a number of the one before and a value.
use Rattle.std.specs.Prelude.{◌≡◌, ◌≤◌, ◌<◌, ◌++◌, ◌⊎◌, ℕ, nat_lt, if◌then◌else◌, List, [], ◌∷◌, length, map, get_or, slice_get, Some, Result, Ok, Err}
use Rattle.morsel_meaning.specs.declared.value.ColType.{ColType}
use Rattle.morsel_meaning.specs.declared.value.Value.{Value}
use Rattle.morsel_meaning.specs.declared.fault.Fault.{Fault}
use Rattle.morsel_meaning.specs.declared.fault.Fault.TheVariants.{OutOfMemory}
use Rattle.morsel_meaning.specs.Values.{Row}
use Rattle.morsel_frame.specs.Columns.{Values}
use Rattle.morsel_keys.specs.Slots.{AreLookedUp, HasKeysEachOnce, GivesNumber, RefusesKey, no_number}
use Rattle.morsel_row_keys.specs.Pairs.{Pair, PairList, pair_with, pairs_of}

-- no pairs, whose values are to be of a type
abbrev pub blank_pairs : ColType → PairList
blank_pairs kind = record { kind = kind; pairs = [] }

-- a row of one value
abbrev pub single_row : Value → Row
single_row v = v ∷ []

-- the row of a pair: the one of its number, with its value last
abbrev pub row_of_pair : List Row → Pair → Row
row_of_pair rows pair = get_or rows pair.first [] ++ pair.second ∷ []

-- the rows of the last table, by those before the first
abbrev pub chain_rows : List Row → List PairList → List Row
chain_rows rows [] = rows
chain_rows rows (table ∷ tables) = chain_rows (map (row_of_pair rows) table.pairs) tables

-- each pair is of one of so many rows
abbrev pub ArePairsOf : ℕ → List Pair → Type 0
ArePairsOf count pairs = (k : ℕ) (pair : Pair) → slice_get pairs k ≡ Some pair → pair.first < count

-- each table has pairs of the rows before it, each once
abbrev pub IsChain : ℕ → List PairList → Type 0
IsChain count [] = Unit {0}
IsChain count (table ∷ tables) = ArePairsOf count table.pairs × HasKeysEachOnce table.pairs × (length table.pairs ≤ no_number) × IsChain (length table.pairs) tables

-- the keys of the first column, and the tables of those that follow
pub record AreRowTables (first : Values) (more : List PairList) : Type 0 where
  pub within : length first.values ≤ no_number
  pub once : HasKeysEachOnce first.values
  pub chain : IsChain (length first.values) more

-- numbers of rows are looked up in one table after the other, each time with the next column
abbrev pub LooksUpChain : List PairList → List ℕ → List (List Value) → List ℕ → Type 0
LooksUpChain [] numbers [] ats = ats ≡ numbers
LooksUpChain (table ∷ tables) numbers (vs ∷ columns) ats = (mid : List ℕ) × AreLookedUp table.pairs (pairs_of numbers vs) mid × LooksUpChain tables mid columns ats
LooksUpChain tables numbers columns ats = ⊥

-- one table after the other gives a number to the pair of the number before and the next value
abbrev pub NumbersChain : List PairList → ℕ → List Value → ℕ → List PairList → Type 0
NumbersChain [] first [] at [] = at ≡ first
NumbersChain (table ∷ tables) first (v ∷ vs) at (next ∷ more) = (mid : ℕ) × GivesNumber table.pairs (pair_with first v) mid next.pairs × (mid < no_number) × (next.kind ≡ table.kind) × NumbersChain tables mid vs at more
NumbersChain tables first vs at more = ⊥

-- one table refuses its pair, and stays as it is with those that follow
abbrev pub StopsChain : List PairList → ℕ → List Value → Fault → List PairList → Type 0
StopsChain (table ∷ tables) first (v ∷ vs) fault (next ∷ more) = (RefusesKey table.pairs (pair_with first v) (Err fault) × (next ≡ table) × (more ≡ tables))
    ⊎ ((mid : ℕ) × GivesNumber table.pairs (pair_with first v) mid next.pairs × (mid < no_number) × (next.kind ≡ table.kind) × StopsChain tables mid vs fault more)
StopsChain tables first vs fault more = ⊥

-- why a key is refused, of which there are so many, where a part of it is: memory is short where there may be more keys
abbrev pub refusal_of : Fault → ℕ → Fault
refusal_of OutOfMemory count = OutOfMemory
refusal_of fault count = if nat_lt count no_number then OutOfMemory else fault

-- what becomes of a key, of which there are so many, where this became of a part of it
abbrev pub whole_of : Result ℕ Fault → ℕ → Result ℕ Fault
whole_of (Ok at) count = Ok at
whole_of (Err fault) count = Err (refusal_of fault count)
