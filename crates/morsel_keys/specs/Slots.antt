-- Tables of keys by slots. A slot holds the place of a key and 1, or 0. A search that reaches the end of the slots goes no further.
use Rattle.std.specs.Prelude.{◌≡◌, ◌≢◌, ◌≤◌, ◌<◌, ◌+◌, ◌-◌, ◌^◌, ◌++◌, ◌⊎◌, ℕ, nat_lt, if◌then◌else◌, List, [], ◌∷◌, length, get_or, set, slice_get, take, Some, Result, Ok, Err}
use Rattle.morsel_meaning.specs.declared.fault.Fault.{Fault}
use Rattle.morsel_meaning.specs.declared.fault.Fault.TheVariants.{OutOfMemory, ComputeError}
use Rattle.morsel_meaning.specs.declared.fault.ComputeKind.TheVariants.{TooManyGroups}

-- the key is none of these
abbrev pub IsNewKey : {K : Type 0} → K → List K → Type 0
IsNewKey key keys = (k : ℕ) → slice_get keys k ≢ Some key

-- each key once: a key that has two places has one
abbrev pub HasKeysEachOnce : {K : Type 0} → List K → Type 0
HasKeysEachOnce {K} keys = (i j : ℕ) (key : K) → slice_get keys i ≡ Some key → slice_get keys j ≡ Some key → i ≡ j

-- a key gets a number among keys in order of arrival: its place, or where it is new the next place, and it comes last
abbrev pub GivesNumber : {K : Type 0} → List K → K → ℕ → List K → Type 0
GivesNumber old key at new = ((slice_get old at ≡ Some key) × (new ≡ old)) ⊎ (IsNewKey key old × (at ≡ length old) × (new ≡ old ++ key ∷ []))

-- keys, one after the other, get these numbers
abbrev pub NumbersAll : {K : Type 0} → List K → List K → List ℕ → List K → Type 0
NumbersAll old [] [] new = new ≡ old
NumbersAll old [] (at ∷ ats) new = ⊥
NumbersAll old (key ∷ keys) [] new = ⊥
NumbersAll {K} old (key ∷ keys) (at ∷ ats) new = (mid : List K) × GivesNumber old key at mid × NumbersAll mid keys ats new

-- the number that no key has
abbrev pub no_number : ℕ
no_number = 4294967295

-- what a look-up of a key finds: its number, or that it has none
abbrev pub IsFound : {K : Type 0} → List K → K → ℕ → Type 0
IsFound keys key at = ((at ≡ no_number) × IsNewKey key keys) ⊎ (slice_get keys at ≡ Some key)

-- a key is refused where it is new and there are as many as may be; a number is below those many
abbrev pub RefusesKey : {K : Type 0} → List K → K → Result ℕ Fault → Type 0
RefusesKey keys key (Ok at) = at < no_number
RefusesKey keys key (Err OutOfMemory) = Unit {0}
RefusesKey keys key (Err fault) = (fault ≡ ComputeError TooManyGroups 4294967295 0) × IsNewKey key keys × (length keys ≡ no_number)

-- each slot is 0 or the place of a key and 1
abbrev pub AreSlots : List ℕ → ℕ → Type 0
AreSlots slots count = (p : ℕ) → get_or slots p 0 ≤ count

-- the first free place from a place on, or the end
pub record IsHole (slots : List ℕ) (from at : ℕ) : Type 0 where
  pub after : from ≤ at
  pub within : at ≤ length slots
  pub free : get_or slots at 0 ≡ 0
  pub full : (q : ℕ) → from ≤ q → q < at → 0 < get_or slots q 0

-- slots with one written, or put last
abbrev pub with_slot : ℕ → ℕ → List ℕ → List ℕ
with_slot at slot slots = if nat_lt at (length slots) then set slots at slot else slots ++ slot ∷ []

-- the slots from one place up to another are full, and lead to other keys
abbrev pub HasPassed : {K : Type 0} → List ℕ → List K → K → ℕ → ℕ → Type 0
HasPassed slots keys key from to = (q : ℕ) → from ≤ q → q < to → (0 < get_or slots q 0) × (slice_get keys (get_or slots q 0 - 1) ≢ Some key)

-- the search for a key from a place on ends at a free place, or at the end
abbrev pub IsFreeFor : {K : Type 0} → List ℕ → List K → K → ℕ → Type 0
IsFreeFor slots keys key from = (at : ℕ) × IsHole slots from at × HasPassed slots keys key from at

-- the search from a place on comes to the slot of the key at place k
pub record Reaches (slots : List ℕ) (from k : ℕ) : Type 0 where
  pub at : ℕ
  pub after : from ≤ at
  pub within : at < length slots
  pub held : get_or slots at 0 ≡ k + 1
  pub full : (q : ℕ) → from ≤ q → q < at → 0 < get_or slots q 0

-- each key is found from where its search begins
pub record IsIndexed {K : Type 0} (home : K → ℕ) (mask : ℕ) (slots : List ℕ) (keys : List K) : Type 0 where
  pub masked : mask ≤ length slots
  pub fit : AreSlots slots (length keys)
  pub short : length keys < 2 ^ 32
  pub found : (k : ℕ) (key : K) → slice_get keys k ≡ Some key → Reaches slots (home key) k

-- what look-ups of keys find, each at its place
pub record AreLookedUp {K : Type 0} (keys vs : List K) (ats : List ℕ) : Type 0 where
  pub len : length ats ≡ length vs
  pub each : (i : ℕ) (v : K) → slice_get vs i ≡ Some v → IsFound keys v (get_or ats i 0)

-- the keys before one got numbers, and that one was refused
pub record StopsNumbering {K : Type 0} (old vs : List K) (fault : Fault) (new : List K) : Type 0 where
  pub at : ℕ
  pub key : K
  pub numbers : List ℕ
  pub stopped : slice_get vs at ≡ Some key
  pub before : NumbersAll old (take at vs) numbers new
  pub refused : RefusesKey new key (Err fault)

-- keys get numbers, or stop at one that is refused
abbrev pub NumbersOrStops : {K : Type 0} → List K → List K → List ℕ → List K → Result (Unit {0}) Fault → Type 0
NumbersOrStops old vs ats new (Ok done) = NumbersAll old vs ats new
NumbersOrStops old vs ats new (Err fault) = StopsNumbering old vs fault new
