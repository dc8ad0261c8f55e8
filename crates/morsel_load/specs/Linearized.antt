-- The rows of several pipes by number.
use Rattle.std.specs.Prelude.{◌≡◌, List, map}
use Rattle.std.specs.List.Sorted.{IsPermutation, IsNonDecreasingBy, IsStableByKey}
use Rattle.std.specs.Ordering.{nat_cmp}
use Rattle.morsel_meaning.specs.Values.{Table}
use Rattle.morsel_load.specs.Morsels.{MorselSeen}

-- the rows of all morsels, each once, by number; those of equal numbers in the order of the morsels
abbrev pub AreLinearized : {K : Type 0} → List (MorselSeen K) → List Table → Type 0
AreLinearized morsels frames = (ordered : List (MorselSeen _)) × (frames ≡ map (λ morsel. morsel.frame) ordered)
    × IsPermutation morsels ordered
    × IsNonDecreasingBy (λ morsel. morsel.seq) ordered
    × IsStableByKey (λ morsel. morsel.seq) nat_cmp morsels ordered
