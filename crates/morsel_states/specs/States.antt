-- What the code keeps for groups.
use Rattle.std.specs.Prelude.{◌≡◌, ◌≢◌, ◌-◌, ◌++◌, ◌⊎◌, ℕ, Option, None, List, length, map, replicate}
use Rattle.std.specs.List.{All}
use Rattle.morsel_meaning.specs.declared.value.ColType.{ColType}
use Rattle.morsel_meaning.specs.declared.value.ColType.TheVariants as types
use Rattle.morsel_keys.specs.declared.reduction.Reduction.{Reduction}
use Rattle.morsel_keys.specs.declared.reduction.Reduction.TheVariants as ops
use Rattle.morsel_keys.specs.Reductions.{Entry, Reducing}
use Rattle.morsel_states.specs.declared.flat.Flat.{Flat}
use Rattle.morsel_states.specs.declared.flat.Flat.TheVariants as flats

-- accumulators of many groups: their reduction, the type of their values, and what is kept for each group
pub record GroupStates : Type 0 where
  pub op : Reduction
  pub kind : ColType
  pub entries : List (Option Entry)

-- what is kept for each group
abbrev pub flat_entries : Flat → List (Option Entry)
flat_entries (flats.Lens lens) = lens.items
flat_entries (flats.Sums sums) = sums.items
flat_entries (flats.Bounds bounds) = bounds.items
flat_entries (flats.Picks picks) = picks.items
flat_entries (flats.Others accs) = map (λ acc. acc.entry) accs.items

-- accumulators are of one reduction and of one type
abbrev pub AreAccs : Reduction → ColType → List Reducing → Type 0
AreAccs op kind accs = All (λ acc. (acc.op ≡ op) × (acc.kind ≡ kind)) accs

-- what is kept is of this reduction, and of values of this type
abbrev pub IsFlat : Reduction → ColType → Flat → Type 0
IsFlat op kind (flats.Lens lens) = op ≡ ops.Len
IsFlat op kind (flats.Sums sums) = (op ≡ ops.Sum) × (kind ≡ types.Int)
IsFlat op kind (flats.Bounds bounds) = ((op ≡ ops.Min) ⊎ (op ≡ ops.Max)) × (kind ≡ types.Int)
IsFlat op kind (flats.Picks picks) = ((op ≡ ops.First) ⊎ (op ≡ ops.Last)) × (kind ≡ types.Int)
IsFlat op kind (flats.Others accs) = (op ≢ ops.Len) × (op ≢ ops.Sum) × (kind ≢ types.Int) × AreAccs op kind accs.items

-- what is kept for groups, with nothing for those that follow up to so many
abbrev pub with_groups : ℕ → List (Option Entry) → List (Option Entry)
with_groups groups entries = entries ++ replicate (groups - length entries) None
