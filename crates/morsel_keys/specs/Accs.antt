-- What the code keeps of values for one reduction.
use Rattle.std.specs.Prelude.{◌≡◌, ◌≤◌, ◌*◌, ◌+ℤ◌, ◌≤ℤ◌, ℕ, ℤ, pos, ◌==◌, if◌then◌else◌, Option, Some, None}
use Rattle.morsel_meaning.specs.declared.value.ColType.{ColType}
use Rattle.morsel_meaning.specs.declared.value.ColType.TheVariants as types
use Rattle.morsel_meaning.specs.declared.value.Value.TheVariants as values
use Rattle.morsel_meaning.specs.Values.{IsOfType}
use Rattle.morsel_keys.specs.declared.reduction.Reduction.{Reduction}
use Rattle.morsel_keys.specs.declared.reduction.Reduction.TheVariants as ops
use Rattle.morsel_keys.specs.declared.kept.Kept.{Kept}
use Rattle.morsel_keys.specs.declared.kept.Kept.TheVariants as kepts
use Rattle.morsel_keys.specs.Reductions.{Entry, input_place, len_limit}

-- the reduction for which it is kept
abbrev pub op_of : Kept → Reduction
op_of kepts.Len = ops.Len
op_of (kepts.Sum total) = ops.Sum
op_of (kepts.Min least) = ops.Min
op_of (kepts.Max greatest) = ops.Max
op_of (kepts.First number arrival value) = ops.First
op_of (kepts.Last number arrival value) = ops.Last

-- what is kept of so many values
abbrev pub kept_entry : ℕ → Kept → Entry
kept_entry len kepts.Len = record { len = len; total = pos 0; bound = values.Null; at = 0; picked = values.Null }
kept_entry len (kepts.Sum total) = record { len = len; total = total; bound = values.Null; at = 0; picked = values.Null }
kept_entry len (kepts.Min least) = record { len = len; total = pos 0; bound = least; at = 0; picked = values.Null }
kept_entry len (kepts.Max greatest) = record { len = len; total = pos 0; bound = greatest; at = 0; picked = values.Null }
kept_entry len (kepts.First number arrival value) = record { len = len; total = pos 0; bound = values.Null; at = input_place number arrival; picked = value }
kept_entry len (kepts.Last number arrival value) = record { len = len; total = pos 0; bound = values.Null; at = input_place number arrival; picked = value }

-- what is kept of so many values, if there are any
abbrev pub kept_if : ℕ → Kept → Option Entry
kept_if len kept = if len == 0 then None else Some (kept_entry len kept)

-- so many numbers of 64 bits add up to no more
abbrev pub IsTotalOf : ℕ → ℤ → Type 0
IsTotalOf len total = (pos 0 ≤ℤ (total +ℤ pos (len * 9223372036854775808))) × (total ≤ℤ pos (len * 9223372036854775808))

-- what is kept is of values of this type, and blank where there are none
abbrev pub KeepsKind : ColType → ℕ → Kept → Type 0
KeepsKind kind len kepts.Len = Unit {0}
KeepsKind kind len (kepts.Sum total) = (kind ≡ types.Int) × IsTotalOf len total
KeepsKind kind len (kepts.Min least) = IsOfType kind least × (len ≡ 0 → least ≡ values.Null)
KeepsKind kind len (kepts.Max greatest) = IsOfType kind greatest × (len ≡ 0 → greatest ≡ values.Null)
KeepsKind kind len (kepts.First number arrival value) = IsOfType kind value × (len ≡ 0 → value ≡ values.Null)
KeepsKind kind len (kepts.Last number arrival value) = IsOfType kind value × (len ≡ 0 → value ≡ values.Null)

-- what an accumulator keeps
pub record KeepsValues (kind : ColType) (len : ℕ) (kept : Kept) : Type 0 where
  pub within : len ≤ len_limit
  pub fits : KeepsKind kind len kept
