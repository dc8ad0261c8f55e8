-- Reductions: what they say of the values of a group, and the states that say it of parts of them.
use Rattle.std.specs.Prelude.{ℕ, ◌+◌, ◌*◌, ◌^◌, ℤ, pos, negsuc, ◌+ℤ◌, nat_lt, int_lt, Bool, false, not, ◌||◌, if◌then◌else◌, Option, Some, None, List, [], ◌∷◌, length}
use Rattle.morsel_meaning.specs.declared.value.ColType.{ColType}
use Rattle.morsel_meaning.specs.declared.value.ColType.TheVariants as types
use Rattle.morsel_meaning.specs.declared.value.Value.{Value}
use Rattle.morsel_meaning.specs.declared.value.Value.TheVariants as values
use Rattle.morsel_meaning.specs.declared.fault.Fault.{Fault}
use Rattle.morsel_meaning.specs.declared.fault.Fault.TheVariants.{ComputeError}
use Rattle.morsel_meaning.specs.declared.fault.ComputeKind.TheVariants.{SumTooLarge, LenTooLarge}
use Rattle.morsel_meaning.specs.Order.{value_before}
use Rattle.morsel_keys.specs.declared.reduction.Reduction.{Reduction}
use Rattle.morsel_keys.specs.declared.reduction.Reduction.TheVariants as ops
use Rattle.morsel_keys.specs.Groups.{all_parts}

-- the number that a value adds to a sum; a null adds none
abbrev pub addend : Value → ℤ
addend values.Null = pos 0
addend (values.Int n) = n
addend (values.Bool b) = pos 0
addend (values.Text t) = pos 0

-- the lesser of two values, a null being none
abbrev pub lesser : Value → Value → Value
lesser values.Null b = b
lesser a values.Null = a
lesser a b = if value_before b a then b else a

-- the greater of two values, a null being none
abbrev pub greater : Value → Value → Value
greater values.Null b = b
greater a values.Null = a
greater a b = if value_before a b then b else a

-- the numbers, added up; nulls count for nothing
abbrev pub total_of : List Value → ℤ
total_of [] = pos 0
total_of (v ∷ vs) = addend v +ℤ total_of vs

-- the least of the values that are no nulls, and null where there are none
abbrev pub least_of : List Value → Value
least_of [] = values.Null
least_of (v ∷ vs) = lesser v (least_of vs)

-- the greatest of the values that are no nulls, and null where there are none
abbrev pub greatest_of : List Value → Value
greatest_of [] = values.Null
greatest_of (v ∷ vs) = greater v (greatest_of vs)

-- the first value, null or not, and null where there are none
abbrev pub first_of_values : List Value → Value
first_of_values [] = values.Null
first_of_values (v ∷ vs) = v

-- the last value, null or not, and null where there are none
abbrev pub last_of_values : List Value → Value
last_of_values [] = values.Null
last_of_values (v ∷ []) = v
last_of_values (v ∷ w ∷ vs) = last_of_values (w ∷ vs)

-- what a reduction says of the values of a group, in their order
abbrev pub reduction_of : Reduction → List Value → Value
reduction_of ops.Len vs = values.Int (pos (length vs))
reduction_of ops.Sum vs = values.Int (total_of vs)
reduction_of ops.Min vs = least_of vs
reduction_of ops.Max vs = greatest_of vs
reduction_of ops.First vs = first_of_values vs
reduction_of ops.Last vs = last_of_values vs

-- a value of a group, and its place in the order of the input
pub record ValueAt : Type 0 where
  pub at : ℕ
  pub value : Value

-- the place of the value that arrived as this one of the morsel of this number
abbrev pub input_place : ℕ → ℕ → ℕ
input_place number arrival = number * 2 ^ 64 + arrival

-- what is kept of the values of a group for one reduction: how many there are, their total, the least or greatest of them, and
-- the one that was picked with its place
pub record Entry : Type 0 where
  pub len : ℕ
  pub total : ℤ
  pub bound : Value
  pub at : ℕ
  pub picked : Value

-- what is kept of one value
abbrev pub one_entry : Reduction → ValueAt → Entry
one_entry ops.Len v = record { len = 1; total = pos 0; bound = values.Null; at = 0; picked = values.Null }
one_entry ops.Sum v = record { len = 1; total = addend v.value; bound = values.Null; at = 0; picked = values.Null }
one_entry ops.Min v = record { len = 1; total = pos 0; bound = v.value; at = 0; picked = values.Null }
one_entry ops.Max v = record { len = 1; total = pos 0; bound = v.value; at = 0; picked = values.Null }
one_entry ops.First v = record { len = 1; total = pos 0; bound = values.Null; at = v.at; picked = v.value }
one_entry ops.Last v = record { len = 1; total = pos 0; bound = values.Null; at = v.at; picked = v.value }

-- the bound of two parts
abbrev pub bound_of : Reduction → Value → Value → Value
bound_of ops.Len a b = a
bound_of ops.Sum a b = a
bound_of ops.Min a b = lesser a b
bound_of ops.Max a b = greater a b
bound_of ops.First a b = a
bound_of ops.Last a b = a

-- whether the second part has the value that is picked, by the places of both
abbrev pub picks_second : Reduction → ℕ → ℕ → Bool
picks_second ops.Len p q = false
picks_second ops.Sum p q = false
picks_second ops.Min p q = false
picks_second ops.Max p q = false
picks_second ops.First p q = nat_lt q p
picks_second ops.Last p q = not (nat_lt q p)

-- what is kept of two parts of a group together
abbrev pub plus_entries : Reduction → Entry → Entry → Entry
plus_entries op a b = record {
  len = a.len + b.len;
  total = a.total +ℤ b.total;
  bound = bound_of op a.bound b.bound;
  at = if picks_second op a.at b.at then b.at else a.at;
  picked = if picks_second op a.at b.at then b.picked else a.picked;
}

-- what is kept of values, in whatever order they come; none of no values
abbrev pub entry_of : Reduction → List ValueAt → Option Entry
entry_of op vs = all_parts (plus_entries op) (one_entry op) vs

-- what a reduction says by what was kept
abbrev pub entry_value : Reduction → Entry → Value
entry_value ops.Len e = values.Int (pos e.len)
entry_value ops.Sum e = values.Int e.total
entry_value ops.Min e = e.bound
entry_value ops.Max e = e.bound
entry_value ops.First e = e.picked
entry_value ops.Last e = e.picked

-- what a reduction says of no values
abbrev pub empty_value : Reduction → Value
empty_value ops.Len = values.Int (pos 0)
empty_value ops.Sum = values.Int (pos 0)
empty_value ops.Min = values.Null
empty_value ops.Max = values.Null
empty_value ops.First = values.Null
empty_value ops.Last = values.Null

-- what a reduction says by what was kept, if anything was
abbrev pub finished : Reduction → Option Entry → Value
finished op None = empty_value op
finished op (Some e) = entry_value op e

-- how many values there are
abbrev pub entry_len : Option Entry → ℕ
entry_len None = 0
entry_len (Some e) = e.len

-- the most values that a group may have
abbrev pub len_limit : ℕ
len_limit = 9223372036854775807

-- the fault that is due where a group has so many values
abbrev pub len_fault : ℕ → Option Fault
len_fault len = if nat_lt len_limit len then Some (ComputeError LenTooLarge 4294967295 0) else None

-- the fault that is due where a total is outside 64 bits
abbrev pub sum_fault : ℤ → Option Fault
sum_fault n = if int_lt n (negsuc 9223372036854775807) || int_lt (pos 9223372036854775807) n then Some (ComputeError SumTooLarge 4294967295 0) else None

-- the fault that is due where a reduction says what was kept: only a sum has one
abbrev pub total_fault : Reduction → Option Entry → Option Fault
total_fault op None = None
total_fault ops.Len (Some e) = None
total_fault ops.Sum (Some e) = sum_fault e.total
total_fault ops.Min (Some e) = None
total_fault ops.Max (Some e) = None
total_fault ops.First (Some e) = None
total_fault ops.Last (Some e) = None

-- the type of what a reduction says of values of a type
abbrev pub reduced_kind : Reduction → ColType → ColType
reduced_kind ops.Len kind = types.Int
reduced_kind ops.Sum kind = types.Int
reduced_kind ops.Min kind = kind
reduced_kind ops.Max kind = kind
reduced_kind ops.First kind = kind
reduced_kind ops.Last kind = kind

-- an accumulator: its reduction, the type of its values, and what it has of them
pub record Reducing : Type 0 where
  pub op : Reduction
  pub kind : ColType
  pub entry : Option Entry
