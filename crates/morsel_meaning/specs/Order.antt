-- The one equality and the one order of values.
use Rattle.std.specs.Prelude.{ℕ, Bool}
use Rattle.std.specs.Cmp.Lexicographic.{slice_cmp}
use Rattle.std.specs.Ordering.{nat_cmp, int_cmp, bool_cmp, eq_by_cmp, is_lt}
use Rattle.std.specs.declared.cmp.Ordering.{Ordering}
use Rattle.morsel_meaning.specs.declared.value.Value.{Value}
use Rattle.morsel_meaning.specs.declared.value.Value.TheVariants as values

-- null, numbers, truth values, texts
abbrev pub rank : Value → ℕ
rank values.Null = 0
rank (values.Int n) = 1
rank (values.Bool b) = 2
rank (values.Text t) = 3

-- null before all values; numbers by size, false before true, texts by their bytes
abbrev pub value_cmp : Value → Value → Ordering
value_cmp (values.Int m) (values.Int n) = int_cmp m n
value_cmp (values.Bool a) (values.Bool b) = bool_cmp a b
value_cmp (values.Text s) (values.Text t) = slice_cmp nat_cmp s t
value_cmp a b = nat_cmp (rank a) (rank b)

-- whether two values are the same, null being the same as null
abbrev pub value_eq : Value → Value → Bool
value_eq a b = eq_by_cmp value_cmp a b

-- whether a value comes before another
abbrev pub value_before : Value → Value → Bool
value_before a b = is_lt (value_cmp a b)
