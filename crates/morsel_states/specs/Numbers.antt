-- Whole numbers that may be missing.
use Rattle.std.specs.Prelude.{ℤ, Option, Some, None}
use Rattle.morsel_meaning.specs.declared.value.Value.{Value}
use Rattle.morsel_meaning.specs.declared.value.Value.TheVariants as values

-- a number, or the null where there is none
abbrev pub number_or_null : Option ℤ → Value
number_or_null None = values.Null
number_or_null (Some n) = values.Int n
