-- How a column keeps its values: numbers, truth values or texts side by side, and beside them marks of those that are valid.
use Rattle.std.specs.Prelude.{◌≡◌, Bool, false, pos, List, [], length, map}
use Rattle.morsel_meaning.specs.declared.value.ColType.{ColType}
use Rattle.morsel_meaning.specs.declared.value.ColType.TheVariants as types
use Rattle.morsel_meaning.specs.declared.value.Value.{Value}
use Rattle.morsel_meaning.specs.declared.value.Value.TheVariants as values
use Rattle.morsel_frame.specs.declared.packed.Packed.{Packed}
use Rattle.morsel_frame.specs.declared.packed.Packed.TheVariants as packed
use Rattle.morsel_frame.specs.Columns.{Values, masked}

-- what is kept, each as a value
abbrev pub stored : Packed → List Value
stored (packed.Int numbers) = map values.Int numbers.items
stored (packed.Bool flags) = map values.Bool flags.items
stored (packed.Text texts) = map values.Text texts

-- the type of what is kept
abbrev pub kind_of : Packed → ColType
kind_of (packed.Int numbers) = types.Int
kind_of (packed.Bool flags) = types.Bool
kind_of (packed.Text texts) = types.Text

-- what is kept under a null
abbrev pub blank_of : ColType → Value
blank_of types.Int = values.Int (pos 0)
blank_of types.Bool = values.Bool false
blank_of types.Text = values.Text []

-- what is kept for a value of a type: the value, and a blank for a null
abbrev pub kept_of : ColType → Value → Value
kept_of kind values.Null = blank_of kind
kept_of kind (values.Int n) = values.Int n
kept_of kind (values.Bool b) = values.Bool b
kept_of kind (values.Text t) = values.Text t

-- the column that is kept so: its type, and its values under their marks
abbrev pub unpacked : Packed → List Bool → Values
unpacked p valid = record { kind = kind_of p; values = masked valid (stored p) }

-- each kept value has a mark
abbrev pub IsPacked : Packed → List Bool → Type 0
IsPacked p valid = length (stored p) ≡ length valid
