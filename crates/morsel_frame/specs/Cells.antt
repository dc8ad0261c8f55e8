-- The value that a cell lends.
use Rattle.std.specs.Prelude.{Bool, true, false}
use Rattle.morsel_meaning.specs.declared.value.Value.{Value}
use Rattle.morsel_meaning.specs.declared.value.Value.TheVariants as values
use Rattle.morsel_frame.specs.declared.cell.Cell.{Cell}
use Rattle.morsel_frame.specs.declared.cell.Cell.TheVariants as cells

-- the value that is lent
abbrev pub value_of : Cell → Value
value_of cells.Null = values.Null
value_of (cells.Int n) = values.Int n
value_of (cells.Bool b) = values.Bool b
value_of (cells.Text t) = values.Text t.now

-- whether there is a value
abbrev pub not_null : Value → Bool
not_null values.Null = false
not_null (values.Int n) = true
not_null (values.Bool b) = true
not_null (values.Text t) = true
