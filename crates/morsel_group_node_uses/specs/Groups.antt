-- Rows with one column.
use Rattle.std.specs.Prelude.{List, [], ◌∷◌, codes}
use Rattle.morsel_meaning.specs.declared.value.ColType.TheVariants.{Int}
use Rattle.morsel_meaning.specs.declared.value.Field.{Field}

-- the columns of the rows: the numbers by which they are grouped
abbrev pub grouped_columns : List Field
grouped_columns = record { name = codes "k"; kind = Int } ∷ []
