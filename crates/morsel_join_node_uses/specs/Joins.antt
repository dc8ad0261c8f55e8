-- Joins of rows with one column.
use Rattle.std.specs.Prelude.{List, [], ◌∷◌, codes}
use Rattle.morsel_meaning.specs.declared.value.ColType.TheVariants.{Int}
use Rattle.morsel_meaning.specs.declared.value.Field.{Field}

-- the columns of either side: the numbers by which the rows are joined
abbrev pub key_columns : List Field
key_columns = record { name = codes "k"; kind = Int } ∷ []
