-- What a call makes of a table: lists of rows.
use Rattle.std.specs.Prelude.{ℕ, ◌+◌, ◌==◌, pos, Bool, true, false, ◌&&◌, if◌then◌else◌, Option, Some, None, List, [], ◌∷◌, ◌++◌, length, map, get_or, take, drop}
use Rattle.std.specs.Str.{bytes_eq}
use Rattle.morsel_meaning.specs.declared.value.ColType.{ColType}
use Rattle.morsel_meaning.specs.declared.value.ColType.TheVariants as types
use Rattle.morsel_meaning.specs.declared.value.Value.{Value}
use Rattle.morsel_meaning.specs.declared.value.Value.TheVariants as values
use Rattle.morsel_meaning.specs.declared.value.Field.{Field}
use Rattle.morsel_meaning.specs.Values.{Row}

-- the value of a row under a column
abbrev pub cell_at : ℕ → Row → Value
cell_at at row = get_or row at values.Null

-- those of `len` rows from `offset` on that exist
abbrev pub rows_between : ℕ → ℕ → List Row → List Row
rows_between offset len rows = take len (drop offset rows)

-- whether two types are the same
abbrev pub same_kind : ColType → ColType → Bool
same_kind types.Int types.Int = true
same_kind types.Bool types.Bool = true
same_kind types.Text types.Text = true
same_kind a b = false

-- whether two columns have one name and one type
abbrev pub same_field : Field → Field → Bool
same_field a b = bytes_eq a.name b.name && same_kind a.kind b.kind

-- the name of the first column that differs from the other's at its place
abbrev pub first_difference : List Field → List Field → Option (List ℕ)
first_difference [] others = None
first_difference (field ∷ fields) [] = None
first_difference (field ∷ fields) (other ∷ others) = if same_field field other then first_difference fields others else Some field.name

-- why rows of the others' columns are not rows of these: the first that differs, and no name where widths differ
abbrev pub difference : List Field → List Field → Option (List ℕ)
difference fields others = if length fields == length others then first_difference fields others else Some []

-- rows side by side
abbrev pub beside : List Row → List Row → List Row
beside [] others = []
beside (row ∷ rows) [] = []
beside (row ∷ rows) (other ∷ others) = (row ++ other) ∷ beside rows others

-- the rows with these numbers
abbrev pub rows_at : List Row → List ℕ → List Row
rows_at rows places = map (λ row. get_or rows row []) places

-- the values with these places
abbrev pub cells_at : List ℕ → Row → Row
cells_at places row = map (λ at. cell_at at row) places

-- the fields with these places, all of which are within
abbrev pub fields_at : List Field → List ℕ → List Field
fields_at fields [] = []
fields_at fields (at ∷ places) = take 1 (drop at fields) ++ fields_at fields places

-- the rows with a number first, from `first` on
abbrev pub numbered : ℕ → List Row → List Row
numbered first [] = []
numbered first (row ∷ rows) = (values.Int (pos first) ∷ row) ∷ numbered (first + 1) rows

-- the rows with one text last
abbrev pub with_text : List ℕ → List Row → List Row
with_text text rows = map (λ row. row ++ values.Text text ∷ []) rows
