-- The columns of a scan: those of its files, the row index before them and the path after them; which are used, and which are kept.
use Rattle.std.specs.Prelude.{ℕ, ◌+◌, ◌==◌, ◌||◌, pos, Bool, Option, Some, None, List, [], ◌∷◌, ◌++◌, map, length}
use Rattle.morsel_meaning.specs.declared.value.ColType.TheVariants as types
use Rattle.morsel_meaning.specs.declared.value.Value.{Value}
use Rattle.morsel_meaning.specs.declared.value.Value.TheVariants as values
use Rattle.morsel_meaning.specs.declared.value.Field.{Field}
use Rattle.morsel_frame.specs.Names.{stands_in}
use Rattle.morsel_grammar.specs.Reading.{chosen}
use Rattle.morsel_expr.specs.declared.node.Rhs.{Rhs}
use Rattle.morsel_expr.specs.declared.node.Rhs.TheVariants as sides
use Rattle.morsel_expr.specs.declared.node.PredNode.{PredNode}
use Rattle.morsel_expr.specs.declared.node.PredNode.TheVariants as nodes
use Rattle.morsel_scan.specs.declared.spec.RowIndex.{RowIndex}
use Rattle.morsel_scan.specs.Scans.{Scan}

-- the names of the columns in the second side of a comparison
abbrev pub names_in_side : Rhs → List (List ℕ)
names_in_side (sides.Col name) = name ∷ []
names_in_side (sides.Lit value) = []

-- the names of the columns that a predicate speaks of
abbrev pub names_in : PredNode → List (List ℕ)
names_in (nodes.And' p a q b) = names_in a ++ names_in b
names_in (nodes.Or' p a q b) = names_in a ++ names_in b
names_in (nodes.Not' p a) = names_in a
names_in (nodes.IsNull name) = name ∷ []
names_in (nodes.NotNull name) = name ∷ []
names_in (nodes.Is name) = name ∷ []
names_in (nodes.Cmp op name rhs) = name ∷ names_in_side rhs

-- the names of the columns that a filter speaks of, where there is one
abbrev pub filter_names : Option PredNode → List (List ℕ)
filter_names None = []
filter_names (Some node) = names_in node

-- whether a column is kept: one of those that are asked for, or any where none is
abbrev pub is_kept : List (List ℕ) → List ℕ → Bool
is_kept columns name = length columns == 0 || stands_in name columns

-- which columns of the files are kept
abbrev pub kept_columns : Scan → List Bool
kept_columns scan = map (λ (field : Field). is_kept scan.asked.columns field.name) scan.fields

-- which columns of the files are used: they are kept, or the filter speaks of them
abbrev pub used_columns : Scan → List Bool
used_columns scan = map (λ (field : Field). is_kept scan.asked.columns field.name || stands_in field.name (filter_names scan.filter)) scan.fields

-- the field of the row index, where there is one
abbrev pub index_fields : Option RowIndex → List Field
index_fields None = []
index_fields (Some index) = record { name = index.name; kind = types.Int } ∷ []

-- the field of the path, where there is one
abbrev pub path_fields : Option (List ℕ) → List Field
path_fields None = []
path_fields (Some name) = record { name = name; kind = types.Text } ∷ []

-- the number of the row at a position, where there is a row index
abbrev pub index_values : Option RowIndex → ℕ → List Value
index_values None position = []
index_values (Some index) position = values.Int (pos (index.offset + position)) ∷ []

-- the name of a row's file, where there is a path
abbrev pub path_values : Option (List ℕ) → List ℕ → List Value
path_values None source = []
path_values (Some name) source = values.Text source ∷ []

-- the columns that a filter may speak of: the row index, those of the files, the path
abbrev pub whole_fields : Scan → List Field
whole_fields scan = index_fields scan.asked.row_index ++ (scan.fields ++ path_fields scan.asked.path)

-- the columns of a scan's rows: the row index, the kept columns in the order of the files, the path
abbrev pub output_fields : Scan → List Field
output_fields scan = index_fields scan.asked.row_index ++ (chosen (kept_columns scan) scan.fields ++ path_fields scan.asked.path)
