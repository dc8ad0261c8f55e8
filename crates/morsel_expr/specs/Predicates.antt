-- What a predicate says of a row.
use Rattle.std.specs.Prelude.{ℕ, Bool, true, false, not, ◌||◌, if◌then◌else◌, Option, Some, None, List, [], ◌∷◌}
use Rattle.std.specs.List.{position}
use Rattle.std.specs.Str.{bytes_eq}
use Rattle.std.specs.Ordering.{is_eq, is_lt, is_le, is_gt, is_ge}
use Rattle.std.specs.declared.cmp.Ordering.{Ordering}
use Rattle.morsel_meaning.specs.declared.value.Value.{Value}
use Rattle.morsel_meaning.specs.declared.value.Value.TheVariants as values
use Rattle.morsel_meaning.specs.declared.value.Field.{Field}
use Rattle.morsel_meaning.specs.Values.{Row}
use Rattle.morsel_meaning.specs.Order.{value_cmp}
use Rattle.morsel_frame.specs.Tables.{cell_at}
use Rattle.morsel_expr.specs.declared.truth.Truth.{Truth}
use Rattle.morsel_expr.specs.declared.truth.Truth.TheVariants.{Unknown}
use Rattle.morsel_expr.specs.declared.node.CmpOp.{CmpOp}
use Rattle.morsel_expr.specs.declared.node.CmpOp.TheVariants as ops
use Rattle.morsel_expr.specs.declared.node.Rhs.{Rhs}
use Rattle.morsel_expr.specs.declared.node.Rhs.TheVariants as sides
use Rattle.morsel_expr.specs.declared.node.PredNode.{PredNode}
use Rattle.morsel_expr.specs.declared.node.PredNode.TheVariants as nodes
use Rattle.morsel_expr.specs.Truths.{least, greatest, mirror, certain}

-- whether a value is a null
abbrev pub is_null : Value → Bool
is_null values.Null = true
is_null (values.Int n) = false
is_null (values.Bool b) = false
is_null (values.Text t) = false

-- whether a comparison holds of two values in this order
abbrev pub holds : CmpOp → Ordering → Bool
holds ops.Eq order = is_eq order
holds ops.Ne order = not (is_eq order)
holds ops.Lt order = is_lt order
holds ops.Le order = is_le order
holds ops.Gt order = is_gt order
holds ops.Ge order = is_ge order

-- two values compared; with a null the answer is unknown
abbrev pub compared : CmpOp → Value → Value → Truth
compared op a b = if is_null a || is_null b then Unknown else certain (holds op (value_cmp a b))

-- the values of two columns compared, row by row
abbrev pub compared_pairs : CmpOp → List Value → List Value → List Truth
compared_pairs op [] others = []
compared_pairs op (v ∷ vs) [] = []
compared_pairs op (v ∷ vs) (w ∷ ws) = compared op v w ∷ compared_pairs op vs ws

-- a truth value as the answer of a test; a null is unknown
abbrev pub asserted : Value → Truth
asserted values.Null = Unknown
asserted (values.Int n) = Unknown
asserted (values.Bool b) = certain b
asserted (values.Text t) = Unknown

-- the place of the column of this name
abbrev pub place_of : List Field → List ℕ → Option ℕ
place_of fields name = position (λ field. bytes_eq field.name name) fields

-- the value of a row at the place of a column, and a null where there is no such column
abbrev pub value_at_place : Option ℕ → Row → Value
value_at_place None row = values.Null
value_at_place (Some at) row = cell_at at row

-- the value of a row under the column of this name
abbrev pub value_under : List Field → List ℕ → Row → Value
value_under fields name row = value_at_place (place_of fields name) row

-- the second side of a comparison at a row
abbrev pub side : List Field → Rhs → Row → Value
side fields (sides.Col name) row = value_under fields name row
side fields (sides.Lit value) row = value

-- what a predicate says of a row under these fields
abbrev pub truth : List Field → PredNode → Row → Truth
truth fields (nodes.And' p a q b) row = least (truth fields a row) (truth fields b row)
truth fields (nodes.Or' p a q b) row = greatest (truth fields a row) (truth fields b row)
truth fields (nodes.Not' p a) row = mirror (truth fields a row)
truth fields (nodes.IsNull name) row = certain (is_null (value_under fields name row))
truth fields (nodes.NotNull name) row = certain (not (is_null (value_under fields name row)))
truth fields (nodes.Is name) row = asserted (value_under fields name row)
truth fields (nodes.Cmp op name rhs) row = compared op (value_under fields name row) (side fields rhs row)
