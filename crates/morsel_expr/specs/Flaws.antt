-- What a predicate has to be: of few levels, and of names and types that a schema has.
use Rattle.std.specs.Prelude.{ℕ, suc, max, Bool, true, if◌then◌else◌, is_some, Option, Some, None, option_and_then, List, slice_get}
use Rattle.morsel_meaning.specs.declared.value.ColType.{ColType}
use Rattle.morsel_meaning.specs.declared.value.ColType.TheVariants as types
use Rattle.morsel_meaning.specs.declared.value.Value.{Value}
use Rattle.morsel_meaning.specs.declared.value.Value.TheVariants as values
use Rattle.morsel_meaning.specs.declared.value.Field.{Field}
use Rattle.morsel_meaning.specs.declared.fault.Fault.{Fault}
use Rattle.morsel_meaning.specs.declared.fault.Fault.TheVariants.{ColumnNotFound, SchemaMismatch}
use Rattle.morsel_meaning.specs.Values.{kinds_of}
use Rattle.morsel_frame.specs.Tables.{same_kind}
use Rattle.morsel_frame.specs.Refusals.{first_fault}
use Rattle.morsel_expr.specs.declared.node.Rhs.{Rhs}
use Rattle.morsel_expr.specs.declared.node.Rhs.TheVariants as sides
use Rattle.morsel_expr.specs.declared.node.PredNode.{PredNode}
use Rattle.morsel_expr.specs.declared.node.PredNode.TheVariants as nodes
use Rattle.morsel_expr.specs.Predicates.{place_of}

-- how many levels a predicate has: one, and those of its deepest part
abbrev pub levels : PredNode → ℕ
levels (nodes.And' p a q b) = suc (max (levels a) (levels b))
levels (nodes.Or' p a q b) = suc (max (levels a) (levels b))
levels (nodes.Not' p a) = suc (levels a)
levels (nodes.IsNull name) = 1
levels (nodes.NotNull name) = 1
levels (nodes.Is name) = 1
levels (nodes.Cmp op name rhs) = 1

-- the type of the column of this name
abbrev pub kind_under : List Field → List ℕ → Option ColType
kind_under fields name = option_and_then (slice_get (kinds_of fields)) (place_of fields name)

-- the type of a value; a null is of every type
abbrev pub kind_of_value : Value → Option ColType
kind_of_value values.Null = None
kind_of_value (values.Int n) = Some types.Int
kind_of_value (values.Bool b) = Some types.Bool
kind_of_value (values.Text t) = Some types.Text

-- the type of the second side of a comparison
abbrev pub kind_of_side : List Field → Rhs → Option ColType
kind_of_side fields (sides.Col name) = kind_under fields name
kind_of_side fields (sides.Lit value) = kind_of_value value

-- whether two types are the same, where both are told
abbrev pub kinds_fit : Option ColType → Option ColType → Bool
kinds_fit None b = true
kinds_fit (Some a) None = true
kinds_fit (Some a) (Some b) = same_kind a b

-- the fault of a name that no column has
abbrev pub absence : List Field → List ℕ → Option Fault
absence fields name = if is_some (place_of fields name) then None else Some (ColumnNotFound name)

-- a second side whose column is absent; a value never is
abbrev pub absence_of_side : List Field → Rhs → Option Fault
absence_of_side fields (sides.Col name) = absence fields name
absence_of_side fields (sides.Lit value) = None

-- the fault of a column of another type than is wanted
abbrev pub misfit : List Field → List ℕ → Option ColType → Option Fault
misfit fields name wanted = if kinds_fit (kind_under fields name) wanted then None else Some (SchemaMismatch name)

-- the fault of the first name from left to right that no column has
abbrev pub first_absence : List Field → PredNode → Option Fault
first_absence fields (nodes.And' p a q b) = first_fault (first_absence fields a) (first_absence fields b)
first_absence fields (nodes.Or' p a q b) = first_fault (first_absence fields a) (first_absence fields b)
first_absence fields (nodes.Not' p a) = first_absence fields a
first_absence fields (nodes.IsNull name) = absence fields name
first_absence fields (nodes.NotNull name) = absence fields name
first_absence fields (nodes.Is name) = absence fields name
first_absence fields (nodes.Cmp op name rhs) = first_fault (absence fields name) (absence_of_side fields rhs)

-- the fault of the first column from left to right of another type than is wanted
abbrev pub first_misfit : List Field → PredNode → Option Fault
first_misfit fields (nodes.And' p a q b) = first_fault (first_misfit fields a) (first_misfit fields b)
first_misfit fields (nodes.Or' p a q b) = first_fault (first_misfit fields a) (first_misfit fields b)
first_misfit fields (nodes.Not' p a) = first_misfit fields a
first_misfit fields (nodes.IsNull name) = None
first_misfit fields (nodes.NotNull name) = None
first_misfit fields (nodes.Is name) = misfit fields name (Some types.Bool)
first_misfit fields (nodes.Cmp op name rhs) = misfit fields name (kind_of_side fields rhs)

-- the first flaw of a predicate over these fields: an absent name anywhere, and then types that differ
abbrev pub flaw : List Field → PredNode → Option Fault
flaw fields node = first_fault (first_absence fields node) (first_misfit fields node)
