-- Why there is no such group-by: two of its columns have one name, a name that no column has, or a sum of what is no number.
use Rattle.std.specs.Prelude.{ℕ, Option, Some, None, List, [], ◌∷◌}
use Rattle.morsel_meaning.specs.declared.value.ColType.TheVariants as types
use Rattle.morsel_meaning.specs.declared.value.Field.{Field}
use Rattle.morsel_meaning.specs.declared.fault.Fault.{Fault}
use Rattle.morsel_frame.specs.Names.{first_repeated}
use Rattle.morsel_frame.specs.Refusals.{fault_of_repeat, first_fault}
use Rattle.morsel_expr.specs.Flaws.{absence, misfit}
use Rattle.morsel_keys.specs.declared.reduction.Reduction.{Reduction}
use Rattle.morsel_keys.specs.declared.reduction.Reduction.TheVariants as ops
use Rattle.morsel_group.specs.declared.spec.Agg.{Agg}
use Rattle.morsel_group.specs.Asked.{GroupAsked, output_names}

-- the fault of the first of these keys that no column is
abbrev pub key_absence : List Field → List (List ℕ) → Option Fault
key_absence fields [] = None
key_absence fields (name ∷ names) = first_fault (absence fields name) (key_absence fields names)

-- the fault of a reduction whose column there is not
abbrev pub absence_of_agg : List Field → Option (List ℕ) → Option Fault
absence_of_agg fields None = None
absence_of_agg fields (Some name) = absence fields name

-- the fault of the first reduction whose column there is not
abbrev pub agg_absence : List Field → List Agg → Option Fault
agg_absence fields [] = None
agg_absence fields (agg ∷ aggs) = first_fault (absence_of_agg fields agg.column) (agg_absence fields aggs)

-- the fault of a sum of a column that is no column of numbers
abbrev pub misfit_of_agg : List Field → Reduction → Option (List ℕ) → Option Fault
misfit_of_agg fields ops.Sum (Some name) = misfit fields name (Some types.Int)
misfit_of_agg fields op column = None

-- the fault of the first sum of a column that is no column of numbers
abbrev pub agg_misfit : List Field → List Agg → Option Fault
agg_misfit fields [] = None
agg_misfit fields (agg ∷ aggs) = first_fault (misfit_of_agg fields agg.op agg.column) (agg_misfit fields aggs)

-- the fault of a group-by: a name that two of its columns have, a key or a column that there is not, a sum of no numbers
abbrev pub group_flaw : List Field → GroupAsked → Option Fault
group_flaw fields asked = first_fault (fault_of_repeat (first_repeated (output_names asked)))
    (first_fault (key_absence fields asked.keys) (first_fault (agg_absence fields asked.aggs) (agg_misfit fields asked.aggs)))
