-- What is no group-by makes the query that has it none, and the reductions of one have their columns.
use Rattle.std.proofs.Common.{◌≡◌, ℕ, Bool, true, false, if◌then◌else◌, List, [], ◌∷◌, Option, Some, None, refl, subst, option_map, option_and_then}
use Rattle.std.specs.Prelude.{codes}
use Rattle.serde_json.specs.Data.{Data, Items, no_items, item}
use Rattle.serde_json.specs.Find.{get, as_str, as_array}
use Rattle.morsel_meaning.specs.declared.fault.Fault.{Fault}
use Rattle.morsel_meaning.specs.declared.fault.Fault.TheVariants as faults
use Rattle.morsel_keys.specs.declared.reduction.Reduction.{Reduction}
use Rattle.morsel_keys.specs.declared.reduction.Reduction.TheVariants as reductions
use Rattle.morsel_group.specs.declared.spec.Agg.{Agg}
use Rattle.morsel_group.specs.Asked.{GroupAsked, HasItsColumn, HaveColumns}
use Rattle.morsel_query_text.specs.Trees.{FoundAs, IsAtKey, SomeOf, found_as, at_key, each_as, list_of, three_items, word_as, text_or_null}
use Rattle.morsel_query_text.specs.QueryTexts.{GroupOf, reduction_named, has_its_column, agg_with, agg_of_parts, agg_of_three, agg_of}
use Rattle.morsel_query_text.specs.Reads.{RefusedBy}

none_of_some : (found : Data) → ((group : GroupAsked) → GroupOf found group → ⊥) → (group : Option GroupAsked) → SomeOf GroupOf found group → ⊥
none_of_some found none None is = is
none_of_some found none (Some group) is = none group is

-- what is no group-by makes the query that has it none
pub refused_group : (tree found : Data) (fault : Fault) → get (codes "group") tree ≡ Some found → RefusedBy (GroupOf found) fault → RefusedBy (IsAtKey (codes "group") (SomeOf GroupOf) (Some None) tree) fault
refused_group tree found faults.OutOfMemory there refused = tt
refused_group tree found faults.QueryText there refused =
    λ group is. none_of_some found refused group (subst (λ (d : Option Data). FoundAs (SomeOf GroupOf) (Some None) d group) there is)
refused_group tree found (faults.ReadFault file) there refused = refused
refused_group tree found faults.WriteFault there refused = refused
refused_group tree found (faults.InvalidQuery why) there refused = refused
refused_group tree found (faults.Malformed file at) there refused = refused
refused_group tree found (faults.Unsupported file code) there refused = refused
refused_group tree found (faults.ColumnNotFound name) there refused = refused
refused_group tree found (faults.SchemaMismatch name) there refused = refused
refused_group tree found (faults.Duplicate name) there refused = refused
refused_group tree found (faults.ComputeError kind file at) there refused = refused
refused_group tree found faults.Usage there refused = refused

-- ---- columns of reductions

column_told : (op : Reduction) (column : Option (List ℕ)) → has_its_column op column ≡ true → HasItsColumn op column
column_told reductions.Len None is = tt
column_told reductions.Len (Some name) is = absurd (cc)
column_told reductions.Sum None is = absurd (cc)
column_told reductions.Sum (Some name) is = tt
column_told reductions.Min None is = absurd (cc)
column_told reductions.Min (Some name) is = tt
column_told reductions.Max None is = absurd (cc)
column_told reductions.Max (Some name) is = tt
column_told reductions.First None is = absurd (cc)
column_told reductions.First (Some name) is = tt
column_told reductions.Last None is = absurd (cc)
column_told reductions.Last (Some name) is = tt

told_by : (test : Bool) (op : Reduction) (column : Option (List ℕ)) (output : List ℕ) (agg : Agg) → has_its_column op column ≡ test
    → (if test then Some (agg_with op column output) else None) ≡ Some agg → HasItsColumn agg.op agg.column
told_by false op column output agg test is = absurd (cc)
told_by true op column output agg test is = let same : agg_with op column output ≡ agg = cc in subst (λ (a : Agg). HasItsColumn a.op a.column) same (column_told op column test)

part_told : (op : Option Reduction) (column : Option (Option (List ℕ))) (output : Option (List ℕ)) (agg : Agg) → agg_of_parts op column output ≡ Some agg → HasItsColumn agg.op agg.column
part_told None column output agg is = absurd (cc)
part_told (Some op) None output agg is = absurd (cc)
part_told (Some op) (Some column) None agg is = absurd (cc)
part_told (Some op) (Some column) (Some output) agg is = told_by (has_its_column op column) op column output agg refl is

three_told : (three : Option (Data × Data × Data)) (agg : Agg) → option_and_then agg_of_three three ≡ Some agg → HasItsColumn agg.op agg.column
three_told None agg is = absurd (cc)
three_told (Some three) agg is = part_told (word_as reduction_named three.0) (text_or_null three.1) (as_str three.2) agg is

agg_told : (tree : Data) (agg : Agg) → agg_of tree ≡ Some agg → HasItsColumn agg.op agg.column
agg_told tree agg is = three_told (option_and_then three_items (as_array tree)) agg is

item_told : (tree : Data) (aggs : List Agg) (first : Option Agg) (rest : Option (List Agg)) → agg_of tree ≡ first → ((others : List Agg) → rest ≡ Some others → HaveColumns others)
    → option_and_then (λ (value : Agg). option_map (λ (values : List Agg). value ∷ values) rest) first ≡ Some aggs → HaveColumns aggs
item_told tree aggs None rest one more whole = absurd (cc)
item_told tree aggs (Some agg) None one more whole = absurd (cc)
item_told tree aggs (Some agg) (Some others) one more whole = let same : agg ∷ others ≡ aggs = cc in subst HaveColumns same (agg_told tree agg one, more others refl)

items_told : (items : Items) (aggs : List Agg) → each_as agg_of items ≡ Some aggs → HaveColumns aggs
items_told no_items [] is = tt
items_told no_items (agg ∷ aggs) is = absurd (cc)
items_told (item tree items) aggs is = item_told tree aggs (agg_of tree) (each_as agg_of items) refl (items_told items) is

array_told : (items : Option Items) (aggs : List Agg) → option_and_then (each_as agg_of) items ≡ Some aggs → HaveColumns aggs
array_told None aggs is = absurd (cc)
array_told (Some items) aggs is = items_told items aggs is

found_told : (found : Option Data) (aggs : List Agg) → found_as (list_of agg_of) (Some []) found ≡ Some aggs → HaveColumns aggs
found_told None aggs is = let same : ◌≡◌ {A = List Agg} [] aggs = cc in subst HaveColumns same tt
found_told (Some tree) aggs is = array_told (as_array tree) aggs is

-- the reductions that a tree has have their columns
pub aggs_have_columns : (tree : Data) (aggs : List Agg) → at_key (codes "aggs") (list_of agg_of) (Some []) tree ≡ Some aggs → HaveColumns aggs
aggs_have_columns tree aggs is = found_told (get (codes "aggs") tree) aggs is
