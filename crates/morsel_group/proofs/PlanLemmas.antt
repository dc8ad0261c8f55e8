-- Names of a group-by that meet columns, one after the other.
use Rattle.std.proofs.Common.{◌≡◌, ◌<◌, ◌++◌, [], ◌∷◌, List, ℕ, zero, suc, ◌+◌, length, take, drop, slice_get, get_or, map, None, Some, refl, ap, ◌∙◌, sym, Bool, if◌then◌else◌, is_some, subst}
use Rattle.std.specs.Prelude.{Option, Result, Ok, Err, IsOkUnless}
use Rattle.std.specs.Str.{bytes_eq}
use Rattle.std.proofs.lemmas.List.{at_drop_more, map-append}
use Rattle.std.proofs.lemmas.Slice.Eq.{bytes_eq-Decides}
use Rattle.std.proofs.lemmas.List.Quantifiers.{position-Some}
use Rattle.morsel_meaning.specs.declared.value.Field.{Field}
use Rattle.morsel_meaning.specs.declared.value.ColType.{ColType}
use Rattle.morsel_meaning.specs.declared.value.ColType.TheVariants as types
use Rattle.morsel_meaning.specs.declared.fault.Fault.{Fault}
use Rattle.morsel_meaning.specs.declared.fault.Fault.TheVariants as faults
use Rattle.morsel_meaning.specs.Values.{names_of, kinds_of}
use Rattle.morsel_frame.specs.Refusals.{Refuses, first_fault, repeat_fault, fault_of_repeat}
use Rattle.morsel_frame.specs.Names.{first_repeated}
use Rattle.morsel_frame.specs.Tables.{fields_at}
use Rattle.morsel_frame.proofs.SelectLemmas.{field-at}
use Rattle.morsel_expr.specs.Predicates.{place_of}
use Rattle.morsel_expr.specs.Flaws.{absence}
use Rattle.morsel_group.specs.declared.spec.Agg.{Agg}
use Rattle.morsel_group.specs.Asked.{GroupAsked, output_names, place_or_first, column_place, kind_of_fields, agg_field, group_fields}
use Rattle.morsel_group.specs.GroupFlaws.{key_absence, absence_of_agg, agg_absence, misfit_of_agg, agg_misfit}

-- the keys that follow have a fault where this one has none
pub keys_next : (fields : List Field) (names : List (List ℕ)) (i : ℕ) (name : List ℕ) → i < length names → name ≡ get_or names i name → key_absence fields (drop i names) ≡ first_fault (absence fields name) (key_absence fields (drop (i + 1) names))
keys_next fields names i name within read =
    at_drop_more (key_absence fields) names i name within
    ∙ ap (λ (n : List ℕ). key_absence fields (n ∷ drop (i + 1) names)) (sym read)

pub aggs_next : (fields : List Field) (aggs : List Agg) (i : ℕ) (agg : Agg) → i < length aggs → agg ≡ get_or aggs i agg → agg_absence fields (drop i aggs) ≡ first_fault (absence_of_agg fields agg.column) (agg_absence fields (drop (i + 1) aggs))
aggs_next fields aggs i agg within read =
    at_drop_more (agg_absence fields) aggs i agg within
    ∙ ap (λ (a : Agg). agg_absence fields (a ∷ drop (i + 1) aggs)) (sym read)

pub sums_next : (fields : List Field) (aggs : List Agg) (i : ℕ) (agg : Agg) → i < length aggs → agg ≡ get_or aggs i agg → agg_misfit fields (drop i aggs) ≡ first_fault (misfit_of_agg fields agg.op agg.column) (agg_misfit fields (drop (i + 1) aggs))
sums_next fields aggs i agg within read =
    at_drop_more (agg_misfit fields) aggs i agg within
    ∙ ap (λ (a : Agg). agg_misfit fields (a ∷ drop (i + 1) aggs)) (sym read)

-- the first fault is one that was answered
pub refuses_first : (T U : Type 0) (due rest : Option Fault) (fault : Fault) → Refuses {T = T} due (Err fault) → Refuses {T = U} (first_fault due rest) (Err fault)
refuses_first T U due rest faults.OutOfMemory is = tt
refuses_first T U due rest (faults.ReadFault file) is = ap (λ d. first_fault d rest) is
refuses_first T U due rest faults.WriteFault is = ap (λ d. first_fault d rest) is
refuses_first T U due rest (faults.InvalidQuery why) is = ap (λ d. first_fault d rest) is
refuses_first T U due rest (faults.Malformed file at) is = ap (λ d. first_fault d rest) is
refuses_first T U due rest (faults.Unsupported file code) is = ap (λ d. first_fault d rest) is
refuses_first T U due rest (faults.ColumnNotFound name) is = ap (λ d. first_fault d rest) is
refuses_first T U due rest (faults.SchemaMismatch name) is = ap (λ d. first_fault d rest) is
refuses_first T U due rest (faults.Duplicate name) is = ap (λ d. first_fault d rest) is
refuses_first T U due rest (faults.ComputeError kind file at) is = ap (λ d. first_fault d rest) is
refuses_first T U due rest faults.QueryText is = ap (λ d. first_fault d rest) is
refuses_first T U due rest faults.Usage is = ap (λ d. first_fault d rest) is

-- the type of the column at a place
pub kind_of_drop : (fields : List Field) (at : ℕ) (field : Field) → slice_get fields at ≡ Some field → kind_of_fields (drop at fields) ≡ field.kind
kind_of_drop [] at field e = cc
kind_of_drop (f ∷ fields) zero field e = ap (λ (x : Field). x.kind) (some_same e)
  where
    some_same : Some f ≡ Some field → f ≡ field
    some_same e = cc
kind_of_drop (f ∷ fields) (suc at) field e = kind_of_drop fields at field e

-- the names of keys that there are
name_found : (fields : List Field) (name : List ℕ) (at : Option ℕ) → place_of fields name ≡ at → (if is_some at then None else Some (faults.ColumnNotFound name)) ≡ None → names_of (take 1 (drop (place_or_first at) fields)) ≡ name ∷ []
name_found fields name None e none = absurd (some_none none)
  where
    some_none : Some (faults.ColumnNotFound name) ≡ None → ⊥
    some_none e = cc
name_found fields name (Some at) e none = named fields at (λ (field : Field). bytes_eq field.name name) (position-Some (λ (field : Field). bytes_eq field.name name) fields at (record { name = []; kind = types.Int }) e).0
    ∙ ap (λ (n : List ℕ). n ∷ []) ((bytes_eq-Decides (get_or fields at (record { name = []; kind = types.Int })).name name).0 (position-Some (λ (field : Field). bytes_eq field.name name) fields at (record { name = []; kind = types.Int }) e).1)
  where
    named : (fs : List Field) (k : ℕ) (test : Field → Bool) → k < length fs → names_of (take 1 (drop k fs)) ≡ (get_or fs k (record { name = []; kind = types.Int })).name ∷ []
    named fs k test within = ap names_of (field-at fs k (record { name = []; kind = types.Int }) within)

-- a name that is found is the name of a column
pub name_within : (fields : List Field) (name : List ℕ) (at : Option ℕ) → place_of fields name ≡ at → (if is_some at then None else Some (faults.ColumnNotFound name)) ≡ None → place_or_first at < length fields
name_within fields name None e none = absurd (some_none none)
  where
    some_none : Some (faults.ColumnNotFound name) ≡ None → ⊥
    some_none e = cc
name_within fields name (Some at) e none = (position-Some (λ (field : Field). bytes_eq field.name name) fields at (record { name = []; kind = types.Int }) e).0

pub first_none : (a b : Option Fault) → first_fault a b ≡ None → (a ≡ None) × (b ≡ None)
first_none None b e = (refl, e)
first_none (Some f) b e = cc

-- the names of the keys are those that were asked for
pub key_names : (fields : List Field) (names : List (List ℕ)) → key_absence fields names ≡ None → names_of (fields_at fields (map (column_place fields) names)) ≡ names
key_names fields [] none = refl
key_names fields (name ∷ names) none =
    let both = first_none (absence fields name) (key_absence fields names) none in
    map-append (λ (f : Field). f.name) (take 1 (drop (column_place fields name) fields)) (fields_at fields (map (column_place fields) names))
    ∙ ap (λ ns. ns ++ names_of (fields_at fields (map (column_place fields) names))) (name_found fields name (place_of fields name) refl both.0)
    ∙ ap (λ ns. name ∷ ns) (key_names fields names both.1)

pub agg_names : (fields : List Field) (aggs : List Agg) → names_of (map (agg_field fields) aggs) ≡ map (λ (agg : Agg). agg.output) aggs
agg_names fields [] = refl
agg_names fields (agg ∷ aggs) = ap (λ ns. agg.output ∷ ns) (agg_names fields aggs)

-- the names of the columns of a group-by are those of its keys and of its reductions
pub group_names : (fields : List Field) (asked : GroupAsked) → key_absence fields asked.keys ≡ None → names_of (group_fields fields asked) ≡ output_names asked
group_names fields asked none =
    map-append (λ (f : Field). f.name) (fields_at fields (map (column_place fields) asked.keys)) (map (agg_field fields) asked.aggs)
    ∙ ap (λ ns. ns ++ names_of (map (agg_field fields) asked.aggs)) (key_names fields asked.keys none)
    ∙ ap (λ ns. asked.keys ++ ns) (agg_names fields asked.aggs)

-- a key that is refused is the first that no column is
pub keys_refused : (T U : Type 0) (fields : List Field) (names : List (List ℕ)) (i : ℕ) (name : List ℕ) (fault : Fault) → i < length names → name ≡ get_or names i name → key_absence fields names ≡ key_absence fields (drop i names)
    → Refuses {T = T} (absence fields name) (Err fault) → Refuses {T = U} (key_absence fields names) (Err fault)
keys_refused T U fields names i name fault within read before refused =
    subst (λ (d : Option Fault). Refuses {T = U} d (Err fault)) (sym (before ∙ keys_next fields names i name within read)) (refuses_first T U (absence fields name) (key_absence fields (drop (i + 1) names)) fault refused)

-- the columns of a group-by whose names differ have none twice
pub group_repeats : (fields : List Field) (asked : GroupAsked) (made : List Field) → made ≡ group_fields fields asked → key_absence fields asked.keys ≡ None → first_repeated (output_names asked) ≡ None → repeat_fault made ≡ None
group_repeats fields asked made is found once = ap repeat_fault is ∙ ap (λ ns. fault_of_repeat (first_repeated ns)) (group_names fields asked found) ∙ ap fault_of_repeat once

none_some : {due : Option Fault} {fault : Fault} → due ≡ None → due ≡ Some fault → ⊥
none_some none some = cc

-- where no fault is due, memory alone may be short
pub only_memory : (T : Type 0) (due : Option Fault) (r : Result T Fault) → Refuses {T = T} due r → due ≡ None → IsOkUnless r faults.OutOfMemory
only_memory T due (Ok x) refused none = tt
only_memory T due (Err faults.OutOfMemory) refused none = refl
only_memory T due (Err (faults.ReadFault file)) refused none = absurd (none_some none refused)
only_memory T due (Err faults.WriteFault) refused none = absurd (none_some none refused)
only_memory T due (Err (faults.InvalidQuery why)) refused none = absurd (none_some none refused)
only_memory T due (Err (faults.Malformed file at)) refused none = absurd (none_some none refused)
only_memory T due (Err (faults.Unsupported file code)) refused none = absurd (none_some none refused)
only_memory T due (Err (faults.ColumnNotFound name)) refused none = absurd (none_some none refused)
only_memory T due (Err (faults.SchemaMismatch name)) refused none = absurd (none_some none refused)
only_memory T due (Err (faults.Duplicate name)) refused none = absurd (none_some none refused)
only_memory T due (Err (faults.ComputeError kind file at)) refused none = absurd (none_some none refused)
only_memory T due (Err faults.QueryText) refused none = absurd (none_some none refused)
only_memory T due (Err faults.Usage) refused none = absurd (none_some none refused)

-- the type of the column at a place, by the types of all
pub kind_of_kinds : (fields : List Field) (at : ℕ) (kind : ColType) → slice_get (kinds_of fields) at ≡ Some kind → kind_of_fields (drop at fields) ≡ kind
kind_of_kinds [] at kind e = cc
kind_of_kinds (f ∷ fields) zero kind e = some_same e
  where
    some_same : Some f.kind ≡ Some kind → f.kind ≡ kind
    some_same e = cc
kind_of_kinds (f ∷ fields) (suc at) kind e = kind_of_kinds fields at kind e
