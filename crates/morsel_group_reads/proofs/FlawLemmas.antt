-- A group-by meets the columns that it reads as it meets all, and its rows have the same columns.
use Rattle.std.proofs.Common.{◌≡◌, ◌++◌, [], ◌∷◌, List, ℕ, drop, take, slice_get, map, None, Some, refl, ap, ◌∙◌, sym, subst, Bool, true, false, ◌||◌, if◌then◌else◌, is_some}
use Rattle.std.specs.Prelude.{Option, option_map, option_and_then}
use Rattle.std.specs.List.{list_any}
use Rattle.std.specs.Str.{bytes_eq}
use Rattle.std.proofs.lemmas.Slice.Eq.{bytes_eq-Decides}
use Rattle.morsel_meaning.specs.declared.fault.Fault.{Fault}
use Rattle.morsel_meaning.specs.declared.fault.Fault.TheVariants as faults
use Rattle.morsel_meaning.specs.declared.value.ColType.{ColType}
use Rattle.morsel_meaning.specs.declared.value.ColType.TheVariants as types
use Rattle.morsel_meaning.specs.declared.value.Field.{Field}
use Rattle.morsel_meaning.specs.Values.{kinds_of}
use Rattle.morsel_frame.specs.Names.{stands_in}
use Rattle.morsel_frame.specs.Refusals.{first_fault, fault_of_repeat}
use Rattle.morsel_frame.specs.Names.{first_repeated}
use Rattle.morsel_frame.specs.Tables.{fields_at}
use Rattle.morsel_expr.specs.Flaws.{absence, kinds_fit, kind_under, misfit}
use Rattle.morsel_expr.specs.Predicates.{place_of}
use Rattle.morsel_keys.specs.declared.reduction.Reduction.{Reduction}
use Rattle.morsel_keys.specs.declared.reduction.Reduction.TheVariants as ops
use Rattle.morsel_keys.specs.Reductions.{reduced_kind}
use Rattle.morsel_group.specs.declared.spec.Agg.{Agg}
use Rattle.morsel_group.specs.Asked.{GroupAsked, output_names, column_place, place_or_first, kind_of_fields, kind_in, agg_field, group_fields}
use Rattle.morsel_group.specs.GroupFlaws.{key_absence, absence_of_agg, agg_absence, misfit_of_agg, agg_misfit, group_flaw}
use Rattle.morsel_group_reads.specs.Reads.{is_read, kept_by, reads_column}
use Rattle.morsel_group_reads.proofs.LookupLemmas.{fields_kept, Found, found}

-- neither of two faults is due
pub first_none : (a b : Option Fault) → first_fault a b ≡ None → (a ≡ None) × (b ≡ None)
first_none None b e = (refl, e)
first_none (Some f) b e = cc

or_first : (a b : Bool) → a ≡ true → (a || b) ≡ true
or_first true b e = refl
or_first false b e = cc

or_second : (a b : Bool) → b ≡ true → (a || b) ≡ true
or_second true b e = refl
or_second false b e = e

-- these names are read
abbrev pub AreRead : GroupAsked → List (List ℕ) → Type 0
AreRead asked names = (name : List ℕ) → stands_in name names ≡ true → is_read asked name ≡ true

-- what these reductions read is read
abbrev pub ReadAll : GroupAsked → List Agg → Type 0
ReadAll asked aggs = (name : List ℕ) → list_any (λ (agg : Agg). reads_column name agg.column) aggs ≡ true → is_read asked name ≡ true

pub keys_read : (asked : GroupAsked) → AreRead asked asked.keys
keys_read asked name is = or_first (stands_in name asked.keys) (list_any (λ (agg : Agg). reads_column name agg.column) asked.aggs) is

pub aggs_read : (asked : GroupAsked) → ReadAll asked asked.aggs
aggs_read asked name is = or_second (stands_in name asked.keys) (list_any (λ (agg : Agg). reads_column name agg.column) asked.aggs) is

same_name : (name : List ℕ) → bytes_eq name name ≡ true
same_name name = (bytes_eq-Decides name name).1 refl

pub first_read : (asked : GroupAsked) (name : List ℕ) (names : List (List ℕ)) → AreRead asked (name ∷ names) → is_read asked name ≡ true
first_read asked name names are = are name (or_first (bytes_eq name name) (stands_in name names) (same_name name))

pub later_read : (asked : GroupAsked) (name : List ℕ) (names : List (List ℕ)) → AreRead asked (name ∷ names) → AreRead asked names
later_read asked name names are other is = are other (or_second (bytes_eq name other) (stands_in other names) is)

pub agg_read : (asked : GroupAsked) (agg : Agg) (aggs : List Agg) (name : List ℕ) → ReadAll asked (agg ∷ aggs) → agg.column ≡ Some name → is_read asked name ≡ true
agg_read asked agg aggs name read column =
    read name (or_first (reads_column name agg.column) (list_any (λ (a : Agg). reads_column name a.column) aggs) (ap (reads_column name) column ∙ same_name name))

pub later_aggs_read : (asked : GroupAsked) (agg : Agg) (aggs : List Agg) → ReadAll asked (agg ∷ aggs) → ReadAll asked aggs
later_aggs_read asked agg aggs read name is = read name (or_second (reads_column name agg.column) (list_any (λ (a : Agg). reads_column name a.column) aggs) is)

-- a name whose column is not absent has one
pub is_there : (fields : List Field) (name : List ℕ) → absence fields name ≡ None → is_some (place_of fields name) ≡ true
is_there fields name none = by (is_some (place_of fields name)) none
  where
    by : (t : Bool) → (if t then None else Some (faults.ColumnNotFound name)) ≡ None → t ≡ true
    by true e = refl
    by false e = cc

-- the column of a name that is read
pub found_of : (asked : GroupAsked) (name : List ℕ) (fields : List Field) → is_read asked name ≡ true → absence fields name ≡ None → Found asked name fields
found_of asked name fields read none = found asked name fields read (is_there fields name none)

pub place_in : (fields : List Field) (name : List ℕ) (at : ℕ) → place_of fields name ≡ Some at → column_place fields name ≡ at
place_in fields name at is = ap place_or_first is

absent_not : (fields : List Field) (name : List ℕ) (at : ℕ) → place_of fields name ≡ Some at → absence fields name ≡ None
absent_not fields name at is = ap (λ (p : Option ℕ). if is_some p then None else Some (faults.ColumnNotFound name)) is

-- no key is absent
keys_there : (asked : GroupAsked) (fields : List Field) (names : List (List ℕ)) → AreRead asked names → key_absence fields names ≡ None → key_absence (fields_kept asked fields) names ≡ None
keys_there asked fields [] read none = refl
keys_there asked fields (name ∷ names) read none =
    let both = first_none (absence fields name) (key_absence fields names) none in
    let f = found_of asked name fields (first_read asked name names read) both.0 in
    ap (λ (fault : Option Fault). first_fault fault (key_absence (fields_kept asked fields) names)) (absent_not (fields_kept asked fields) name f.read f.in_read)
    ∙ keys_there asked fields names (later_read asked name names read) both.1

-- nor is what is reduced
aggs_there : (asked : GroupAsked) (fields : List Field) (aggs : List Agg) → ReadAll asked aggs → agg_absence fields aggs ≡ None → agg_absence (fields_kept asked fields) aggs ≡ None
aggs_there asked fields [] read none = refl
aggs_there asked fields (agg ∷ aggs) read none =
    let both = first_none (absence_of_agg fields agg.column) (agg_absence fields aggs) none in
    ap (λ (fault : Option Fault). first_fault fault (agg_absence (fields_kept asked fields) aggs)) (by agg.column refl both.0)
    ∙ aggs_there asked fields aggs (later_aggs_read asked agg aggs read) both.1
  where
    by : (column : Option (List ℕ)) → agg.column ≡ column → absence_of_agg fields column ≡ None → absence_of_agg (fields_kept asked fields) column ≡ None
    by None is there = refl
    by (Some name) is there = let f = found_of asked name fields (agg_read asked agg aggs name read is) there in absent_not (fields_kept asked fields) name f.read f.in_read

-- a column that is read has its type
kind_same : (asked : GroupAsked) (name : List ℕ) (fields : List Field) (f : Found asked name fields) → kind_under (fields_kept asked fields) name ≡ kind_under fields name
kind_same asked name fields f =
    ap (option_and_then (slice_get (kinds_of (fields_kept asked fields)))) f.in_read ∙ f.kind ∙ sym (ap (option_and_then (slice_get (kinds_of fields))) f.in_whole)

-- each sum is of numbers
sums_fit : (asked : GroupAsked) (fields : List Field) (aggs : List Agg) → ReadAll asked aggs → agg_absence fields aggs ≡ None → agg_misfit fields aggs ≡ None → agg_misfit (fields_kept asked fields) aggs ≡ None
sums_fit asked fields [] read there none = refl
sums_fit asked fields (agg ∷ aggs) read there none =
    let found_all = first_none (absence_of_agg fields agg.column) (agg_absence fields aggs) there in
    let both = first_none (misfit_of_agg fields agg.op agg.column) (agg_misfit fields aggs) none in
    ap (λ (fault : Option Fault). first_fault fault (agg_misfit (fields_kept asked fields) aggs)) (by agg.op agg.column refl found_all.0 ∙ both.0)
    ∙ sums_fit asked fields aggs (later_aggs_read asked agg aggs read) found_all.1 both.1
  where
    by : (op : Reduction) (column : Option (List ℕ)) → agg.column ≡ column → absence_of_agg fields column ≡ None → misfit_of_agg (fields_kept asked fields) op column ≡ misfit_of_agg fields op column
    by ops.Sum None is there = refl
    by ops.Sum (Some name) is there =
        ap (λ (kind : Option ColType). if kinds_fit kind (Some types.Int) then None else Some (faults.SchemaMismatch name)) (kind_same asked name fields (found_of asked name fields (agg_read asked agg aggs name read is) there))
    by ops.Len column is there = refl
    by ops.Min column is there = refl
    by ops.Max column is there = refl
    by ops.First column is there = refl
    by ops.Last column is there = refl

-- the parts of a group-by that meets its columns
pub record Meets (fields : List Field) (asked : GroupAsked) : Type 0 where
  pub names : fault_of_repeat (first_repeated (output_names asked)) ≡ None
  pub keys : key_absence fields asked.keys ≡ None
  pub aggs : agg_absence fields asked.aggs ≡ None
  pub sums : agg_misfit fields asked.aggs ≡ None

pub meets : (fields : List Field) (asked : GroupAsked) → group_flaw fields asked ≡ None → Meets fields asked
meets fields asked none =
    let one = first_none (fault_of_repeat (first_repeated (output_names asked))) (first_fault (key_absence fields asked.keys) (first_fault (agg_absence fields asked.aggs) (agg_misfit fields asked.aggs))) none in
    let two = first_none (key_absence fields asked.keys) (first_fault (agg_absence fields asked.aggs) (agg_misfit fields asked.aggs)) one.1 in
    let three = first_none (agg_absence fields asked.aggs) (agg_misfit fields asked.aggs) two.1 in
    record { names = one.0; keys = two.0; aggs = three.0; sums = three.1 }

-- a group-by that meets all columns meets those that it reads
pub flaw_read : (asked : GroupAsked) (fields : List Field) → group_flaw fields asked ≡ None → group_flaw (fields_kept asked fields) asked ≡ None
flaw_read asked fields none =
    let m = meets fields asked none in
    rw (m.names, keys_there asked fields asked.keys (keys_read asked) m.keys, aggs_there asked fields asked.aggs (aggs_read asked) m.aggs) (sums_fit asked fields asked.aggs (aggs_read asked) m.aggs m.sums)

-- the columns of the keys
key_fields : (asked : GroupAsked) (fields : List Field) (names : List (List ℕ)) → AreRead asked names → key_absence fields names ≡ None
    → fields_at (fields_kept asked fields) (map (column_place (fields_kept asked fields)) names) ≡ fields_at fields (map (column_place fields) names)
key_fields asked fields [] read none = refl
key_fields asked fields (name ∷ names) read none =
    let both = first_none (absence fields name) (key_absence fields names) none in
    let f = found_of asked name fields (first_read asked name names read) both.0 in
    ap (λ (at : ℕ). take 1 (drop at (fields_kept asked fields)) ++ fields_at (fields_kept asked fields) (map (column_place (fields_kept asked fields)) names)) (place_in (fields_kept asked fields) name f.read f.in_read)
    ∙ ap (λ (one : List Field). one ++ fields_at (fields_kept asked fields) (map (column_place (fields_kept asked fields)) names)) f.field
    ∙ ap (λ (at : ℕ). take 1 (drop at fields) ++ fields_at (fields_kept asked fields) (map (column_place (fields_kept asked fields)) names)) (sym (place_in fields name f.whole f.in_whole))
    ∙ ap (λ (more : List Field). take 1 (drop (column_place fields name) fields) ++ more) (key_fields asked fields names (later_read asked name names read) both.1)

first_kind : (fields : List Field) → kind_of_fields (take 1 fields) ≡ kind_of_fields fields
first_kind [] = refl
first_kind (field ∷ fields) = refl

-- the columns of the reductions
agg_fields : (asked : GroupAsked) (fields : List Field) (aggs : List Agg) → ReadAll asked aggs → agg_absence fields aggs ≡ None → map (agg_field (fields_kept asked fields)) aggs ≡ map (agg_field fields) aggs
agg_fields asked fields [] read none = refl
agg_fields asked fields (agg ∷ aggs) read none =
    let both = first_none (absence_of_agg fields agg.column) (agg_absence fields aggs) none in
    ap (λ (kind : ColType). record { name = agg.output; kind = reduced_kind agg.op kind } ∷ map (agg_field (fields_kept asked fields)) aggs) (by agg.column refl both.0)
    ∙ ap (λ (more : List Field). agg_field fields agg ∷ more) (agg_fields asked fields aggs (later_aggs_read asked agg aggs read) both.1)
  where
    by : (column : Option (List ℕ)) → agg.column ≡ column → absence_of_agg fields column ≡ None
        → kind_in (fields_kept asked fields) (option_map (column_place (fields_kept asked fields)) column) ≡ kind_in fields (option_map (column_place fields) column)
    by None is there = refl
    by (Some name) is there =
        let f = found_of asked name fields (agg_read asked agg aggs name read is) there in
        ap (λ (at : ℕ). kind_of_fields (drop at (fields_kept asked fields))) (place_in (fields_kept asked fields) name f.read f.in_read)
        ∙ sym (first_kind (drop f.read (fields_kept asked fields))) ∙ ap kind_of_fields f.field ∙ first_kind (drop f.whole fields)
        ∙ ap (λ (at : ℕ). kind_of_fields (drop at fields)) (sym (place_in fields name f.whole f.in_whole))

-- the rows of the group-by have the same columns
pub fields_read : (asked : GroupAsked) (fields : List Field) → group_flaw fields asked ≡ None → group_fields (fields_kept asked fields) asked ≡ group_fields fields asked
fields_read asked fields none =
    let m = meets fields asked none in
    ap (λ (keys : List Field). keys ++ map (agg_field (fields_kept asked fields)) asked.aggs) (key_fields asked fields asked.keys (keys_read asked) m.keys)
    ∙ ap (λ (aggs : List Field). fields_at fields (map (column_place fields) asked.keys) ++ aggs) (agg_fields asked fields asked.aggs (aggs_read asked) m.aggs)
