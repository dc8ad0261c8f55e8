-- Groups of no rows.
use Rattle.std.proofs.Common.{◌≡◌, ◌<◌, ◌++◌, [], ◌∷◌, List, ℕ, zero, suc, ◌+◌, length, take, drop, slice_get, get_or, map, None, Some, refl, arith, ap, ◌∙◌, sym, subst, if◌then◌else◌}
use Rattle.std.specs.Prelude.{Option, is_some, option_map, option_and_then}
use Rattle.std.specs.List.{All}
use Rattle.std.proofs.lemmas.List.{map-append, map_more, nil_from_length}
use Rattle.morsel_meaning.specs.declared.value.ColType.{ColType}
use Rattle.morsel_meaning.specs.declared.value.ColType.TheVariants as types
use Rattle.morsel_meaning.specs.declared.value.Field.{Field}
use Rattle.morsel_meaning.specs.declared.fault.Fault.TheVariants as faults
use Rattle.morsel_meaning.specs.Values.{Row, Table, kinds_of}
use Rattle.morsel_frame.specs.Names.{first_repeated}
use Rattle.morsel_frame.specs.Refusals.{fault_of_repeat, first_fault}
use Rattle.morsel_frame.specs.Tables.{fields_at, same_kind}
use Rattle.morsel_expr.specs.Flaws.{kinds_fit}
use Rattle.morsel_expr.specs.Predicates.{place_of}
use Rattle.morsel_keys.specs.Keyed.{Keyed}
use Rattle.morsel_keys.specs.declared.reduction.Reduction.{Reduction}
use Rattle.morsel_keys.specs.declared.reduction.Reduction.TheVariants as ops
use Rattle.morsel_keys.specs.Reductions.{reduced_kind}
use Rattle.morsel_states.specs.States.{GroupStates}
use Rattle.morsel_group.specs.declared.part.AggStates.{AggStates}
use Rattle.morsel_group.specs.declared.groups.Groups.{Groups}
use Rattle.morsel_group.specs.declared.spec.Agg.{Agg}
use Rattle.morsel_group.specs.Arrivals.{keyed_in}
use Rattle.morsel_group.specs.Asked.{GroupAsked, GroupShape, HasItsColumn, HaveColumns, Reducer, agg_field, column_place, kind_in, kind_of_fields, output_names, place_or_first, reducer_of}
use Rattle.morsel_group.specs.GroupFlaws.{absence_of_agg, agg_absence, agg_misfit, group_flaw, key_absence, misfit_of_agg}
use Rattle.morsel_group.specs.Kept.{kept_at}
use Rattle.morsel_group.specs.Parts.{IsPart, ReadsColumn}
use Rattle.morsel_group.specs.Locals.{AreGroups, HasGroupedRows, IsGroupBy, KeepsGroupedRows, held_in, len_reducer, reducer_in}
use Rattle.morsel_group.proofs.HeldLemmas.{entries_in}
use Rattle.morsel_group.proofs.PlanLemmas.{first_none, name_within}

kind_fits : (name : List ℕ) (kind : ColType) → (if same_kind kind types.Int then None else Some (faults.SchemaMismatch name)) ≡ None → kind ≡ types.Int
kind_fits name types.Int fits = refl
kind_fits name types.Bool fits = cc
kind_fits name types.Text fits = cc

place_kind : (fields : List Field) (at : ℕ) (name : List ℕ) → at < length fields → (if kinds_fit (slice_get (kinds_of fields) at) (Some types.Int) then None else Some (faults.SchemaMismatch name)) ≡ None → kind_of_fields (drop at fields) ≡ types.Int
place_kind [] at name within fits = absurd (omega (arith, within))
place_kind (field ∷ fields) zero name within fits = kind_fits name field.kind fits
place_kind (field ∷ fields) (suc at) name within fits = place_kind fields at name (omega (arith, within)) fits

numbers_at : (fields : List Field) (name : List ℕ) (at : Option ℕ) → place_of fields name ≡ at → (if is_some at then None else Some (faults.ColumnNotFound name)) ≡ None
    → (if kinds_fit (option_and_then (slice_get (kinds_of fields)) at) (Some types.Int) then None else Some (faults.SchemaMismatch name)) ≡ None → kind_of_fields (drop (place_or_first at) fields) ≡ types.Int
numbers_at fields name None is found fits = cc
numbers_at fields name (Some at) is found fits = place_kind fields at name (name_within fields name (Some at) is found) fits

sum_numbers : (fields : List Field) (name : Option (List ℕ)) → HasItsColumn ops.Sum name → absence_of_agg fields name ≡ None → misfit_of_agg fields ops.Sum name ≡ None → kind_in fields (option_map (column_place fields) name) ≡ types.Int
sum_numbers fields None has found fits = absurd has
sum_numbers fields (Some name) has found fits = numbers_at fields name (place_of fields name) refl found fits

-- a sum is of numbers
pub sums_numbers : (fields : List Field) (op : Reduction) (name : Option (List ℕ)) → HasItsColumn op name → absence_of_agg fields name ≡ None → misfit_of_agg fields op name ≡ None → op ≡ ops.Sum → kind_in fields (option_map (column_place fields) name) ≡ types.Int
sums_numbers fields op name has found fits is =
    sum_numbers fields name (subst (λ (o : Reduction). HasItsColumn o name) is has) found (subst (λ (o : Reduction). misfit_of_agg fields o name ≡ None) is fits)

len_alone : (op : Reduction) → HasItsColumn op None → op ≡ ops.Len
len_alone ops.Len has = refl
len_alone ops.Sum has = absurd has
len_alone ops.Min has = absurd has
len_alone ops.Max has = absurd has
len_alone ops.First has = absurd has
len_alone ops.Last has = absurd has

blank_reads : (fields : List Field) (op : Reduction) (name : Option (List ℕ)) (states : GroupStates) → HasItsColumn op name → absence_of_agg fields name ≡ None → states.op ≡ op → states.kind ≡ kind_in fields (option_map (column_place fields) name)
    → ReadsColumn fields states (option_map (column_place fields) name)
blank_reads fields op None states has found is kind = (is ∙ len_alone op has, kind)
blank_reads fields op (Some name) states has found is kind = (name_within fields name (place_of fields name) refl found, sym kind)

-- what a reduction has of no groups is a part
pub blank_is : (fields : List Field) (op : Reduction) (kind : ColType) (name : Option (List ℕ)) (column : Option ℕ) (part : AggStates) → column ≡ option_map (column_place fields) name → HasItsColumn op name → absence_of_agg fields name ≡ None
    → part.column ≡ column → part.states ≡ record { op = op; kind = kind; entries = [] } → kind ≡ kind_in fields column → part.kind ≡ reduced_kind op kind → IsPart fields 0 part
blank_is fields op kind name column part place has found reads states_are kind_is says = record {
  reads = subst (λ (c : Option ℕ). ReadsColumn fields part.states c) (sym (reads ∙ place))
      (blank_reads fields op name part.states has found (ap (λ (s : GroupStates). s.op) states_are) (ap (λ (s : GroupStates). s.kind) states_are ∙ kind_is ∙ ap (kind_in fields) place));
  kind = says ∙ sym (ap (λ (s : GroupStates). reduced_kind s.op s.kind) states_are);
  groups = ap (λ (s : GroupStates). length s.entries) states_are;
}

pub blank_reducer : (fields : List Field) (op : Reduction) (kind : ColType) (name : Option (List ℕ)) (column : Option ℕ) (part : AggStates) → column ≡ option_map (column_place fields) name → part.column ≡ column
    → part.states ≡ record { op = op; kind = kind; entries = [] } → reducer_in part ≡ record { op = op; column = option_map (column_place fields) name }
blank_reducer fields op kind name column part place reads states_are =
    let made : Reduction → Option ℕ → Reducer = λ o c. record { op = o; column = c } in
    ap (λ (s : GroupStates). made s.op part.column) states_are ∙ ap (λ (c : Option ℕ). made op c) (reads ∙ place)

pub blank_kind : (fields : List Field) (op : Reduction) (kind : ColType) (name : Option (List ℕ)) (column : Option ℕ) (says : ColType) → column ≡ option_map (column_place fields) name → kind ≡ kind_in fields column → says ≡ reduced_kind op kind
    → says ≡ reduced_kind op (kind_in fields (option_map (column_place fields) name))
blank_kind fields op kind name column says place kind_is is = is ∙ ap (reduced_kind op) (kind_is ∙ ap (kind_in fields) place)

-- each reduction has its column, and it is there, and a sum's has numbers
pub has_at : (aggs : List Agg) (i : ℕ) (agg : Agg) → i < length aggs → agg ≡ get_or aggs i agg → HaveColumns aggs → HasItsColumn agg.op agg.column
has_at [] i agg within read have = absurd (omega (arith, within))
has_at (a ∷ aggs) zero agg within read have = subst (λ (x : Agg). HasItsColumn x.op x.column) (sym read) have.0
has_at (a ∷ aggs) (suc i) agg within read have = has_at aggs i agg (omega (arith, within)) read have.1

pub found_at : (fields : List Field) (aggs : List Agg) (i : ℕ) (agg : Agg) → i < length aggs → agg ≡ get_or aggs i agg → agg_absence fields aggs ≡ None → absence_of_agg fields agg.column ≡ None
found_at fields [] i agg within read none = absurd (omega (arith, within))
found_at fields (a ∷ aggs) zero agg within read none = ap (λ (x : Agg). absence_of_agg fields x.column) read ∙ (first_none (absence_of_agg fields a.column) (agg_absence fields aggs) none).0
found_at fields (a ∷ aggs) (suc i) agg within read none = found_at fields aggs i agg (omega (arith, within)) read (first_none (absence_of_agg fields a.column) (agg_absence fields aggs) none).1

pub fits_at : (fields : List Field) (aggs : List Agg) (i : ℕ) (agg : Agg) → i < length aggs → agg ≡ get_or aggs i agg → agg_misfit fields aggs ≡ None → misfit_of_agg fields agg.op agg.column ≡ None
fits_at fields [] i agg within read none = absurd (omega (arith, within))
fits_at fields (a ∷ aggs) zero agg within read none = ap (λ (x : Agg). misfit_of_agg fields x.op x.column) read ∙ (first_none (misfit_of_agg fields a.op a.column) (agg_misfit fields aggs) none).0
fits_at fields (a ∷ aggs) (suc i) agg within read none = fits_at fields aggs i agg (omega (arith, within)) read (first_none (misfit_of_agg fields a.op a.column) (agg_misfit fields aggs) none).1

-- where no fault is due, each column is there, and sums have numbers
pub no_flaw : (fields : List Field) (asked : GroupAsked) → group_flaw fields asked ≡ None → (agg_absence fields asked.aggs ≡ None) × (agg_misfit fields asked.aggs ≡ None)
no_flaw fields asked none =
    let last = first_fault (agg_absence fields asked.aggs) (agg_misfit fields asked.aggs) in
    let apart = first_none (fault_of_repeat (first_repeated (output_names asked))) (first_fault (key_absence fields asked.keys) last) none in
    let keys = first_none (key_absence fields asked.keys) last apart.1 in
    first_none (agg_absence fields asked.aggs) (agg_misfit fields asked.aggs) keys.1

-- one part more
pub reducers_more : (fields : List Field) (aggs : List Agg) (i : ℕ) (agg : Agg) (old new : List AggStates) (part : AggStates) → i < length aggs → agg ≡ get_or aggs i agg → new ≡ old ++ part ∷ [] → reducer_in part ≡ reducer_of fields agg
    → map reducer_in old ≡ map (reducer_of fields) (take i aggs) → map reducer_in new ≡ map (reducer_of fields) (take (i + 1) aggs)
reducers_more fields aggs i agg old new part within read pushed is before =
    ap (map reducer_in) pushed ∙ map-append reducer_in old (part ∷ []) ∙ ap (λ (rs : List Reducer). rs ++ reducer_in part ∷ []) before
    ∙ ap (λ (r : Reducer). map (reducer_of fields) (take i aggs) ++ r ∷ []) (is ∙ ap (reducer_of fields) read)
    ∙ sym (map_more (reducer_of fields) aggs i agg within)

pub kinds_more : (fields : List Field) (aggs : List Agg) (i : ℕ) (agg : Agg) (old new : List AggStates) (part : AggStates) → i < length aggs → agg ≡ get_or aggs i agg → new ≡ old ++ part ∷ [] → part.kind ≡ (agg_field fields agg).kind
    → map (λ (p : AggStates). p.kind) old ≡ kinds_of (map (agg_field fields) (take i aggs)) → map (λ (p : AggStates). p.kind) new ≡ kinds_of (map (agg_field fields) (take (i + 1) aggs))
kinds_more fields aggs i agg old new part within read pushed is before =
    ap (map (λ (p : AggStates). p.kind)) pushed ∙ map-append (λ (p : AggStates). p.kind) old (part ∷ []) ∙ ap (λ (ks : List ColType). ks ++ part.kind ∷ []) before
    ∙ ap (λ (k : ColType). kinds_of (map (agg_field fields) (take i aggs)) ++ k ∷ []) (is ∙ ap (λ (a : Agg). (agg_field fields a).kind) read)
    ∙ sym (ap kinds_of (map_more (agg_field fields) aggs i agg within) ∙ map-append (λ (f : Field). f.kind) (map (agg_field fields) (take i aggs)) (agg_field fields (get_or aggs i agg) ∷ []))

-- groups of no rows fit
pub blank_are : (fields : List Field) (aggs : List Agg) (g : Groups) → g.input ≡ fields → All (λ at. at < length fields) g.keys.items → keyed_in g.table ≡ record { kinds = kinds_of (fields_at fields g.keys.items); keys = [] }
    → g.key_rows ≡ record { schema = fields_at fields g.keys.items; rows = [] } → g.reduced ≡ map (agg_field fields) aggs → All (IsPart fields 0) g.parts.items
    → map (λ (part : AggStates). part.kind) g.parts.items ≡ kinds_of (map (agg_field fields) aggs) → g.counts ≡ record { op = ops.Len; kind = types.Int; entries = [] } → AreGroups g
blank_are fields aggs g input within table rows reduced each says counts =
    let none : (keyed_in g.table).keys ≡ [] = ap (λ (k : Keyed). k.keys) table in
    record {
      within = subst (λ (fs : List Field). All (λ at. at < length fs) g.keys.items) (sym input) within;
      kinds = ap (λ (k : Keyed). k.kinds) table ∙ ap (λ (fs : List Field). kinds_of (fields_at fs g.keys.items)) (sym input);
      key_fields = ap (λ (t : Table). t.schema) rows ∙ ap (λ (fs : List Field). fields_at fs g.keys.items) (sym input);
      key_values = ap (λ (t : Table). t.rows) rows ∙ sym none;
      counts_op = ap (λ (s : GroupStates). s.op) counts;
      counts_kind = ap (λ (s : GroupStates). s.kind) counts;
      counts_len = ap (λ (s : GroupStates). length s.entries) counts ∙ sym (ap length none);
      each_part = subst (λ (n : ℕ). All (IsPart g.input n) g.parts.items) (sym (ap length none)) (subst (λ (fs : List Field). All (IsPart fs 0) g.parts.items) (sym input) each);
      reduced_kinds = ap kinds_of reduced ∙ sym says;
    }

-- they are those of the group-by that was asked for
pub blank_group_by : (fields : List Field) (asked : GroupAsked) (aggs : List Agg) (g : Groups) → aggs ≡ asked.aggs → g.input ≡ fields → g.keys.items ≡ map (column_place fields) asked.keys → g.key_rows ≡ record { schema = fields_at fields g.keys.items; rows = [] }
    → g.reduced ≡ map (agg_field fields) aggs → map reducer_in g.parts.items ≡ map (reducer_of fields) aggs → IsGroupBy fields asked (Some (held_in g))
blank_group_by fields asked aggs g same input keys rows reduced reducers =
    let made : List ℕ → List Reducer → GroupShape = λ ks rs. record { keys = ks; aggs = rs } in (
      input,
      ap (λ (ks : List ℕ). made ks (map reducer_in g.parts.items)) keys ∙ ap (made (map (column_place fields) asked.keys)) (reducers ∙ ap (map (reducer_of fields)) same),
      ap (λ (t : Table). t.schema ++ g.reduced) rows
          ∙ ap (λ (ks : List ℕ). fields_at fields ks ++ g.reduced) keys
          ∙ ap (λ (fs : List Field). fields_at fields (map (column_place fields) asked.keys) ++ fs) (reduced ∙ ap (map (agg_field fields)) same),
    )

kept_blank : (shape : GroupShape) (fields : List Field) (parts : List AggStates) → All (IsPart fields 0) parts → KeepsGroupedRows shape [] [] (map reducer_in parts) (map entries_in parts)
kept_blank shape fields [] each = tt
kept_blank shape fields (part ∷ parts) each = (nil_from_length part.states.entries (each zero part (omega arith)).groups, kept_blank shape fields parts (λ k d within. each (suc k) d (omega (arith, within))))

-- and no rows came to them
pub blank_empty : (fields : List Field) (g : Groups) (kinds : List ColType) → keyed_in g.table ≡ record { kinds = kinds; keys = [] } → All (IsPart fields 0) g.parts.items → g.counts ≡ record { op = ops.Len; kind = types.Int; entries = [] } → g.took ≡ 0
    → HasGroupedRows (held_in g) []
blank_empty fields g kinds table each counts took =
    let shape = (held_in g).shape in
    let none : (keyed_in g.table).keys ≡ [] = ap (λ (k : Keyed). k.keys) table in
    record {
      took = took;
      keys = none;
      counts = ap (λ (s : GroupStates). s.entries) counts ∙ sym (ap (map (kept_at shape [] len_reducer)) none);
      kept = subst (λ (ks : List Row). KeepsGroupedRows shape [] ks (map reducer_in g.parts.items) (map entries_in g.parts.items)) (sym none) (kept_blank shape fields g.parts.items each);
      few = record { keys = omega arith; rows_each = λ key. omega arith };
    }
