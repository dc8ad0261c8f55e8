-- The rows of groups, and the sums that are refused.
use Rattle.std.proofs.Common.{◌≡◌, ◌≤◌, ◌++◌, [], ◌∷◌, List, ℕ, zero, suc, ◌+◌, length, slice_get, get_or, map, replicate, None, Some, refl, arith, ap, ◌∙◌, sym, subst, Bool, true, false, if◌then◌else◌, ◌||◌, inl, inr}
use Rattle.std.specs.Prelude.{Option, ℤ, pos, negsuc, int_lt, ◌⊎◌}
use Rattle.std.specs.List.{All}
use Rattle.std.proofs.lemmas.Bool.{cases_Bool}
use Rattle.std.proofs.lemmas.List.{length-map, length-append, get_or-map}
use Rattle.std.proofs.lemmas.Option.{slice_get_within, get_or_from_slice_get}
use Rattle.morsel_meaning.specs.declared.value.Field.{Field}
use Rattle.morsel_meaning.specs.declared.value.Value.{Value}
use Rattle.morsel_meaning.specs.declared.value.Value.TheVariants as values
use Rattle.morsel_meaning.specs.declared.fault.Fault.{Fault}
use Rattle.morsel_meaning.specs.declared.fault.Fault.TheVariants.{OutOfMemory, ComputeError}
use Rattle.morsel_meaning.specs.declared.fault.ComputeKind.TheVariants.{SumTooLarge}
use Rattle.morsel_meaning.specs.Values.{Row, kinds_of}
use Rattle.morsel_frame.specs.Frames.{Fit, rows_of, with_column}
use Rattle.morsel_frame.specs.Tables.{beside, cells_at}
use Rattle.morsel_keys.specs.declared.reduction.Reduction.{Reduction}
use Rattle.morsel_keys.specs.declared.reduction.Reduction.TheVariants as ops
use Rattle.morsel_keys.specs.Reductions.{Entry, finished, reduction_of, sum_fault, total_fault, total_of}
use Rattle.morsel_group.specs.declared.part.AggStates.{AggStates}
use Rattle.morsel_group.specs.declared.groups.Groups.{Groups}
use Rattle.morsel_group.specs.Arrivals.{keyed_in}
use Rattle.morsel_group.specs.Asked.{Reducer, GroupShape}
use Rattle.morsel_group.specs.Grouping.{RowAt, Grouped, arrived, distinct_keys, in_order, is_among, rows_of_key, value_in}
use Rattle.morsel_group.specs.Kept.{kept_at, kept_row}
use Rattle.morsel_group.specs.Parts.{RefusesNone, RefusesSome, finished_values}
use Rattle.morsel_group.specs.Locals.{AreGroups, HasGroupedRows, HasSums, IsSumFault, KeepsGroupedRows, held_in, reducer_in}
use Rattle.morsel_group.proofs.GroupingLemmas.{keeps_grouped, keeps_nothing, said}
use Rattle.morsel_group.proofs.HeldLemmas.{entries_in}
use Rattle.morsel_group.proofs.KeyLemmas.{among_at, new_of_not_among}

-- the columns of what is said of groups fit the fields of these types
pub fit_finished : (fields : List Field) (count : ℕ) (parts : List AggStates) → kinds_of fields ≡ map (λ (part : AggStates). part.kind) parts → All (λ part. length part.states.entries ≡ count) parts → Fit fields count (map finished_values parts)
fit_finished [] count [] kinds lens = tt
fit_finished [] count (part ∷ parts) kinds lens = cc
fit_finished (field ∷ fields) count [] kinds lens = cc
fit_finished (field ∷ fields) count (part ∷ parts) kinds lens =
    let here : field.kind ≡ part.kind = cc in
    let later : kinds_of fields ≡ map (λ (p : AggStates). p.kind) parts = cc in
    (sym here, length-map part.states.entries (finished part.states.op) ∙ lens zero part (omega arith), fit_finished fields count parts later (λ k d within. lens (suc k) d (omega (arith, within))))

-- what reductions say of the rows of a key
abbrev pub says : GroupShape → List RowAt → List Reducer → Row → Row
says shape rows aggs key = map (λ agg. finished agg.op (kept_at shape rows agg key)) aggs

with_said : (keys : List Row) (value : Option Entry → Value) (entry : Row → Option Entry) (others : Row → Row) → with_column (map value (map entry keys)) (map others keys) ≡ map (λ key. value (entry key) ∷ others key) keys
with_said [] value entry others = refl
with_said (key ∷ keys) value entry others = ap (λ (rs : List Row). (value (entry key) ∷ others key) ∷ rs) (with_said keys value entry others)

columns_say : (shape : GroupShape) (rows : List RowAt) (keys : List Row) (parts : List AggStates) → KeepsGroupedRows shape rows keys (map reducer_in parts) (map entries_in parts)
    → rows_of (length keys) (map finished_values parts) ≡ map (says shape rows (map reducer_in parts)) keys
columns_say shape rows keys [] kept = none keys
  where
    none : (keys : List Row) → replicate (length keys) [] ≡ map (says shape rows []) keys
    none [] = refl
    none (key ∷ keys) = ap (λ (rs : List Row). [] ∷ rs) (none keys)
columns_say shape rows keys (part ∷ parts) (here, later) =
    ap (λ (es : List (Option Entry)). with_column (map (finished part.states.op) es) (rows_of (length keys) (map finished_values parts))) here
    ∙ ap (with_column (map (finished part.states.op) (map (kept_at shape rows (reducer_in part)) keys))) (columns_say shape rows keys parts later)
    ∙ with_said keys (finished part.states.op) (kept_at shape rows (reducer_in part)) (says shape rows (map reducer_in parts))

beside_said : (keys : List Row) (others : Row → Row) → beside keys (map others keys) ≡ map (λ key. key ++ others key) keys
beside_said [] others = refl
beside_said (key ∷ keys) others = ap (λ (rs : List Row). (key ++ others key) ∷ rs) (beside_said keys others)

-- the keys, and what is said of them, are the rows of what is kept
rows_said : (shape : GroupShape) (rows : List RowAt) (keys : List Row) (parts : List AggStates) → KeepsGroupedRows shape rows keys (map reducer_in parts) (map entries_in parts) → shape.aggs ≡ map reducer_in parts
    → beside keys (rows_of (length keys) (map finished_values parts)) ≡ map (kept_row shape rows) keys
rows_said shape rows keys parts kept aggs =
    ap (beside keys) (columns_say shape rows keys parts kept)
    ∙ beside_said keys (says shape rows (map reducer_in parts))
    ∙ ap (λ (rs : List Reducer). map (λ key. key ++ says shape rows rs key) keys) (sym aggs)

-- the rows of groups
rows_kept : (g : Groups) (rows : List RowAt) (count : ℕ) (list : List Row) → AreGroups g → HasGroupedRows (held_in g) rows → count ≡ length (keyed_in g.table).keys → list ≡ beside g.key_rows.rows (rows_of count (map finished_values g.parts.items))
    → list ≡ map (kept_row (held_in g).shape rows) (distinct_keys (held_in g).shape rows)
rows_kept g rows count list are has len made =
    made
    ∙ ap (λ (ks : List Row). beside ks (rows_of count (map finished_values g.parts.items))) are.key_values
    ∙ ap (λ n. beside (keyed_in g.table).keys (rows_of n (map finished_values g.parts.items))) len
    ∙ rows_said (held_in g).shape rows (keyed_in g.table).keys g.parts.items has.kept refl
    ∙ ap (map (kept_row (held_in g).shape rows)) has.keys

-- they are the group-by of all rows that came
pub finished_grouped : (g : Groups) (rows : List RowAt) (count : ℕ) (list : List Row) → AreGroups g → HasGroupedRows (held_in g) rows → count ≡ length (keyed_in g.table).keys → list ≡ beside g.key_rows.rows (rows_of count (map finished_values g.parts.items))
    → Grouped (held_in g).shape (in_order rows) list
finished_grouped g rows count list are has len made = subst (λ (rs : List Row). Grouped (held_in g).shape (in_order rows) rs) (sym (rows_kept g rows count list are has len made)) (keeps_grouped (held_in g).shape rows)

arrived_few : (known keys : List Row) → length (arrived known keys) ≤ length known + length keys
arrived_few known [] = omega arith
arrived_few known (key ∷ keys) = by (is_among key known) (arrived_few known keys) (arrived_few (known ++ key ∷ []) keys)
  where
    by : (t : Bool) → length (arrived known keys) ≤ length known + length keys → length (arrived (known ++ key ∷ []) keys) ≤ length (known ++ key ∷ []) + length keys
        → length (arrived (if t then known else known ++ key ∷ []) keys) ≤ length known + length (key ∷ keys)
    by true held new = omega (arith, held)
    by false held new = let n = length-append known (key ∷ []) in omega (arith, new, n)

-- there are no more of them than rows
pub finished_few : (g : Groups) (rows : List RowAt) (count : ℕ) (list : List Row) → AreGroups g → HasGroupedRows (held_in g) rows → count ≡ length (keyed_in g.table).keys → list ≡ beside g.key_rows.rows (rows_of count (map finished_values g.parts.items))
    → length list ≤ length rows
finished_few g rows count list are has len made =
    let shape = (held_in g).shape in
    let n = ap length (rows_kept g rows count list are has len made) ∙ length-map (distinct_keys shape rows) (kept_row shape rows) in
    let few = arrived_few [] (map (λ (r : RowAt). cells_at shape.keys r.row) rows) in
    let all = length-map rows (λ (r : RowAt). cells_at shape.keys r.row) in
    omega (arith, n, few, all)

sum_fault-only : (n : ℤ) (fault : Fault) → sum_fault n ≡ Some fault → fault ≡ ComputeError SumTooLarge 4294967295 0
sum_fault-only n fault e = by (int_lt n (negsuc 9223372036854775807) || int_lt (pos 9223372036854775807) n) e
  where
    by : (t : Bool) → (if t then Some (ComputeError SumTooLarge 4294967295 0) else None) ≡ Some fault → fault ≡ ComputeError SumTooLarge 4294967295 0
    by true e = cc
    by false e = cc

same_int : (m n : ℤ) → values.Int m ≡ values.Int n → m ≡ n
same_int m n e = cc

-- a total that is refused is a sum's, and is too large
refused_total : (op : Reduction) (entry : Option Entry) (vs : List Value) (fault : Fault) → finished op entry ≡ reduction_of op vs → total_fault op entry ≡ Some fault
    → (op ≡ ops.Sum) × (fault ≡ ComputeError SumTooLarge 4294967295 0) × (sum_fault (total_of vs) ≡ Some (ComputeError SumTooLarge 4294967295 0))
refused_total op None vs fault is due = cc
refused_total ops.Len (Some entry) vs fault is due = cc
refused_total ops.Sum (Some entry) vs fault is due =
    let large = ap sum_fault (sym (same_int entry.total (total_of vs) is)) ∙ due in
    let which = sum_fault-only (total_of vs) fault large in
    (refl, which, large ∙ ap Some which)
refused_total ops.Min (Some entry) vs fault is due = cc
refused_total ops.Max (Some entry) vs fault is due = cc
refused_total ops.First (Some entry) vs fault is due = cc
refused_total ops.Last (Some entry) vs fault is due = cc

-- and one that is not refused is not
sum_fits : (entry : Option Entry) (vs : List Value) → finished ops.Sum entry ≡ reduction_of ops.Sum vs → total_fault ops.Sum entry ≡ None → sum_fault (total_of vs) ≡ None
sum_fits None vs is none = ap sum_fault (sym (same_int (pos 0) (total_of vs) is))
sum_fits (Some entry) vs is none = ap sum_fault (sym (same_int entry.total (total_of vs) is)) ∙ none

mapped_at : {X Y : Type 0} (f : X → Y) (xs : List X) (i : ℕ) (x : X) → slice_get xs i ≡ Some x → slice_get (map f xs) i ≡ Some (f x)
mapped_at f [] i x e = cc
mapped_at f (y ∷ xs) zero x e = ap (λ z. Some (f z)) (same e)
  where
    same : Some y ≡ Some x → y ≡ x
    same e = cc
mapped_at f (y ∷ xs) (suc i) x e = mapped_at f xs i x e

from_mapped : {X Y : Type 0} (f : X → Y) (xs : List X) (i : ℕ) (y : Y) → slice_get (map f xs) i ≡ Some y → (x : X) × (slice_get xs i ≡ Some x) × (f x ≡ y)
from_mapped f [] i y e = cc
from_mapped f (x ∷ xs) zero y e = let same : f x ≡ y = cc in (x, refl, same)
from_mapped f (x ∷ xs) (suc i) y e = from_mapped f xs i y e

-- what the part at a place has
kept_place : (shape : GroupShape) (rows : List RowAt) (keys : List Row) (parts : List AggStates) (place : ℕ) (part : AggStates) → KeepsGroupedRows shape rows keys (map reducer_in parts) (map entries_in parts) → slice_get parts place ≡ Some part
    → part.states.entries ≡ map (kept_at shape rows (reducer_in part)) keys
kept_place shape rows keys [] place part kept e = cc
kept_place shape rows keys (p ∷ parts) zero part (here, later) e =
    let same : p ≡ part = cc in
    subst (λ (q : AggStates). q.states.entries ≡ map (kept_at shape rows (reducer_in q)) keys) same here
kept_place shape rows keys (p ∷ parts) (suc place) part (here, later) e = kept_place shape rows keys parts place part later e

none_refused : (shape : GroupShape) (rows : List RowAt) (keys : List Row) (parts : List AggStates) (place : ℕ) (part : AggStates) (key : Row) → KeepsGroupedRows shape rows keys (map reducer_in parts) (map entries_in parts) → slice_get parts place ≡ Some part
    → All RefusesNone parts → keys ≡ distinct_keys shape rows → total_fault part.states.op (kept_at shape rows (reducer_in part) key) ≡ None
none_refused shape rows keys parts place part key kept there none are = elim (cases_Bool (is_among key keys)) as (λ _. total_fault part.states.op (kept_at shape rows (reducer_in part) key) ≡ None) [
  | inl t ↦
      let at = among_at keys key t in
      let within = slice_get_within keys at.0 key at.1 in
      let entries = kept_place shape rows keys parts place part kept there in
      let len = ap length entries ∙ length-map keys (kept_at shape rows (reducer_in part)) in
      let here : get_or part.states.entries at.0 None ≡ kept_at shape rows (reducer_in part) key =
      ap (λ (es : List (Option Entry)). get_or es at.0 None) entries ∙ get_or-map (kept_at shape rows (reducer_in part)) keys at.0 [] None within ∙ ap (kept_at shape rows (reducer_in part)) (get_or_from_slice_get keys at.0 key [] at.1) in
      let own : RefusesNone part = subst RefusesNone (get_or_from_slice_get parts place part part there) (none place part (slice_get_within parts place part there)) in
      sym (ap (total_fault part.states.op) here) ∙ own at.0 (omega (arith, len, within))
  | inr f ↦ ap (total_fault part.states.op) (keeps_nothing shape rows (reducer_in part) key (λ at e. new_of_not_among keys key f at (ap (λ (ks : List Row). slice_get ks at) are ∙ e)))
]

none_some : {X : Type 0} {x : X} {o : Option X} → o ≡ None → o ≡ Some x → ⊥
none_some none some = cc

-- where no total is refused, no sum is too large
pub finished_sums : (g : Groups) (rows : List RowAt) → HasGroupedRows (held_in g) rows → All RefusesNone g.parts.items → HasSums (held_in g).shape rows
finished_sums g rows has none large =
    let shape = (held_in g).shape in
    let found = from_mapped reducer_in g.parts.items large.place large.agg large.asked in
    let part = found.0 in
    let asked : slice_get g.parts.items large.place ≡ Some part = found.1 in
    let is : reducer_in part ≡ large.agg = found.2 in
    let sum : part.states.op ≡ ops.Sum = ap (λ (r : Reducer). r.op) is ∙ large.is_sum in
    let entry = kept_at shape rows (reducer_in part) large.key in
    let vs = map (value_in part.column) (rows_of_key shape large.key (in_order rows)) in
    let says_it : finished ops.Sum entry ≡ reduction_of ops.Sum vs = subst (λ (o : Reduction). finished o entry ≡ reduction_of o vs) sum (said shape rows large.key (reducer_in part)) in
    let free : total_fault ops.Sum entry ≡ None = subst (λ (o : Reduction). total_fault o entry ≡ None) sum (none_refused shape rows (keyed_in g.table).keys g.parts.items large.place part large.key has.kept asked none has.keys) in
    let whole : sum_fault (total_of vs) ≡ Some (ComputeError SumTooLarge 4294967295 0) = ap (λ (r : Reducer). sum_fault (total_of (map (value_in r.column) (rows_of_key shape large.key (in_order rows))))) is ∙ large.large in
    none_some (sum_fits entry vs says_it free) whole

-- a total that is refused is too large a sum
pub finished_refused : (g : Groups) (rows : List RowAt) (fault : Fault) → HasGroupedRows (held_in g) rows → (fault ≡ OutOfMemory) ⊎ RefusesSome g.parts.items fault → IsSumFault (held_in g).shape rows fault
finished_refused g rows fault has (inl memory) = inl memory
finished_refused g rows fault has (inr (place, part, there, (group, within, due))) =
    let shape = (held_in g).shape in
    let keys = (keyed_in g.table).keys in
    let key = get_or keys group [] in
    let agg = reducer_in part in
    let entries = kept_place shape rows keys g.parts.items place part has.kept there in
    let len = ap length entries ∙ length-map keys (kept_at shape rows agg) in
    let here : get_or part.states.entries group None ≡ kept_at shape rows agg key = ap (λ (es : List (Option Entry)). get_or es group None) entries ∙ get_or-map (kept_at shape rows agg) keys group [] None (omega (arith, len, within)) in
    let large = refused_total part.states.op (kept_at shape rows agg key) (map (value_in part.column) (rows_of_key shape key (in_order rows))) fault (said shape rows key agg) (ap (total_fault part.states.op) (sym here) ∙ due) in
    inr (large.1, record { place = place; agg = agg; asked = mapped_at reducer_in g.parts.items place part there; is_sum = large.0; key = key; large = large.2 })
