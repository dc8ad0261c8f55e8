-- Groups to which those of others came.
use Rattle.std.proofs.Common.{◌≡◌, ◌<◌, ◌≤◌, ◌++◌, [], ◌∷◌, List, ℕ, zero, suc, ◌+◌, length, take, drop, get_or, map, None, Some, refl, arith, ap, ◌∙◌, sym, subst, Bool, true, false, if◌then◌else◌, append_assoc}
use Rattle.std.specs.Prelude.{Option}
use Rattle.std.specs.List.{All, range_with_len}
use Rattle.std.proofs.lemmas.List.{length-append, length-map, drop_at, get_or_at}
use Rattle.std.proofs.lemmas.List.Elements.{All-cons, All-weaker}
use Rattle.std.proofs.lemmas.List.FromFn.{length-range_with_len, get_or-range_with_len}
use Rattle.morsel_meaning.specs.declared.value.ColType.TheVariants as types
use Rattle.morsel_meaning.specs.declared.value.Value.TheVariants as values
use Rattle.morsel_meaning.specs.declared.value.Value.{Value}
use Rattle.morsel_meaning.specs.declared.value.Field.{Field}
use Rattle.morsel_meaning.specs.declared.fault.Fault.{Fault}
use Rattle.morsel_meaning.specs.Values.{Row, kinds_of}
use Rattle.morsel_frame.specs.Tables.{cell_at, cells_at, fields_at}
use Rattle.morsel_frame.proofs.SelectLemmas.{field-at}
use Rattle.morsel_keys.specs.declared.reduction.Reduction.TheVariants as ops
use Rattle.morsel_keys.specs.Slots.{NumbersAll, no_number}
use Rattle.morsel_keys.specs.Reductions.{Entry}
use Rattle.morsel_states.specs.GroupParts.{AreWithinLimit, with_group_parts}
use Rattle.morsel_states.specs.States.{GroupStates, with_groups}
use Rattle.morsel_states.proofs.PartLemmas.{length-with_group_parts}
use Rattle.morsel_group.specs.declared.part.AggStates.{AggStates}
use Rattle.morsel_group.specs.declared.groups.Groups.{Groups}
use Rattle.morsel_group.specs.Arrivals.{keyed_in, RefusesKeys, RefusesLens}
use Rattle.morsel_group.specs.Asked.{Reducer, GroupShape}
use Rattle.morsel_group.specs.Grouping.{RowAt, arrived, is_among, distinct_keys}
use Rattle.morsel_group.specs.Kept.{kept_at}
use Rattle.morsel_group.specs.Parts.{AreSameReduction, IsPart, ReadsColumn, joined_part, joined_parts}
use Rattle.morsel_group.specs.Locals.{AreGroups, AreSameGroupBy, HeldGroups, HasGroupedRows, KeepsGroupedRows, IsGroupFault, held_in, reducer_in, len_reducer}
use Rattle.morsel_group.proofs.CountLemmas.{grown_len}
use Rattle.morsel_group.proofs.GroupsLemmas.{reads_same}
use Rattle.morsel_group.proofs.HeldLemmas.{entries_in, few_joined, kept_joined, long_group, many_others, none_distinct}
use Rattle.morsel_group.proofs.TakeLemmas.{numbered, numbers_others, takes_others}

range_last : (a n j : ℕ) → a + n ≡ j → range_with_len a (suc n) ≡ range_with_len a n ++ j ∷ []
range_last a zero j e = let same : a ≡ j = omega (arith, e) in ap (λ k. k ∷ []) same
range_last a (suc n) j e = ap (λ (ks : List ℕ). a ∷ ks) (range_last (a + 1) n j (omega (arith, e)))

-- the first places, and the next one
pub places_more : (n : ℕ) (places more : List ℕ) → places ≡ range_with_len 0 n → more ≡ places ++ n ∷ [] → more ≡ range_with_len 0 (n + 1)
places_more n places more are pushed =
    let next : suc n ≡ n + 1 = omega arith in
    pushed ∙ ap (λ (ks : List ℕ). ks ++ n ∷ []) are ∙ sym (range_last 0 n n (omega arith)) ∙ ap (range_with_len 0) next

fields_from : (before fields : List Field) → fields_at (before ++ fields) (range_with_len (length before) (length fields)) ≡ fields
fields_from before [] = refl
fields_from before (field ∷ fields) =
    let first : take 1 (drop (length before) (before ++ field ∷ fields)) ≡ field ∷ [] = ap (take 1) (drop_at before (field ∷ fields) (length before) refl) in
    let len : length (before ++ field ∷ []) ≡ length before + 1 = length-append before (field ∷ []) in
    ap (λ (fs : List Field). fs ++ fields_at (before ++ field ∷ fields) (range_with_len (length before + 1) (length fields))) first
    ∙ ap (λ (fs : List Field). field ∷ fields_at fs (range_with_len (length before + 1) (length fields))) (sym (append_assoc before (field ∷ []) fields))
    ∙ ap (λ n. field ∷ fields_at ((before ++ field ∷ []) ++ fields) (range_with_len n (length fields))) (sym len)
    ∙ ap (λ (fs : List Field). field ∷ fs) (fields_from (before ++ field ∷ []) fields)

cells_from : (before row : Row) → cells_at (range_with_len (length before) (length row)) (before ++ row) ≡ row
cells_from before [] = refl
cells_from before (v ∷ row) =
    let first : cell_at (length before) (before ++ v ∷ row) ≡ v = get_or_at before v row values.Null (length before) refl in
    let len : length (before ++ v ∷ []) ≡ length before + 1 = length-append before (v ∷ []) in
    ap (λ (c : Value). c ∷ cells_at (range_with_len (length before + 1) (length row)) (before ++ v ∷ row)) first
    ∙ ap (λ (r : Row). v ∷ cells_at (range_with_len (length before + 1) (length row)) r) (sym (append_assoc before (v ∷ []) row))
    ∙ ap (λ n. v ∷ cells_at (range_with_len n (length row)) ((before ++ v ∷ []) ++ row)) (sym len)
    ∙ ap (λ (r : Row). v ∷ r) (cells_from (before ++ v ∷ []) row)

-- keys of so many values
abbrev pub HaveWidth : ℕ → List Row → Type 0
HaveWidth n [] = Unit {0}
HaveWidth n (key ∷ keys) = (length key ≡ n) × HaveWidth n keys

width_push : (n : ℕ) (keys : List Row) (key : Row) → HaveWidth n keys → length key ≡ n → HaveWidth n (keys ++ key ∷ [])
width_push n [] key wide is = (is, tt)
width_push n (k ∷ keys) key (here, later) is = (here, width_push n keys key later is)

width_arrived : (n : ℕ) (known vs : List Row) → HaveWidth n known → HaveWidth n vs → HaveWidth n (arrived known vs)
width_arrived n known [] wide more = wide
width_arrived n known (v ∷ vs) wide (here, later) = width_arrived n (if is_among v known then known else known ++ v ∷ []) vs (by (is_among v known)) later
  where
    by : (t : Bool) → HaveWidth n (if t then known else known ++ v ∷ [])
    by true = wide
    by false = width_push n known v wide here

width_keys : (shape : GroupShape) (rows : List RowAt) → HaveWidth (length shape.keys) (distinct_keys shape rows)
width_keys shape rows = width_arrived (length shape.keys) [] (map (λ r. cells_at shape.keys r.row) rows) tt (cells_wide rows)
  where
    cells_wide : (rows : List RowAt) → HaveWidth (length shape.keys) (map (λ r. cells_at shape.keys r.row) rows)
    cells_wide [] = tt
    cells_wide (r ∷ rows) = (length-map shape.keys (λ at. cell_at at r.row), cells_wide rows)

cells_each : (n : ℕ) (keys : List Row) → HaveWidth n keys → map (cells_at (range_with_len 0 n)) keys ≡ keys
cells_each n [] wide = refl
cells_each n (key ∷ keys) (here, later) =
    ap (λ (k : Row). k ∷ map (cells_at (range_with_len 0 n)) keys) (ap (λ m. cells_at (range_with_len 0 m) key) (sym here) ∙ cells_from [] key)
    ∙ ap (λ (ks : List Row). key ∷ ks) (cells_each n keys later)

-- what keys have at all their places are the keys
pub keys_alone : (shape : GroupShape) (rows : List RowAt) (places : List ℕ) (keys : List Row) → places ≡ range_with_len 0 (length shape.keys) → keys ≡ distinct_keys shape rows → map (cells_at places) keys ≡ keys
keys_alone shape rows places keys all are =
    ap (λ (ps : List ℕ). map (cells_at ps) keys) all
    ∙ cells_each (length shape.keys) keys (subst (λ (ks : List Row). HaveWidth (length shape.keys) ks) (sym are) (width_keys shape rows))

-- the first places are within so many
pub places_within : (n m : ℕ) (places : List ℕ) → places ≡ range_with_len 0 n → m ≡ n → All (λ at. at < m) places
places_within n m places are is k d inside =
    let len : length places ≡ n = ap length are ∙ length-range_with_len 0 n in
    let here : get_or places k d ≡ 0 + k = ap (λ (ps : List ℕ). get_or ps k d) are ∙ get_or-range_with_len 0 n k d (omega (arith, inside, len)) in
    omega (arith, here, len, is, inside)

length-fields_at : (fields : List Field) (places : List ℕ) → All (λ at. at < length fields) places → length (fields_at fields places) ≡ length places
length-fields_at fields [] within = refl
length-fields_at fields (at ∷ places) within =
    let blank : Field = record { name = []; kind = types.Int } in
    ap (λ (fs : List Field). length (fs ++ fields_at fields places)) (field-at fields at blank (within zero 0 (omega arith)))
    ∙ ap suc (length-fields_at fields places (λ k d inside. within (suc k) d (omega (arith, inside))))

-- others have the columns of the keys
same_columns : (g other : Groups) → AreGroups g → AreGroups other → AreSameGroupBy (Some (held_in g)) (Some (held_in other)) → other.key_rows.schema ≡ g.key_rows.schema
same_columns g other are are_more alike =
    are_more.key_fields
    ∙ ap (λ (fs : List Field). fields_at fs other.keys.items) alike.0
    ∙ ap (fields_at g.input) (ap (λ (s : GroupShape). s.keys) alike.1)
    ∙ sym are.key_fields

-- of which there are as many as keys
pub columns_len : (g other : Groups) → AreGroups g → AreGroups other → AreSameGroupBy (Some (held_in g)) (Some (held_in other)) → length other.key_rows.schema ≡ length g.keys.items
columns_len g other are are_more alike = ap length (same_columns g other are are_more alike ∙ are.key_fields) ∙ length-fields_at g.input g.keys.items are.within

-- and these are all their columns
pub key_columns : (g other : Groups) (places : List ℕ) → AreGroups g → AreGroups other → AreSameGroupBy (Some (held_in g)) (Some (held_in other)) → places ≡ range_with_len 0 (length g.keys.items) → g.key_rows.schema ≡ fields_at other.key_rows.schema places
key_columns g other places are are_more alike all =
    sym (ap (fields_at other.key_rows.schema) (all ∙ ap (range_with_len 0) (sym (columns_len g other are are_more alike)))
    ∙ fields_from [] other.key_rows.schema
    ∙ same_columns g other are are_more alike)

pub key_kinds : (g other : Groups) (places : List ℕ) → AreGroups g → AreGroups other → AreSameGroupBy (Some (held_in g)) (Some (held_in other)) → places ≡ range_with_len 0 (length g.keys.items)
    → kinds_of (fields_at other.key_rows.schema places) ≡ (keyed_in g.table).kinds
key_kinds g other places are are_more alike all = ap kinds_of (sym (key_columns g other places are are_more alike all) ∙ are.key_fields) ∙ sym are.kinds

-- and what their rows have is their keys
pub key_rows_are : (g other : Groups) (places : List ℕ) (more : List RowAt) → AreGroups other → AreSameGroupBy (Some (held_in g)) (Some (held_in other)) → places ≡ range_with_len 0 (length g.keys.items) → HasGroupedRows (held_in other) more
    → map (cells_at places) other.key_rows.rows ≡ (keyed_in other.table).keys
key_rows_are g other places more are alike all has =
    ap (map (cells_at places)) are.key_values
    ∙ keys_alone (held_in other).shape more places (keyed_in other.table).keys (all ∙ ap (range_with_len 0) (sym (ap (λ (s : GroupShape). length s.keys) alike.1))) has.keys

-- parts have no more groups than there are keys then, and as many as there were
pub parts_few : (fields : List Field) (old count : ℕ) (parts : List AggStates) → old ≤ count → All (IsPart fields old) parts → All (λ part. length part.states.entries ≤ count) parts
parts_few fields old count parts longer all = All-weaker (IsPart fields old) (λ part. length part.states.entries ≤ count) (λ part is. omega (arith, is.groups, longer)) parts all

pub parts_len : (fields : List Field) (count len : ℕ) (parts : List AggStates) → len ≡ count → All (IsPart fields count) parts → All (λ part. len ≡ length part.states.entries) parts
parts_len fields count len parts same all = All-weaker (IsPart fields count) (λ part. len ≡ length part.states.entries) (λ part is. same ∙ sym is.groups) parts all

-- a part to which that of another was put is one of more groups
part_joined : (fields : List Field) (old count : ℕ) (numbers : List ℕ) (other part : AggStates) → old ≤ count → IsPart fields old part → IsPart fields count (joined_part count numbers other part)
part_joined fields old count numbers other part longer is = record {
  reads = reads_same fields part.states (with_group_parts part.states.op (with_groups count part.states.entries) numbers other.states.entries) part.column is.reads;
  kind = is.kind;
  groups = length-with_group_parts part.states.op (with_groups count part.states.entries) numbers other.states.entries ∙ grown_len count part.states.entries (omega (arith, is.groups, longer));
}

pub parts_joined : (fields : List Field) (old count : ℕ) (numbers : List ℕ) (parts others : List AggStates) → old ≤ count → length others ≡ length parts → All (IsPart fields old) parts → All (IsPart fields count) (joined_parts count numbers parts others)
parts_joined fields old count numbers [] others longer len all = λ k d within. absurd (omega (arith, within))
parts_joined fields old count numbers (part ∷ parts) [] longer len all = absurd (omega (arith, len))
parts_joined fields old count numbers (part ∷ parts) (other ∷ others) longer len all =
    All-cons (IsPart fields count) (joined_part count numbers other part) (joined_parts count numbers parts others)
    (part_joined fields old count numbers other part longer (all zero part (omega arith)))
    (parts_joined fields old count numbers parts others longer (omega (arith, len)) (λ k d within. all (suc k) d (omega (arith, within))))

pub kinds_joined : (count : ℕ) (numbers : List ℕ) (parts others : List AggStates) → map (λ (part : AggStates). part.kind) (joined_parts count numbers parts others) ≡ map (λ (part : AggStates). part.kind) parts
kinds_joined count numbers [] others = refl
kinds_joined count numbers (part ∷ parts) [] = refl
kinds_joined count numbers (part ∷ parts) (other ∷ others) = ap (λ ks. part.kind ∷ ks) (kinds_joined count numbers parts others)

-- two reductions of one column reduce values of one type
same_kinds : (fields : List Field) (states others : GroupStates) (column other : Option ℕ) → other ≡ column → ReadsColumn fields states column → ReadsColumn fields others other → others.kind ≡ states.kind
same_kinds fields states others None other is reads reads_more = let more = subst (λ (c : Option ℕ). ReadsColumn fields others c) is reads_more in more.1 ∙ sym reads.1
same_kinds fields states others (Some at) other is reads reads_more = let more = subst (λ (c : Option ℕ). ReadsColumn fields others c) is reads_more in sym more.1 ∙ reads.1

same_reduction : (fields : List Field) (count more : ℕ) (part other : AggStates) → reducer_in other ≡ reducer_in part → IsPart fields count part → IsPart fields more other → AreSameReduction part other
same_reduction fields count more part other is here there = record {
  op = ap (λ (r : Reducer). r.op) is;
  kind = same_kinds fields part.states other.states part.column other.column (ap (λ (r : Reducer). r.column) is) here.reads there.reads;
}

-- so do all parts of one group-by
pub same_reductions : (fields : List Field) (count more : ℕ) (parts others : List AggStates) → map reducer_in others ≡ map reducer_in parts → All (IsPart fields count) parts → All (IsPart fields more) others
    → (k : ℕ) (p o : AggStates) → k < length parts → AreSameReduction (get_or parts k p) (get_or others k o)
same_reductions fields count more [] others same all all_more k p o within = absurd (omega (arith, within))
same_reductions fields count more (part ∷ parts) [] same all all_more k p o within = absurd (omega (arith, ap length same))
same_reductions fields count more (part ∷ parts) (other ∷ others) same all all_more zero p o within =
    let heads : reducer_in other ≡ reducer_in part = cc in
    same_reduction fields count more part other heads (all zero part (omega arith)) (all_more zero other (omega arith))
same_reductions fields count more (part ∷ parts) (other ∷ others) same all all_more (suc k) p o within =
    let tails : map reducer_in others ≡ map reducer_in parts = cc in
    same_reductions fields count more parts others tails (λ i d inside. all (suc i) d (omega (arith, inside))) (λ i d inside. all_more (suc i) d (omega (arith, inside))) k p o (omega (arith, within))

pub same_count : (parts others : List AggStates) → map reducer_in others ≡ map reducer_in parts → length others ≡ length parts
same_count parts others same = let a = length-map others reducer_in in let b = length-map parts reducer_in in let n = ap length same in omega (arith, a, b, n)

-- what others have, under the shape of these
pub theirs : (held other : HeldGroups) (more : List RowAt) → HasGroupedRows other more → other.shape ≡ held.shape → HasGroupedRows (record other { shape = held.shape }) more
theirs held other more has alike = subst (λ (s : GroupShape). HasGroupedRows (record other { shape = s }) more) alike has

-- counts to which those of others were put are those of all rows
pub counts_joined : (held other : HeldGroups) (rows more : List RowAt) (numbers : List ℕ) (keys : List Row) → HasGroupedRows held rows → HasGroupedRows (record other { shape = held.shape }) more → NumbersAll held.keys other.keys numbers keys
    → with_group_parts ops.Len (with_groups (length keys) held.counts) numbers other.counts ≡ map (kept_at held.shape (rows ++ more) len_reducer) keys
counts_joined held other rows more numbers keys has has_more numbers_all =
    let all = subst (λ (ks : List Row). NumbersAll ks (distinct_keys held.shape more) numbers keys) has.keys (subst (λ (ks : List Row). NumbersAll held.keys ks numbers keys) has_more.keys numbers_all) in
    ap (λ es. with_group_parts ops.Len (with_groups (length keys) es) numbers other.counts) (has.counts ∙ ap (map (kept_at held.shape rows len_reducer)) has.keys)
    ∙ ap (with_group_parts ops.Len (with_groups (length keys) (map (kept_at held.shape rows len_reducer) (distinct_keys held.shape rows))) numbers) (has_more.counts ∙ ap (map (kept_at held.shape more len_reducer)) has_more.keys)
    ∙ takes_others held.shape len_reducer rows more numbers keys all

-- what groups have to which those of others were put is what the rows of both come to
pub held_joined : (old new other : HeldGroups) (rows more : List RowAt) (numbers : List ℕ) (parts others : List AggStates) → HasGroupedRows old rows → HasGroupedRows (record other { shape = old.shape }) more → other.shape ≡ old.shape
    → NumbersAll old.keys other.keys numbers new.keys → length new.keys ≤ no_number
    → old.shape.aggs ≡ map reducer_in parts → old.kept ≡ map entries_in parts → other.shape.aggs ≡ map reducer_in others → other.kept ≡ map entries_in others → new.shape ≡ old.shape → new.took ≡ old.took + other.took
    → new.counts ≡ with_group_parts ops.Len (with_groups (length new.keys) old.counts) numbers other.counts → AreWithinLimit numbers new.counts
    → new.kept ≡ map entries_in (joined_parts (length new.keys) numbers parts others) → HasGroupedRows new (rows ++ more)
held_joined old new other rows more numbers parts others has has_more alike numbers_all low aggs kept aggs_more kept_more shape took counts within now =
    let whole = rows ++ more in
    let all = subst (λ (ks : List Row). NumbersAll ks (distinct_keys old.shape more) numbers new.keys) has.keys (subst (λ (ks : List Row). NumbersAll old.keys ks numbers new.keys) has_more.keys numbers_all) in
    let keys_are = numbers_others old.shape rows more numbers new.keys all in
    let counts_are = counts ∙ counts_joined old other rows more numbers new.keys has has_more numbers_all in
    let before = subst (λ (ks : List Row). KeepsGroupedRows old.shape rows ks (map reducer_in parts) (map entries_in parts)) has.keys
    (subst (λ (es : List (List (Option Entry))). KeepsGroupedRows old.shape rows old.keys (map reducer_in parts) es) kept (subst (λ (rs : List Reducer). KeepsGroupedRows old.shape rows old.keys rs old.kept) aggs has.kept)) in
    let asked : old.shape.aggs ≡ map reducer_in others = sym (ap (λ (s : GroupShape). s.aggs) alike) ∙ aggs_more in
    let before_more = subst (λ (ks : List Row). KeepsGroupedRows old.shape more ks (map reducer_in others) (map entries_in others)) has_more.keys
    (subst (λ (es : List (List (Option Entry))). KeepsGroupedRows old.shape more other.keys (map reducer_in others) es) kept_more (subst (λ (rs : List Reducer). KeepsGroupedRows old.shape more other.keys rs other.kept) asked has_more.kept)) in
    let after = subst (λ (rs : List Reducer). KeepsGroupedRows old.shape whole new.keys rs (map entries_in (joined_parts (length new.keys) numbers parts others))) (sym aggs) (kept_joined old.shape rows more numbers new.keys parts others all (sym asked ∙ aggs) before before_more) in
    let made : HasGroupedRows (record new { shape = old.shape }) whole = record {
      took = omega (arith, took, has.took, has_more.took, length-append rows more);
      keys = keys_are;
      counts = counts_are;
      kept = subst (λ (es : List (List (Option Entry))). KeepsGroupedRows old.shape whole new.keys old.shape.aggs es) (sym now) after;
      few = few_joined old.shape rows more (distinct_keys old.shape more) new.keys numbers new.counts has.few low keys_are (numbered (distinct_keys old.shape rows) (distinct_keys old.shape more) numbers new.keys all) counts_are within (none_distinct old.shape more);
    } in
    subst (λ (s : GroupShape). HasGroupedRows (record new { shape = s }) whole) (sym shape) made

-- others whose keys are refused
pub others_refused : (held other : HeldGroups) (rows more : List RowAt) (fault : Fault) → HasGroupedRows held rows → HasGroupedRows (record other { shape = held.shape }) more → RefusesKeys held.keys other.keys fault → IsGroupFault held.shape (rows ++ more) fault
others_refused held other rows more fault has has_more refused = many_others held.shape rows more other.keys fault has_more.keys (subst (λ (ks : List Row). RefusesKeys ks other.keys fault) has.keys refused)

-- others with which a group has too many rows
pub counts_refused : (held other : HeldGroups) (rows more : List RowAt) (numbers : List ℕ) (keys : List Row) (count : ℕ) (fault : Fault) → HasGroupedRows held rows → HasGroupedRows (record other { shape = held.shape }) more
    → NumbersAll held.keys other.keys numbers keys → count ≡ length keys → RefusesLens (with_group_parts ops.Len (with_groups count held.counts) numbers other.counts) fault → IsGroupFault held.shape (rows ++ more) fault
counts_refused held other rows more numbers keys count fault has has_more numbers_all is refused =
    long_group held.shape (rows ++ more) keys (with_group_parts ops.Len (with_groups (length keys) held.counts) numbers other.counts) fault (counts_joined held other rows more numbers keys has has_more numbers_all)
    (subst (λ (n : ℕ). RefusesLens (with_group_parts ops.Len (with_groups n held.counts) numbers other.counts) fault) is refused)
