-- Groups to which rows came.
use Rattle.std.proofs.Common.{◌≡◌, ◌≤◌, ◌++◌, [], ◌∷◌, List, ℕ, ◌+◌, length, map, None, Some, refl, arith, ap, ◌∙◌, sym, subst}
use Rattle.std.specs.Prelude.{Option}
use Rattle.std.specs.List.{All}
use Rattle.std.proofs.lemmas.List.{length-append}
use Rattle.std.proofs.lemmas.List.Elements.{All-map, All-weaker}
use Rattle.morsel_meaning.specs.declared.value.Field.{Field}
use Rattle.morsel_meaning.specs.declared.fault.Fault.{Fault}
use Rattle.morsel_meaning.specs.Values.{Row}
use Rattle.morsel_frame.specs.Tables.{cells_at}
use Rattle.morsel_keys.specs.declared.reduction.Reduction.TheVariants as ops
use Rattle.morsel_keys.specs.Slots.{NumbersAll, no_number}
use Rattle.morsel_keys.specs.Reductions.{Entry}
use Rattle.morsel_states.specs.GroupParts.{AreWithinLimit}
use Rattle.morsel_states.specs.GroupRows.{group_rows, with_group_rows}
use Rattle.morsel_states.specs.States.{GroupStates, with_groups}
use Rattle.morsel_states.proofs.RowLemmas.{length-with_group_rows}
use Rattle.morsel_group.specs.declared.part.AggStates.{AggStates}
use Rattle.morsel_group.specs.Arrivals.{RefusesKeys, RefusesLens}
use Rattle.morsel_group.specs.Asked.{Reducer, GroupShape}
use Rattle.morsel_group.specs.Grouping.{RowAt, value_in, distinct_keys}
use Rattle.morsel_group.specs.Kept.{kept_at}
use Rattle.morsel_group.specs.Takes.{placed_rows}
use Rattle.morsel_group.specs.Parts.{IsPart, ReadsColumn, updated_part}
use Rattle.morsel_group.specs.Locals.{HeldGroups, HasGroupedRows, KeepsGroupedRows, IsGroupFault, reducer_in, len_reducer}
use Rattle.morsel_group.proofs.CountLemmas.{grown_len}
use Rattle.morsel_group.proofs.HeldLemmas.{entries_in, many_keys, long_group, few_joined, none_placed, kept_updated}
use Rattle.morsel_group.proofs.TakeLemmas.{numbered, numbers_keys, takes_rows}

pub reads_same : (fields : List Field) (states : GroupStates) (entries : List (Option Entry)) (column : Option ℕ) → ReadsColumn fields states column → ReadsColumn fields (record states { entries = entries }) column
reads_same fields states entries None reads = reads
reads_same fields states entries (Some at) reads = reads

-- a part to which rows were put is one of more groups
pub part_updated : (fields : List Field) (old count place : ℕ) (numbers : List ℕ) (more : List Row) (part : AggStates) → old ≤ count → IsPart fields old part → IsPart fields count (updated_part count place numbers more part)
part_updated fields old count place numbers more part longer is = record {
  reads = reads_same fields part.states (with_group_rows part.states.op (with_groups count part.states.entries) (group_rows place numbers (map (value_in part.column) more))) part.column is.reads;
  kind = is.kind;
  groups = length-with_group_rows part.states.op (with_groups count part.states.entries) (group_rows place numbers (map (value_in part.column) more)) ∙ grown_len count part.states.entries (omega (arith, is.groups, longer));
}

pub parts_updated : (fields : List Field) (old count place : ℕ) (numbers : List ℕ) (more : List Row) (parts : List AggStates) → old ≤ count → All (IsPart fields old) parts → All (IsPart fields count) (map (updated_part count place numbers more) parts)
parts_updated fields old count place numbers more parts longer all =
    All-map (IsPart fields count) (updated_part count place numbers more) parts
    (All-weaker (IsPart fields old) (λ part. IsPart fields count (updated_part count place numbers more part)) (λ part is. part_updated fields old count place numbers more part longer is) parts all)

pub kinds_updated : (count place : ℕ) (numbers : List ℕ) (more : List Row) (parts : List AggStates) → map (λ (part : AggStates). part.kind) (map (updated_part count place numbers more) parts) ≡ map (λ (part : AggStates). part.kind) parts
kinds_updated count place numbers more [] = refl
kinds_updated count place numbers more (part ∷ parts) = ap (λ ks. part.kind ∷ ks) (kinds_updated count place numbers more parts)

length-placed : (place : ℕ) (more : List Row) → length (placed_rows place more) ≡ length more
length-placed place [] = refl
length-placed place (row ∷ more) = let later = length-placed (place + 1) more in omega (arith, later)

-- counts of rows that were put to their groups are those of all rows
pub counts_put : (held : HeldGroups) (rows : List RowAt) (place : ℕ) (more : List Row) (numbers : List ℕ) (keys : List Row) → HasGroupedRows held rows → NumbersAll held.keys (map (cells_at held.shape.keys) more) numbers keys
    → with_group_rows ops.Len (with_groups (length keys) held.counts) (group_rows place numbers (map (value_in None) more)) ≡ map (kept_at held.shape (rows ++ placed_rows place more) len_reducer) keys
counts_put held rows place more numbers keys has numbers_all =
    let all = subst (λ (ks : List Row). NumbersAll ks (map (cells_at held.shape.keys) more) numbers keys) has.keys numbers_all in
    ap (λ es. with_group_rows ops.Len (with_groups (length keys) es) (group_rows place numbers (map (value_in None) more))) (has.counts ∙ ap (map (kept_at held.shape rows len_reducer)) has.keys)
    ∙ takes_rows held.shape len_reducer rows place more numbers keys all

-- what groups have to which rows were put is what all rows come to
pub held_put : (old new : HeldGroups) (rows : List RowAt) (place : ℕ) (more : List Row) (numbers : List ℕ) (parts : List AggStates) → HasGroupedRows old rows → NumbersAll old.keys (map (cells_at old.shape.keys) more) numbers new.keys → length new.keys ≤ no_number
    → old.shape.aggs ≡ map reducer_in parts → old.kept ≡ map entries_in parts → new.shape ≡ old.shape → new.took ≡ old.took + length more
    → new.counts ≡ with_group_rows ops.Len (with_groups (length new.keys) old.counts) (group_rows place numbers (map (value_in None) more)) → AreWithinLimit numbers new.counts
    → new.kept ≡ map entries_in (map (updated_part (length new.keys) place numbers more) parts) → HasGroupedRows new (rows ++ placed_rows place more)
held_put old new rows place more numbers parts has numbers_all low aggs kept shape took counts within now =
    let whole = rows ++ placed_rows place more in
    let all = subst (λ (ks : List Row). NumbersAll ks (map (cells_at old.shape.keys) more) numbers new.keys) has.keys numbers_all in
    let keys_are = numbers_keys old.shape rows place more numbers new.keys all in
    let counts_are = counts ∙ counts_put old rows place more numbers new.keys has numbers_all in
    let before = subst (λ (ks : List Row). KeepsGroupedRows old.shape rows ks (map reducer_in parts) (map entries_in parts)) has.keys
    (subst (λ (es : List (List (Option Entry))). KeepsGroupedRows old.shape rows old.keys (map reducer_in parts) es) kept (subst (λ (rs : List Reducer). KeepsGroupedRows old.shape rows old.keys rs old.kept) aggs has.kept)) in
    let after = subst (λ (rs : List Reducer). KeepsGroupedRows old.shape whole new.keys rs (map entries_in (map (updated_part (length new.keys) place numbers more) parts))) (sym aggs) (kept_updated old.shape rows place more numbers new.keys parts all before) in
    let made : HasGroupedRows (record new { shape = old.shape }) whole = record {
      took = omega (arith, took, has.took, length-append rows (placed_rows place more), length-placed place more);
      keys = keys_are;
      counts = counts_are;
      kept = subst (λ (es : List (List (Option Entry))). KeepsGroupedRows old.shape whole new.keys old.shape.aggs es) (sym now) after;
      few = few_joined old.shape rows (placed_rows place more) (map (cells_at old.shape.keys) more) new.keys numbers new.counts has.few low keys_are (numbered (distinct_keys old.shape rows) (map (cells_at old.shape.keys) more) numbers new.keys all) counts_are within (none_placed old.shape place more);
    } in
    subst (λ (s : GroupShape). HasGroupedRows (record new { shape = s }) whole) (sym shape) made

-- rows whose keys are refused
pub keys_refused : (held : HeldGroups) (rows : List RowAt) (place : ℕ) (more : List Row) (fault : Fault) → HasGroupedRows held rows → RefusesKeys held.keys (map (cells_at held.shape.keys) more) fault → IsGroupFault held.shape (rows ++ placed_rows place more) fault
keys_refused held rows place more fault has refused = many_keys held.shape rows place more fault (subst (λ (ks : List Row). RefusesKeys ks (map (cells_at held.shape.keys) more) fault) has.keys refused)

-- rows of which a group has too many
pub lens_refused : (held : HeldGroups) (rows : List RowAt) (place : ℕ) (more : List Row) (numbers : List ℕ) (keys : List Row) (count : ℕ) (fault : Fault) → HasGroupedRows held rows → NumbersAll held.keys (map (cells_at held.shape.keys) more) numbers keys → count ≡ length keys
    → RefusesLens (with_group_rows ops.Len (with_groups count held.counts) (group_rows place numbers (map (value_in None) more))) fault → IsGroupFault held.shape (rows ++ placed_rows place more) fault
lens_refused held rows place more numbers keys count fault has numbers_all is refused =
    long_group held.shape (rows ++ placed_rows place more) keys (with_group_rows ops.Len (with_groups (length keys) held.counts) (group_rows place numbers (map (value_in None) more))) fault (counts_put held rows place more numbers keys has numbers_all)
    (subst (λ (n : ℕ). RefusesLens (with_group_rows ops.Len (with_groups n held.counts) (group_rows place numbers (map (value_in None) more))) fault) is refused)
