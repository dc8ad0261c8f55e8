-- What local groups have, with more rows and with the rows of others.
use Rattle.std.proofs.Common.{◌≡◌, ◌<◌, ◌≤◌, ◌++◌, [], ◌∷◌, List, ℕ, zero, suc, ◌+◌, length, slice_get, get_or, map, None, Some, refl, arith, ap, ◌∙◌, sym, Bool, true, false, if◌then◌else◌, subst, inl, inr}
use Rattle.std.specs.Prelude.{Option}
use Rattle.std.proofs.lemmas.Bool.{cases_Bool, false≢true}
use Rattle.std.proofs.lemmas.List.{length-map, length-append, map-append, get_or-map}
use Rattle.std.proofs.lemmas.Option.{slice_get_within, get_or_from_slice_get}
use Rattle.morsel_meaning.specs.declared.fault.Fault.{Fault}
use Rattle.morsel_meaning.specs.Values.{Row}
use Rattle.morsel_frame.specs.Tables.{cells_at}
use Rattle.morsel_keys.specs.declared.reduction.Reduction.TheVariants as ops
use Rattle.morsel_keys.specs.Slots.{NumbersAll, no_number}
use Rattle.morsel_keys.specs.Reductions.{Entry, entry_len, len_limit}
use Rattle.morsel_states.specs.GroupParts.{with_group_parts, AreWithinLimit}
use Rattle.morsel_states.specs.GroupRows.{group_rows, with_group_rows}
use Rattle.morsel_states.specs.States.{with_groups}
use Rattle.morsel_group.specs.declared.part.AggStates.{AggStates}
use Rattle.morsel_group.specs.Asked.{GroupShape}
use Rattle.morsel_group.specs.Grouping.{same_key, is_among, arrived, RowAt, value_in, rows_at_key, distinct_keys}
use Rattle.morsel_group.specs.Kept.{valued, kept_at}
use Rattle.morsel_group.specs.Takes.{placed_rows}
use Rattle.morsel_group.specs.Parts.{updated_part, joined_parts}
use Rattle.morsel_group.specs.Arrivals.{RefusesKeys, RefusesLens}
use Rattle.morsel_group.specs.Locals.{AreFewEnough, IsGroupFault, KeepsGroupedRows, reducer_in, len_reducer}
use Rattle.morsel_group.proofs.CountLemmas.{entry_len-of}
use Rattle.morsel_group.proofs.KeyLemmas.{same_key-only, arrived-append, among-arrived}
use Rattle.morsel_group.proofs.GroupingLemmas.{passing-append, no_rows, merges_keys}
use Rattle.morsel_group.proofs.TakeLemmas.{AreNumbered, placed_keys, takes_rows, takes_others}

-- what a part has of each group
abbrev pub entries_in : AggStates → List (Option Entry)
entries_in part = part.states.entries

pub kept_len : (shape : GroupShape) (rows : List RowAt) (key : Row) → entry_len (kept_at shape rows len_reducer key) ≡ length (rows_at_key shape key rows)
kept_len shape rows key = entry_len-of ops.Len (valued len_reducer (rows_at_key shape key rows)) ∙ length-map (rows_at_key shape key rows) _

-- a group that has too many values is a key that has too many rows
pub long_group : (shape : GroupShape) (rows : List RowAt) (keys : List Row) (entries : List (Option Entry)) (fault : Fault) → entries ≡ map (kept_at shape rows len_reducer) keys → RefusesLens entries fault → IsGroupFault shape rows fault
long_group shape rows keys entries fault are (inl memory) = inl memory
long_group shape rows keys entries fault are (inr (is, (group, within, past))) =
    let n = ap length are ∙ length-map keys (kept_at shape rows len_reducer) in
    let here = ap (λ es. get_or es group None) are ∙ get_or-map (kept_at shape rows len_reducer) keys group [] None (omega (arith, n, within)) in
    let len = ap entry_len here ∙ kept_len shape rows (get_or keys group []) in
    inr (inr (is, (get_or keys group [], omega (arith, len, past))))

-- keys that are too many with those of more rows
pub many_keys : (shape : GroupShape) (rows : List RowAt) (place : ℕ) (more : List Row) (fault : Fault) → RefusesKeys (distinct_keys shape rows) (map (cells_at shape.keys) more) fault → IsGroupFault shape (rows ++ placed_rows place more) fault
many_keys shape rows place more fault (inl memory) = inl memory
many_keys shape rows place more fault (inr (is, past)) =
    let same = ap length (ap (arrived []) (map-append (λ (r : RowAt). cells_at shape.keys r.row) rows (placed_rows place more))
    ∙ arrived-append [] (map (λ r. cells_at shape.keys r.row) rows) (map (λ r. cells_at shape.keys r.row) (placed_rows place more))
    ∙ ap (arrived (distinct_keys shape rows)) (placed_keys shape place more)) in
    inr (inl (is, omega (arith, same, past)))

-- keys that are too many with those of others
pub many_others : (shape : GroupShape) (rows more : List RowAt) (keys : List Row) (fault : Fault) → keys ≡ distinct_keys shape more → RefusesKeys (distinct_keys shape rows) keys fault → IsGroupFault shape (rows ++ more) fault
many_others shape rows more keys fault are (inl memory) = inl memory
many_others shape rows more keys fault are (inr (is, past)) =
    let same = ap length (merges_keys shape rows more ∙ ap (arrived (distinct_keys shape rows)) (sym are)) in
    inr (inl (is, omega (arith, same, past)))

-- the number of a key among those that have numbers
at_number : (keys vs : List Row) (ats : List ℕ) (key : Row) → AreNumbered keys vs ats → is_among key vs ≡ true → (k : ℕ) × (k < length ats) × (slice_get keys (get_or ats k 0) ≡ Some key)
at_number keys [] [] key all there = absurd (false≢true there)
at_number keys [] (at ∷ ats) key all there = absurd all
at_number keys (v ∷ vs) [] key all there = absurd all
at_number keys (v ∷ vs) (at ∷ ats) key (first, later) there = by (same_key key v) refl (λ e. at_number keys vs ats key later e) there
  where
    by : (t : Bool) → same_key key v ≡ t → (is_among key vs ≡ true → (k : ℕ) × (k < length ats) × (slice_get keys (get_or ats k 0) ≡ Some key)) → (if t then true else is_among key vs) ≡ true
        → (k : ℕ) × (k < length (at ∷ ats)) × (slice_get keys (get_or (at ∷ ats) k 0) ≡ Some key)
    by true q further e = (zero, omega arith, first ∙ ap Some (sym (same_key-only key v q)))
    by false q further e = let later = further e in (suc later.0, omega (arith, later.1), later.2)

-- where the groups of the keys that came have no more than may be, there are no more rows of any key than may be
pub few_joined : (shape : GroupShape) (rows more : List RowAt) (vs keys : List Row) (ats : List ℕ) (entries : List (Option Entry)) → AreFewEnough shape rows → length keys ≤ no_number → keys ≡ distinct_keys shape (rows ++ more)
    → AreNumbered keys vs ats → entries ≡ map (kept_at shape (rows ++ more) len_reducer) keys → AreWithinLimit ats entries → ((key : Row) → is_among key vs ≡ false → rows_at_key shape key more ≡ []) → AreFewEnough shape (rows ++ more)
few_joined shape rows more vs keys ats entries few low are all held within none = record {
  keys = subst (λ (ks : List Row). length ks ≤ no_number) are low;
  rows_each = each;
}
  where
    both : (key : Row) → length (rows_at_key shape key (rows ++ more)) ≡ length (rows_at_key shape key rows) + length (rows_at_key shape key more)
    both key = ap length (passing-append (λ r. same_key key (cells_at shape.keys r.row)) rows more) ∙ length-append (rows_at_key shape key rows) (rows_at_key shape key more)

    each : (key : Row) → length (rows_at_key shape key (rows ++ more)) ≤ len_limit
    each key = elim (cases_Bool (is_among key vs)) as (λ _. length (rows_at_key shape key (rows ++ more)) ≤ len_limit) [
      | inl t ↦
          let there = at_number keys vs ats key all t in
          let group = get_or ats there.0 0 in
          let inside = slice_get_within keys group key there.2 in
          let here = ap (λ es. get_or es group None) held ∙ get_or-map (kept_at shape (rows ++ more) len_reducer) keys group [] None inside ∙ ap (kept_at shape (rows ++ more) len_reducer) (get_or_from_slice_get keys group key [] there.2) in
          let len = ap entry_len here ∙ kept_len shape (rows ++ more) key in
          let limit : entry_len (get_or entries group None) ≤ len_limit = within there.0 0 there.1 in
          omega (arith, len, limit)
      | inr f ↦
          let old = few.rows_each key in
          let nothing = ap length (none key f) in
          omega (arith, both key, old, nothing)
    ]

-- a key that is none of those of more rows has none of them
pub none_placed : (shape : GroupShape) (place : ℕ) (more : List Row) (key : Row) → is_among key (map (cells_at shape.keys) more) ≡ false → rows_at_key shape key (placed_rows place more) ≡ []
none_placed shape place more key none = no_rows shape (placed_rows place more) key (ap (is_among key) (placed_keys shape place more) ∙ none)

-- nor a key that is none of the distinct ones
pub none_distinct : (shape : GroupShape) (more : List RowAt) (key : Row) → is_among key (distinct_keys shape more) ≡ false → rows_at_key shape key more ≡ []
none_distinct shape more key none = no_rows shape more key (sym (among-arrived key [] (map (λ r. cells_at shape.keys r.row) more)) ∙ none)

-- parts of which the rows were put to their groups keep more rows
pub kept_updated : (shape : GroupShape) (rows : List RowAt) (place : ℕ) (more : List Row) (numbers : List ℕ) (keys : List Row) (parts : List AggStates) → NumbersAll (distinct_keys shape rows) (map (cells_at shape.keys) more) numbers keys
    → KeepsGroupedRows shape rows (distinct_keys shape rows) (map reducer_in parts) (map entries_in parts)
    → KeepsGroupedRows shape (rows ++ placed_rows place more) keys (map reducer_in parts) (map entries_in (map (updated_part (length keys) place numbers more) parts))
kept_updated shape rows place more numbers keys [] all kept = tt
kept_updated shape rows place more numbers keys (part ∷ parts) all (here, later) = (
  ap (λ es. with_group_rows part.states.op (with_groups (length keys) es) (group_rows place numbers (map (value_in part.column) more))) here ∙ takes_rows shape (reducer_in part) rows place more numbers keys all,
  kept_updated shape rows place more numbers keys parts all later,
)

-- and are of the same reductions
pub reducers_updated : (count place : ℕ) (numbers : List ℕ) (more : List Row) (parts : List AggStates) → map reducer_in (map (updated_part count place numbers more) parts) ≡ map reducer_in parts
reducers_updated count place numbers more [] = refl
reducers_updated count place numbers more (part ∷ parts) = ap (λ rs. reducer_in part ∷ rs) (reducers_updated count place numbers more parts)

-- parts to which those of others were put keep the rows of both
pub kept_joined : (shape : GroupShape) (rows more : List RowAt) (numbers : List ℕ) (keys : List Row) (parts others : List AggStates) → NumbersAll (distinct_keys shape rows) (distinct_keys shape more) numbers keys
    → map reducer_in others ≡ map reducer_in parts
    → KeepsGroupedRows shape rows (distinct_keys shape rows) (map reducer_in parts) (map entries_in parts)
    → KeepsGroupedRows shape more (distinct_keys shape more) (map reducer_in others) (map entries_in others)
    → KeepsGroupedRows shape (rows ++ more) keys (map reducer_in parts) (map entries_in (joined_parts (length keys) numbers parts others))
kept_joined shape rows more numbers keys [] [] all same kept kept_more = tt
kept_joined shape rows more numbers keys [] (other ∷ others) all same kept kept_more = cc
kept_joined shape rows more numbers keys (part ∷ parts) [] all same kept kept_more = cc
kept_joined shape rows more numbers keys (part ∷ parts) (other ∷ others) all same (here, later) (here_more, later_more) =
    let heads : reducer_in other ≡ reducer_in part = cc in
    let tails : map reducer_in others ≡ map reducer_in parts = cc in
    let theirs : entries_in other ≡ map (kept_at shape more (reducer_in part)) (distinct_keys shape more) = here_more ∙ ap (λ agg. map (kept_at shape more agg) (distinct_keys shape more)) heads in (
      ap (λ es. with_group_parts part.states.op (with_groups (length keys) es) numbers (entries_in other)) here
          ∙ ap (with_group_parts part.states.op (with_groups (length keys) (map (kept_at shape rows (reducer_in part)) (distinct_keys shape rows))) numbers) theirs
          ∙ takes_others shape (reducer_in part) rows more numbers keys all,
      kept_joined shape rows more numbers keys parts others all tails later later_more,
    )

-- and are of the same reductions
pub reducers_joined : (count : ℕ) (numbers : List ℕ) (parts others : List AggStates) → map reducer_in (joined_parts count numbers parts others) ≡ map reducer_in parts
reducers_joined count numbers [] others = refl
reducers_joined count numbers (part ∷ parts) [] = refl
reducers_joined count numbers (part ∷ parts) (other ∷ others) = ap (λ rs. reducer_in part ∷ rs) (reducers_joined count numbers parts others)
