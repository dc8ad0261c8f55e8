-- Rows that are put to the groups of their keys, and groups that are put to those of others.
use Rattle.std.proofs.Common.{◌≡◌, ◌≢◌, ◌<◌, ◌≤◌, ◌++◌, [], ◌∷◌, List, ℕ, zero, suc, ◌+◌, ◌-◌, length, slice_get, get_or, map, replicate, None, Some, refl, arith, ap, ◌∙◌, sym, Bool, true, false, if◌then◌else◌, subst, inl, inr}
use Rattle.std.specs.Prelude.{Option, nat_eq, ◌⊎◌}
use Rattle.std.proofs.lemmas.Bool.{cases_Bool, cases_lt}
use Rattle.std.proofs.lemmas.List.{length-map, length-append, map-append, get_or-map, get_or_append_left, get_or-append_right, get_or-replicate, length-replicate, ext_get_or}
use Rattle.std.proofs.lemmas.Option.{slice_get_within}
use Rattle.morsel_meaning.specs.Values.{Row}
use Rattle.morsel_frame.specs.Tables.{cells_at}
use Rattle.morsel_keys.specs.declared.reduction.Reduction.{Reduction}
use Rattle.morsel_keys.specs.Slots.{NumbersAll, HasKeysEachOnce}
use Rattle.morsel_keys.specs.Groups.{both_parts}
use Rattle.morsel_keys.specs.Reductions.{Entry, entry_of, plus_entries}
use Rattle.morsel_keys.proofs.NumberLemmas.{numbers_all_keep}
use Rattle.morsel_row_keys.proofs.ShownLemmas.{gives_held}
use Rattle.morsel_states.specs.GroupRows.{GroupRow, group_rows, group_values, with_group_rows}
use Rattle.morsel_states.specs.GroupParts.{with_group_parts, group_part}
use Rattle.morsel_states.specs.States.{with_groups}
use Rattle.morsel_states.proofs.RowLemmas.{keeps_groups, length-with_group_rows}
use Rattle.morsel_states.proofs.PartLemmas.{keeps_group_parts, length-with_group_parts}
use Rattle.morsel_keys.proofs.GroupLemmas.{both_parts-none}
use Rattle.morsel_group.specs.Asked.{Reducer, GroupShape}
use Rattle.morsel_group.specs.Grouping.{same_key, is_among, arrived, RowAt, value_in, rows_at_key, distinct_keys}
use Rattle.morsel_group.specs.Kept.{valued, kept_at}
use Rattle.morsel_group.specs.Takes.{placed_rows, NumbersKeys, TakesMoreRows, NumbersOthers, TakesOthers}
use Rattle.morsel_group.proofs.KeyLemmas.{same_key-itself, same_key-only, among_at, new_of_not_among, numbers_arrived, arrived-append, arrived-once, arrived-longer, none_once}
use Rattle.morsel_group.proofs.GroupingLemmas.{merges_keys, merges_kept, keeps_nothing}

-- each key is at its number
abbrev pub AreNumbered : List Row → List Row → List ℕ → Type 0
AreNumbered keys [] [] = Unit {0}
AreNumbered keys [] (at ∷ ats) = ⊥
AreNumbered keys (v ∷ vs) [] = ⊥
AreNumbered keys (v ∷ vs) (at ∷ ats) = (slice_get keys at ≡ Some v) × AreNumbered keys vs ats

pub numbered : (old vs : List Row) (ats : List ℕ) (new : List Row) → NumbersAll old vs ats new → AreNumbered new vs ats
numbered old [] [] new all = tt
numbered old [] (at ∷ ats) new all = all
numbered old (v ∷ vs) [] new all = all
numbered old (v ∷ vs) (at ∷ ats) new (mid, first, later) = (numbers_all_keep mid vs ats new at v later (gives_held old v at mid first), numbered mid vs ats new later)

-- a row is of a group exactly where it has its key
row_of_group : (keys : List Row) (g at : ℕ) (key v : Row) → HasKeysEachOnce keys → slice_get keys g ≡ Some key → slice_get keys at ≡ Some v → nat_eq at g ≡ same_key key v
row_of_group keys g at key v once here there = elim (cases_Bool (nat_eq at g)) as (λ _. nat_eq at g ≡ same_key key v) [
  | inl t ↦
      let same : at ≡ g = grind (arith, t) in
      let is : Some v ≡ Some key = sym there ∙ ap (slice_get keys) same ∙ here in
      let eq : v ≡ key = cc in
      t ∙ sym (ap (same_key key) eq ∙ same_key-itself key)
  | inr f ↦ elim (cases_Bool (same_key key v)) as (λ _. nat_eq at g ≡ same_key key v) [
    | inl s ↦ let eq = same_key-only key v s in let place : at ≡ g = once at g key (there ∙ ap Some (sym eq)) here in absurd (grind (arith, f, place))
    | inr s ↦ f ∙ sym s
  ]
]

-- the rows of a group are those of its key
pub rows_of_group : (shape : GroupShape) (agg : Reducer) (keys : List Row) (g : ℕ) (key : Row) (place : ℕ) (rows : List Row) (ats : List ℕ) → HasKeysEachOnce keys → slice_get keys g ≡ Some key
    → AreNumbered keys (map (cells_at shape.keys) rows) ats → group_values g (group_rows place ats (map (value_in agg.column) rows)) ≡ valued agg (rows_at_key shape key (placed_rows place rows))
rows_of_group shape agg keys g key place [] [] once here all = refl
rows_of_group shape agg keys g key place [] (at ∷ ats) once here all = absurd all
rows_of_group shape agg keys g key place (row ∷ rows) [] once here all = absurd all
rows_of_group shape agg keys g key place (row ∷ rows) (at ∷ ats) once here (first, later) =
    ap (λ t. if t then (record { at = place; value = value_in agg.column row }) ∷ group_values g (group_rows (place + 1) ats (map (value_in agg.column) rows)) else group_values g (group_rows (place + 1) ats (map (value_in agg.column) rows))) (row_of_group keys g at key (cells_at shape.keys row) once here first)
    ∙ by (same_key key (cells_at shape.keys row)) (rows_of_group shape agg keys g key (place + 1) rows ats once here later)
  where
    by : (t : Bool) → group_values g (group_rows (place + 1) ats (map (value_in agg.column) rows)) ≡ valued agg (rows_at_key shape key (placed_rows (place + 1) rows))
        → (if t then (record { at = place; value = value_in agg.column row }) ∷ group_values g (group_rows (place + 1) ats (map (value_in agg.column) rows)) else group_values g (group_rows (place + 1) ats (map (value_in agg.column) rows)))
        ≡ valued agg (if t then (record { at = place; row = row }) ∷ rows_at_key shape key (placed_rows (place + 1) rows) else rows_at_key shape key (placed_rows (place + 1) rows))
    by true h = ap (λ vs. (record { at = place; value = value_in agg.column row }) ∷ vs) h
    by false h = h

slice_of : (keys : List Row) (g : ℕ) → g < length keys → slice_get keys g ≡ Some (get_or keys g [])
slice_of [] g within = absurd (omega (arith, within))
slice_of (k ∷ keys) zero within = refl
slice_of (k ∷ keys) (suc g) within = slice_of keys g (omega (arith, within))

-- what there was at each key, where groups were put last that had nothing
pub grown_at : (f : Row → Option Entry) (old new : List Row) (g : ℕ) → ((k : ℕ) (v : Row) → slice_get old k ≡ Some v → slice_get new k ≡ Some v) → HasKeysEachOnce new
    → ((key : Row) → ((at : ℕ) → slice_get old at ≢ Some key) → f key ≡ None) → g < length new → length old ≤ length new
    → get_or (with_groups (length new) (map f old)) g None ≡ f (get_or new g [])
grown_at f old new g keeps once nothing within longer = by (cases_lt g (length old))
  where
    here : slice_get new g ≡ Some (get_or new g [])
    here = slice_of new g within

    by : (g < length old) ⊎ (length old ≤ g) → get_or (with_groups (length new) (map f old)) g None ≡ f (get_or new g [])
    by (inl lt) =
        let there = keeps g (get_or old g []) (slice_of old g lt) in
        let eq : Some (get_or old g []) ≡ Some (get_or new g []) = sym there ∙ here in
        let same : get_or old g [] ≡ get_or new g [] = cc in
        get_or_append_left (map f old) (replicate (length new - length (map f old)) None) None g (omega (arith, lt, length-map old f))
        ∙ get_or-map f old g [] None lt
        ∙ ap f same
    by (inr le) =
        get_or-append_right (map f old) (replicate (length new - length (map f old)) None) (length old) g None (length-map old f) le
        ∙ get_or-replicate (length new - length (map f old)) (g - length old) None None (omega (arith, within, le, length-map old f))
        ∙ sym (nothing (get_or new g []) (λ at e. let l = slice_get_within old at (get_or new g []) e in let same : at ≡ g = once at g (get_or new g []) (keeps at (get_or new g []) e) here in omega (arith, l, le, same)))

-- rows that are put to the groups of their keys leave what is kept of all rows
pub rows_taken : (shape : GroupShape) (agg : Reducer) (rows : List RowAt) (place : ℕ) (more : List Row) (ats : List ℕ) (new : List Row) → NumbersAll (distinct_keys shape rows) (map (cells_at shape.keys) more) ats new → HasKeysEachOnce new
    → length (distinct_keys shape rows) ≤ length new
    → with_group_rows agg.op (with_groups (length new) (map (kept_at shape rows agg) (distinct_keys shape rows))) (group_rows place ats (map (value_in agg.column) more)) ≡ map (kept_at shape (rows ++ placed_rows place more) agg) new
rows_taken shape agg rows place more ats new all once longer =
    ext_get_or None (with_group_rows agg.op (with_groups (length new) (map f old)) put) (map (kept_at shape (rows ++ placed_rows place more) agg) new) (len ∙ sym (length-map new (kept_at shape (rows ++ placed_rows place more) agg))) (λ g within. at g (omega (arith, within, len)))
  where
    old : List Row
    old = distinct_keys shape rows

    f : Row → Option Entry
    f = kept_at shape rows agg

    put : List GroupRow
    put = group_rows place ats (map (value_in agg.column) more)

    grown_len : length (with_groups (length new) (map f old)) ≡ length new
    grown_len = let a = length-append (map f old) (replicate (length new - length (map f old)) None) in let b = length-map old f in let c = length-replicate {A = Option Entry} (length new - length (map f old)) None in omega (arith, a, b, c, longer)

    len : length (with_group_rows agg.op (with_groups (length new) (map f old)) put) ≡ length new
    len = length-with_group_rows agg.op (with_groups (length new) (map f old)) put ∙ grown_len

    at : (g : ℕ) → g < length new → get_or (with_group_rows agg.op (with_groups (length new) (map f old)) put) g None ≡ get_or (map (kept_at shape (rows ++ placed_rows place more) agg) new) g None
    at g within =
        keeps_groups agg.op (with_groups (length new) (map f old)) put g (omega (arith, within, grown_len))
        ∙ ap (λ e. both_parts (plus_entries agg.op) e (entry_of agg.op (group_values g put))) (grown_at f old new g (λ k v e. numbers_all_keep old (map (cells_at shape.keys) more) ats new k v all e) once (λ key absent. keeps_nothing shape rows agg key absent) within longer)
        ∙ ap (λ vs. both_parts (plus_entries agg.op) (f (get_or new g [])) (entry_of agg.op vs)) (rows_of_group shape agg new g (get_or new g []) place more ats once (slice_of new g within) (numbered old (map (cells_at shape.keys) more) ats new all))
        ∙ sym (merges_kept shape rows (placed_rows place more) agg (get_or new g []))
        ∙ sym (get_or-map (kept_at shape (rows ++ placed_rows place more) agg) new g [] None within)

once_tail : (k : Row) (ks : List Row) → HasKeysEachOnce (k ∷ ks) → HasKeysEachOnce ks
once_tail k ks once = λ i j key e f. let same = once (suc i) (suc j) key e f in omega (arith, same)

not_in_tail : (k : Row) (ks : List Row) (key : Row) → HasKeysEachOnce (k ∷ ks) → k ≡ key → is_among key ks ≡ false
not_in_tail k ks key once is = elim (cases_Bool (is_among key ks)) as (λ _. is_among key ks ≡ false) [
  | inl t ↦ let there = among_at ks key t in let same = once zero (suc there.0) key (ap Some is) there.1 in absurd (omega (arith, same))
  | inr f ↦ f
]

-- what is put to a group is what the one of its key has
pub part_of_key : (op : Reduction) (f : Row → Option Entry) (keys : List Row) (g : ℕ) (key : Row) (ks : List Row) (ats : List ℕ) → HasKeysEachOnce keys → slice_get keys g ≡ Some key → HasKeysEachOnce ks
    → AreNumbered keys ks ats → group_part op g ats (map f ks) ≡ (if is_among key ks then f key else None)
part_of_key op f keys g key [] [] once here each all = refl
part_of_key op f keys g key [] (at ∷ ats) once here each all = absurd all
part_of_key op f keys g key (k ∷ ks) [] once here each all = absurd all
part_of_key op f keys g key (k ∷ ks) (at ∷ ats) once here each (first, later) =
    ap (λ t. both_parts (plus_entries op) (if t then f k else None) (group_part op g ats (map f ks))) (row_of_group keys g at key k once here first)
    ∙ ap (both_parts (plus_entries op) (if same_key key k then f k else None)) (part_of_key op f keys g key ks ats once here (once_tail k ks each) later)
    ∙ by (same_key key k) refl
  where
    by : (t : Bool) → same_key key k ≡ t → both_parts (plus_entries op) (if t then f k else None) (if is_among key ks then f key else None) ≡ (if (if t then true else is_among key ks) then f key else None)
    by true q =
        let is : k ≡ key = sym (same_key-only key k q) in
        ap (λ t. both_parts (plus_entries op) (f k) (if t then f key else None)) (not_in_tail k ks key each is) ∙ both_parts-none (plus_entries op) (f k) ∙ ap f is
    by false q = refl

distinct_once : (shape : GroupShape) (rows : List RowAt) → HasKeysEachOnce (distinct_keys shape rows)
distinct_once shape rows = arrived-once [] (map (λ r. cells_at shape.keys r.row) rows) none_once

-- groups that are put to those of others leave what is kept of the rows of both
pub groups_merged : (shape : GroupShape) (agg : Reducer) (rows more : List RowAt) (ats : List ℕ) (new : List Row) → NumbersAll (distinct_keys shape rows) (distinct_keys shape more) ats new → HasKeysEachOnce new
    → length (distinct_keys shape rows) ≤ length new
    → with_group_parts agg.op (with_groups (length new) (map (kept_at shape rows agg) (distinct_keys shape rows))) ats (map (kept_at shape more agg) (distinct_keys shape more)) ≡ map (kept_at shape (rows ++ more) agg) new
groups_merged shape agg rows more ats new all once longer =
    ext_get_or None (with_group_parts agg.op (with_groups (length new) (map f old)) ats parts) (map (kept_at shape (rows ++ more) agg) new) (len ∙ sym (length-map new (kept_at shape (rows ++ more) agg))) (λ g within. at g (omega (arith, within, len)))
  where
    old : List Row
    old = distinct_keys shape rows

    f : Row → Option Entry
    f = kept_at shape rows agg

    parts : List (Option Entry)
    parts = map (kept_at shape more agg) (distinct_keys shape more)

    grown_len : length (with_groups (length new) (map f old)) ≡ length new
    grown_len = let a = length-append (map f old) (replicate (length new - length (map f old)) None) in let b = length-map old f in let c = length-replicate {A = Option Entry} (length new - length (map f old)) None in omega (arith, a, b, c, longer)

    len : length (with_group_parts agg.op (with_groups (length new) (map f old)) ats parts) ≡ length new
    len = length-with_group_parts agg.op (with_groups (length new) (map f old)) ats parts ∙ grown_len

    own : (key : Row) (t : Bool) → is_among key (distinct_keys shape more) ≡ t → (if t then kept_at shape more agg key else None) ≡ kept_at shape more agg key
    own key true q = refl
    own key false q = sym (keeps_nothing shape more agg key (new_of_not_among (distinct_keys shape more) key q))

    at : (g : ℕ) → g < length new → get_or (with_group_parts agg.op (with_groups (length new) (map f old)) ats parts) g None ≡ get_or (map (kept_at shape (rows ++ more) agg) new) g None
    at g within =
        let key = get_or new g [] in
        keeps_group_parts agg.op (with_groups (length new) (map f old)) ats parts g (omega (arith, within, grown_len))
        ∙ ap (λ e. both_parts (plus_entries agg.op) e (group_part agg.op g ats parts)) (grown_at f old new g (λ k v e. numbers_all_keep old (distinct_keys shape more) ats new k v all e) once (λ k absent. keeps_nothing shape rows agg k absent) within longer)
        ∙ ap (both_parts (plus_entries agg.op) (f key)) (part_of_key agg.op (kept_at shape more agg) new g key (distinct_keys shape more) ats once (slice_of new g within) (distinct_once shape more) (numbered old (distinct_keys shape more) ats new all) ∙ own key (is_among key (distinct_keys shape more)) refl)
        ∙ sym (merges_kept shape rows more agg key)
        ∙ sym (get_or-map (kept_at shape (rows ++ more) agg) new g [] None within)

pub placed_keys : (shape : GroupShape) (place : ℕ) (more : List Row) → map (λ r. cells_at shape.keys r.row) (placed_rows place more) ≡ map (cells_at shape.keys) more
placed_keys shape place [] = refl
placed_keys shape place (row ∷ more) = ap (λ ks. cells_at shape.keys row ∷ ks) (placed_keys shape (place + 1) more)

pub numbers_keys : NumbersKeys
numbers_keys shape rows place more numbers keys all =
    numbers_arrived (distinct_keys shape rows) (map (cells_at shape.keys) more) numbers keys all
    ∙ sym (ap (arrived []) (map-append (λ (r : RowAt). cells_at shape.keys r.row) rows (placed_rows place more))
    ∙ arrived-append [] (map (λ r. cells_at shape.keys r.row) rows) (map (λ r. cells_at shape.keys r.row) (placed_rows place more))
    ∙ ap (arrived (distinct_keys shape rows)) (placed_keys shape place more))

pub takes_rows : TakesMoreRows
takes_rows shape agg rows place more numbers keys all =
    let is = numbers_arrived (distinct_keys shape rows) (map (cells_at shape.keys) more) numbers keys all in
    rows_taken shape agg rows place more numbers keys all
    (subst HasKeysEachOnce (sym is) (arrived-once (distinct_keys shape rows) (map (cells_at shape.keys) more) (distinct_once shape rows)))
    (subst (λ (ks : List Row). length (distinct_keys shape rows) ≤ length ks) (sym is) (arrived-longer (distinct_keys shape rows) (map (cells_at shape.keys) more)))

pub numbers_others : NumbersOthers
numbers_others shape rows more numbers keys all = numbers_arrived (distinct_keys shape rows) (distinct_keys shape more) numbers keys all ∙ sym (merges_keys shape rows more)

pub takes_others : TakesOthers
takes_others shape agg rows more numbers keys all =
    let is = numbers_arrived (distinct_keys shape rows) (distinct_keys shape more) numbers keys all in
    groups_merged shape agg rows more numbers keys all
    (subst HasKeysEachOnce (sym is) (arrived-once (distinct_keys shape rows) (distinct_keys shape more) (distinct_once shape rows)))
    (subst (λ (ks : List Row). length (distinct_keys shape rows) ≤ length ks) (sym is) (arrived-longer (distinct_keys shape rows) (distinct_keys shape more)))
