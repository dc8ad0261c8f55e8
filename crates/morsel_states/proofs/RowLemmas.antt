-- Rows of groups that are put to what is kept, one after the other.
use Rattle.std.proofs.Common.{◌≡◌, ◌<◌, ◌++◌, [], ◌∷◌, List, ℕ, zero, suc, ◌+◌, length, take, drop, slice_get, get_or, set, None, Some, refl, arith, ap, ◌∙◌, sym, Bool, true, false, if◌then◌else◌, map, ◌≤◌, ◌-◌, max, ℤ, pos, subst, replicate, append_assoc}
use Rattle.std.specs.Prelude.{Option, nat_eq, Err}
use Rattle.std.specs.List.{All}
use Rattle.std.proofs.lemmas.Option.{get_or_from_slice_get}
use Rattle.std.proofs.lemmas.List.{take_more, length-set, get_or-set_same, get_or-set_other, get_or_default, length-map, append-nil, map-append, replicate-append-replicate}
use Rattle.std.proofs.lemmas.List.Elements.{All-get_or}
use Rattle.std.proofs.Math.Seq.{take-length, take-append_seam}
use Rattle.morsel_meaning.specs.declared.fault.Fault.{Fault}
use Rattle.morsel_meaning.specs.declared.fault.Fault.TheVariants.{ComputeError}
use Rattle.morsel_meaning.specs.declared.fault.ComputeKind.TheVariants.{LenTooLarge}
use Rattle.morsel_meaning.specs.declared.value.Value.{Value}
use Rattle.morsel_meaning.specs.declared.value.Value.TheVariants as values
use Rattle.morsel_keys.specs.declared.reduction.Reduction.{Reduction}
use Rattle.morsel_keys.specs.Groups.{both_parts}
use Rattle.morsel_frame.specs.Refusals.{Refuses}
use Rattle.morsel_frame.specs.Columns.{masked}
use Rattle.morsel_frame.proofs.ColumnLemmas.{length-masked, map-replicate}
use Rattle.morsel_keys.specs.Reductions.{ValueAt, Entry, Reducing, one_entry, plus_entries, entry_of, entry_len, len_limit, len_fault}
use Rattle.morsel_keys.proofs.GroupLemmas.{both_parts-assoc, both_parts-none}
use Rattle.morsel_keys.proofs.ReductionLemmas.{plus_entries-assoc}
use Rattle.morsel_states.specs.GroupRows.{GroupRow, group_rows, group_values, with_value, with_group_row, with_group_rows, StopsRows, KeepsGroups}
use Rattle.morsel_states.specs.States.{with_groups}

-- a row of a group
abbrev pub row_of : ℕ → ℕ → Value → GroupRow
row_of group at v = record { group = group; valued = record { at = at; value = v } }

-- the row at a place of a piece
abbrev pub row_at : ℕ → List ℕ → List Value → ℕ → GroupRow
row_at at groups vs i = row_of (get_or groups i 0) (at + i) (get_or vs i values.Null)

pub group_rows-get : (at : ℕ) (groups : List ℕ) (vs : List Value) (i : ℕ) → length vs ≡ length groups → i < length groups → slice_get (group_rows at groups vs) i ≡ Some (row_at at groups vs i)
group_rows-get at [] vs i same within = absurd (omega (arith, within))
group_rows-get at (group ∷ groups) [] i same within = absurd (omega (arith, same))
group_rows-get at (group ∷ groups) (v ∷ vs) zero same within = let n : at ≡ at + 0 = omega arith in ap (λ k. Some (row_of group k v)) n
group_rows-get at (group ∷ groups) (v ∷ vs) (suc i) same within =
    let n : at + 1 + i ≡ at + (suc i) = omega arith in
    group_rows-get (at + 1) groups vs i (omega (arith, same)) (omega (arith, within)) ∙ ap (λ k. Some (row_of (get_or groups i 0) k (get_or vs i values.Null))) n

pub length-group_rows : (at : ℕ) (groups : List ℕ) (vs : List Value) → length vs ≡ length groups → length (group_rows at groups vs) ≡ length groups
length-group_rows at [] vs same = refl
length-group_rows at (group ∷ groups) [] same = absurd (omega (arith, same))
length-group_rows at (group ∷ groups) (v ∷ vs) same = ap suc (length-group_rows (at + 1) groups vs (omega (arith, same)))

pub with_group_rows-append : (op : Reduction) (entries : List (Option Entry)) (rows more : List GroupRow) → with_group_rows op entries (rows ++ more) ≡ with_group_rows op (with_group_rows op entries rows) more
with_group_rows-append op entries [] more = refl
with_group_rows-append op entries (row ∷ rows) more = with_group_rows-append op (with_group_row op entries row) rows more

pub length-with_group_rows : (op : Reduction) (entries : List (Option Entry)) (rows : List GroupRow) → length (with_group_rows op entries rows) ≡ length entries
length-with_group_rows op entries [] = refl
length-with_group_rows op entries (row ∷ rows) = length-with_group_rows op (with_group_row op entries row) rows ∙ length-set entries row.group _

-- one row more of a piece
pub rows_step : (op : Reduction) (entries : List (Option Entry)) (at : ℕ) (groups : List ℕ) (vs : List Value) (i : ℕ) → length vs ≡ length groups → i < length groups
    → with_group_rows op entries (take (i + 1) (group_rows at groups vs)) ≡ with_group_row op (with_group_rows op entries (take i (group_rows at groups vs))) (row_at at groups vs i)
rows_step op entries at groups vs i same within =
    let rows = group_rows at groups vs in
    let row = row_at at groups vs i in
    let here : i < length rows = omega (arith, within, length-group_rows at groups vs same) in
    let more : take (i + 1) rows ≡ take i rows ++ row ∷ [] = take_more rows i row here ∙ ap (λ x. take i rows ++ x ∷ []) (get_or_from_slice_get rows i row row (group_rows-get at groups vs i same within)) in
    ap (with_group_rows op entries) more ∙ with_group_rows-append op entries (take i rows) (row ∷ [])

-- an entry with a value and then those that follow
value_then : (op : Reduction) (entry : Option Entry) (v : ValueAt) (vs : List ValueAt)
    → both_parts (plus_entries op) (with_value op entry v) (entry_of op vs) ≡ both_parts (plus_entries op) entry (entry_of op (v ∷ vs))
value_then op entry v vs = sym (both_parts-assoc (plus_entries op) (plus_entries-assoc op) entry (Some (one_entry op v)) (entry_of op vs))

group_step : (op : Reduction) (entries : List (Option Entry)) (row : GroupRow) (group : ℕ) (t : Bool) (vs : List ValueAt) → nat_eq row.group group ≡ t → group < length entries
    → both_parts (plus_entries op) (get_or (with_group_row op entries row) group None) (entry_of op vs) ≡ both_parts (plus_entries op) (get_or entries group None) (entry_of op (if t then row.valued ∷ vs else vs))
group_step op entries row group true vs e within =
    let same : group ≡ row.group = grind (arith, e) in
    let put : get_or (with_group_row op entries row) group None ≡ with_value op (get_or entries group None) row.valued = rw same (get_or-set_same entries row.group (with_value op (get_or entries row.group None) row.valued) None (omega (arith, within, same))) in
    ap (λ x. both_parts (plus_entries op) x (entry_of op vs)) put ∙ value_then op (get_or entries group None) row.valued vs
group_step op entries row group false vs e within =
    ap (λ x. both_parts (plus_entries op) x (entry_of op vs)) (get_or-set_other entries row.group group (with_value op (get_or entries row.group None) row.valued) None (λ same. grind (arith, e, same)))

pub keeps_groups : KeepsGroups
keeps_groups op entries [] group within = sym (both_parts-none (plus_entries op) (get_or entries group None))
keeps_groups op entries (row ∷ rows) group within =
    keeps_groups op (with_group_row op entries row) rows group (omega (arith, within, length-set entries row.group (with_value op (get_or entries row.group None) row.valued)))
    ∙ group_step op entries row group (nat_eq row.group group) (group_values group rows) refl within

-- one row more, as the code writes it
pub step_done : (op : Reduction) (old now : List (Option Entry)) (at : ℕ) (groups : List ℕ) (vs : List Value) (i g : ℕ) (d e : Option Entry) → length vs ≡ length groups → i < length groups
    → g ≡ get_or groups i 0 → g < length now → e ≡ with_value op (get_or now g d) (record { at = at + i; value = get_or vs i values.Null })
    → now ≡ with_group_rows op old (take i (group_rows at groups vs)) → set now g e ≡ with_group_rows op old (take (i + 1) (group_rows at groups vs))
step_done op old now at groups vs i g d e same within is_group is_there is_next done =
    let held : get_or now g d ≡ get_or now g None = get_or_default now g d None is_there in
    let next : e ≡ with_value op (get_or now g None) (record { at = at + i; value = get_or vs i values.Null }) = is_next ∙ ap (λ x. with_value op x (record { at = at + i; value = get_or vs i values.Null })) held in
    ap (set now g) next
    ∙ ap (λ n. set now n (with_value op (get_or now n None) (record { at = at + i; value = get_or vs i values.Null }))) is_group
    ∙ ap (λ entries. with_group_row op entries (row_at at groups vs i)) done
    ∙ sym (rows_step op old at groups vs i same within)

-- a row that is refused
pub stops_at : (op : Reduction) (old now : List (Option Entry)) (at : ℕ) (groups : List ℕ) (vs : List Value) (i g : ℕ) (d : Option Entry) (fault : Fault) → length vs ≡ length groups → i < length groups
    → g ≡ get_or groups i 0 → g < length now → Refuses {T = Unit {0}} (len_fault (entry_len (get_or now g d) + 1)) (Err fault)
    → now ≡ with_group_rows op old (take i (group_rows at groups vs)) → StopsRows op old (group_rows at groups vs) fault now
stops_at op old now at groups vs i g d fault same within is_group is_there refused done =
    let held : get_or now g d ≡ get_or now (get_or groups i 0) None = get_or_default now g d None is_there ∙ ap (λ n. get_or now n None) is_group in
    record {
      at = i;
      row = row_at at groups vs i;
      stopped = group_rows-get at groups vs i same within;
      before = done;
      refused = subst (λ x. Refuses {T = Unit {0}} (len_fault (entry_len x + 1)) (Err fault)) held refused;
    }

-- the fault of a full group is due
pub full_refuses : (e : Option Entry) (fault : Fault) → entry_len e ≡ len_limit → fault ≡ ComputeError LenTooLarge 4294967295 0 → Refuses {T = Unit {0}} (len_fault (entry_len e + 1)) (Err fault)
full_refuses e fault full is_fault =
    let due : len_fault (entry_len e + 1) ≡ Some (ComputeError LenTooLarge 4294967295 0) = ap (λ n. len_fault (n + 1)) full in
    subst (λ (f : Fault). Refuses {T = Unit {0}} (len_fault (entry_len e + 1)) (Err f)) (sym is_fault) due

-- all rows of a piece
pub rows_done : (op : Reduction) (old now : List (Option Entry)) (at : ℕ) (groups : List ℕ) (vs : List Value) (i : ℕ) → length vs ≡ length groups → i ≡ length groups
    → now ≡ with_group_rows op old (take i (group_rows at groups vs)) → now ≡ with_group_rows op old (group_rows at groups vs)
rows_done op old now at groups vs i same all done =
    let rows = group_rows at groups vs in
    let whole : i ≡ length rows = all ∙ sym (length-group_rows at groups vs same) in
    done ∙ ap (with_group_rows op old) (ap (λ n. take n rows) whole ∙ take-length rows)

-- a value of a column of numbers
pub masked_at : (valid : List Bool) (numbers : List ℤ) (i : ℕ) → length numbers ≡ length valid → i < length valid
    → (if get_or valid i false then values.Int (get_or numbers i (pos 0)) else values.Null) ≡ get_or (masked valid (map values.Int numbers)) i values.Null
masked_at [] numbers i same within = absurd (omega (arith, within))
masked_at (b ∷ valid) [] i same within = absurd (omega (arith, same))
masked_at (b ∷ valid) (n ∷ numbers) zero same within = refl
masked_at (b ∷ valid) (n ∷ numbers) (suc i) same within = masked_at valid numbers i (omega (arith, same)) (omega (arith, within))

pub masked_len : (valid : List Bool) (numbers : List ℤ) (count : ℕ) → length valid ≡ count → length numbers ≡ count → length (masked valid (map values.Int numbers)) ≡ count
masked_len valid numbers count here there = length-masked valid (map values.Int numbers) (length-map numbers values.Int ∙ there ∙ sym here) ∙ here

-- one row more of numbers, as the code writes it
pub number_done : (op : Reduction) (old now : List (Option Entry)) (at : ℕ) (groups : List ℕ) (valid : List Bool) (numbers : List ℤ) (i : ℕ) (d e : Option Entry) (v : ValueAt)
    → length valid ≡ length groups → length numbers ≡ length groups → All (λ g. g < length old) groups → i < length groups → length now ≡ length old
    → e ≡ with_value op (get_or now (get_or groups i 0) d) v → v.at ≡ at + i → v.value ≡ (if get_or valid i false then values.Int (get_or numbers i (pos 0)) else values.Null)
    → now ≡ with_group_rows op old (take i (group_rows at groups (masked valid (map values.Int numbers)))) → set now (get_or groups i 0) e ≡ with_group_rows op old (take (i + 1) (group_rows at groups (masked valid (map values.Int numbers))))
number_done op old now at groups valid numbers i d e v here there within before same is_next is_at is_value done =
    let vs = masked valid (map values.Int numbers) in
    let is_there : get_or groups i 0 < length old = All-get_or (λ g. g < length old) groups i 0 before within in
    let value = is_value ∙ masked_at valid numbers i (there ∙ sym here) (omega (arith, before, here)) in
    step_done op old now at groups vs i (get_or groups i 0) d e (masked_len valid numbers (length groups) here there) before refl (omega (arith, is_there, same))
    (is_next ∙ ap (λ n. with_value op (get_or now (get_or groups i 0) d) (record { at = n; value = v.value })) is_at ∙ ap (λ w. with_value op (get_or now (get_or groups i 0) d) (record { at = at + i; value = w })) value) done

-- a row of numbers that is refused, since its group is full
pub number_stops : (op : Reduction) (old now : List (Option Entry)) (at : ℕ) (groups : List ℕ) (valid : List Bool) (numbers : List ℤ) (i : ℕ) (d : Option Entry) (fault : Fault)
    → length valid ≡ length groups → length numbers ≡ length groups → All (λ g. g < length old) groups → i < length groups → length now ≡ length old
    → entry_len (get_or now (get_or groups i 0) d) ≡ len_limit → fault ≡ ComputeError LenTooLarge 4294967295 0
    → now ≡ with_group_rows op old (take i (group_rows at groups (masked valid (map values.Int numbers)))) → StopsRows op old (group_rows at groups (masked valid (map values.Int numbers))) fault now
number_stops op old now at groups valid numbers i d fault here there within before same full is_fault done =
    let is_there : get_or groups i 0 < length old = All-get_or (λ g. g < length old) groups i 0 before within in
    stops_at op old now at groups (masked valid (map values.Int numbers)) i (get_or groups i 0) d fault (masked_len valid numbers (length groups) here there) before refl (omega (arith, is_there, same))
    (full_refuses (get_or now (get_or groups i 0) d) fault full is_fault) done

-- all rows of numbers
pub numbers_done : (op : Reduction) (old now : List (Option Entry)) (at : ℕ) (groups : List ℕ) (valid : List Bool) (numbers : List ℤ) (i : ℕ) → length valid ≡ length groups → length numbers ≡ length groups → i ≡ length groups
    → now ≡ with_group_rows op old (take i (group_rows at groups (masked valid (map values.Int numbers)))) → now ≡ with_group_rows op old (group_rows at groups (masked valid (map values.Int numbers)))
numbers_done op old now at groups valid numbers i here there all done = rows_done op old now at groups (masked valid (map values.Int numbers)) i (masked_len valid numbers (length groups) here there) all done

-- more of the same at the end of a list
pub one_more : {X : Type 0} (xs : List X) (x : X) (at : ℕ) → length xs ≤ at → xs ++ replicate (at - length xs) x ++ x ∷ [] ≡ xs ++ replicate (at + 1 - length xs) x
one_more xs x at l =
    let n : at - length xs + 1 ≡ at + 1 - length xs = omega (arith, l) in
    append_assoc xs (replicate (at - length xs) x) (x ∷ []) ∙ ap (λ ys. xs ++ ys) (replicate-append-replicate (at - length xs) 1 x ∙ ap (λ m. replicate m x) n)

pub none_more : {X : Type 0} (xs : List X) (x : X) → xs ++ replicate (length xs - length xs) x ≡ xs
none_more xs x = let none : length xs - length xs ≡ 0 = omega arith in ap (λ n. xs ++ replicate n x) none ∙ append-nil xs

-- no more, where there are enough
pub enough : {X : Type 0} (xs : List X) (x : X) (count at : ℕ) → count ≤ at → at ≤ max (length xs) count → xs ++ replicate (at - length xs) x ≡ xs ++ replicate (count - length xs) x
enough xs x count at l m = let n : at - length xs ≡ count - length xs = omega (arith, l, m) in ap (λ k. xs ++ replicate k x) n

-- accumulators without values at the end
pub entries_more : (accs : List Reducing) (blank : Reducing) (count : ℕ) → blank.entry ≡ None → map (λ acc. acc.entry) (accs ++ replicate (count - length accs) blank) ≡ with_groups count (map (λ acc. acc.entry) accs)
entries_more accs blank count none =
    map-append (λ acc. acc.entry) accs (replicate (count - length accs) blank)
    ∙ ap (λ es. map (λ acc. acc.entry) accs ++ es) (map-replicate (λ acc. acc.entry) (count - length accs) blank ∙ ap (λ e. replicate (count - length accs) e) none)
    ∙ ap (λ n. map (λ acc. acc.entry) accs ++ replicate (count - n) None) (sym (length-map accs (λ acc. acc.entry)))

-- what an accumulator keeps of a row
pub acc_step : (op : Reduction) (acc next : Reducing) (p q : ℕ) (v w : Value) → acc.op ≡ op → next ≡ record acc { entry = both_parts (plus_entries acc.op) acc.entry (Some (one_entry acc.op (record { at = p; value = v }))) } → p ≡ q → v ≡ w
    → next.entry ≡ with_value op acc.entry (record { at = q; value = w })
acc_step op acc next p q v w same_op is_next same_place same_value =
    ap (λ a. a.entry) is_next
    ∙ ap (λ o. with_value o acc.entry (record { at = p; value = v })) same_op
    ∙ ap (λ n. with_value op acc.entry (record { at = n; value = v })) same_place
    ∙ ap (λ x. with_value op acc.entry (record { at = q; value = x })) same_value

-- a vector whose items were all written
pub all_written : {X : Type 0} (count : ℕ) (xs ys : List X) → count ≡ length xs → take count (xs ++ drop (length xs) ys) ≡ xs
all_written count xs ys same = ap (λ n. take n (xs ++ drop (length xs) ys)) same ∙ take-append_seam xs (drop (length xs) ys)
