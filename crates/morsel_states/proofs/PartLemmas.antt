-- What others have of groups, put to what is kept, one after the other.
use Rattle.std.proofs.Common.{◌≡◌, ◌≢◌, ◌<◌, ◌≤◌, ◌++◌, [], ◌∷◌, List, ℕ, ◌+◌, length, take, get_or, set, map, None, Some, refl, arith, ap, ◌∙◌, sym, Bool, true, false, if◌then◌else◌, All, subst, nat_lt}
use Rattle.std.specs.Prelude.{Option, nat_eq, Err}
use Rattle.std.proofs.lemmas.List.{take_more, length-take-le, length-set, length-append, get_or-set_same, get_or-set_other, get_or_default, get_or-map, length-map, map-set, map-append, set-get_or}
use Rattle.std.proofs.Math.ListN.{get_or-map as math-get_or-map}
use Rattle.std.proofs.Math.Seq.{take-append_seam, get_or-append_seam}
use Rattle.std.proofs.lemmas.List.Elements.{All-get_or, All-push}
use Rattle.morsel_meaning.specs.declared.fault.Fault.{Fault}
use Rattle.morsel_meaning.specs.declared.fault.Fault.TheVariants.{ComputeError}
use Rattle.morsel_meaning.specs.declared.fault.ComputeKind.TheVariants.{LenTooLarge}
use Rattle.morsel_frame.specs.Refusals.{Refuses}
use Rattle.morsel_keys.specs.declared.reduction.Reduction.{Reduction}
use Rattle.morsel_keys.specs.Groups.{both_parts}
use Rattle.morsel_keys.specs.declared.reduction.Reduction.TheVariants as ops
use Rattle.morsel_keys.specs.Reductions.{Entry, ValueAt, one_entry, plus_entries, entry_len, len_limit, len_fault}
use Rattle.morsel_keys.proofs.GroupLemmas.{both_parts-assoc, both_parts-none}
use Rattle.morsel_keys.proofs.ReductionLemmas.{plus_entries-assoc}
use Rattle.morsel_states.specs.GroupRows.{with_value}
use Rattle.morsel_states.specs.GroupParts.{with_group_part, with_group_parts, group_part, StopsParts, AreWithinLimit, KeepsGroupParts}

pub length-with_group_parts : (op : Reduction) (entries : List (Option Entry)) (groups : List ℕ) (parts : List (Option Entry)) → length (with_group_parts op entries groups parts) ≡ length entries
length-with_group_parts op entries [] parts = refl
length-with_group_parts op entries (group ∷ groups) [] = refl
length-with_group_parts op entries (group ∷ groups) (part ∷ parts) = length-with_group_parts op (with_group_part op entries group part) groups parts ∙ length-set entries group _

pub with_group_parts-push : (op : Reduction) (entries : List (Option Entry)) (groups : List ℕ) (parts : List (Option Entry)) (g : ℕ) (p : Option Entry) → length parts ≡ length groups
    → with_group_parts op entries (groups ++ g ∷ []) (parts ++ p ∷ []) ≡ with_group_part op (with_group_parts op entries groups parts) g p
with_group_parts-push op entries [] [] g p same = refl
with_group_parts-push op entries [] (part ∷ parts) g p same = absurd (omega (arith, same))
with_group_parts-push op entries (group ∷ groups) [] g p same = absurd (omega (arith, same))
with_group_parts-push op entries (group ∷ groups) (part ∷ parts) g p same = with_group_parts-push op (with_group_part op entries group part) groups parts g p (omega (arith, same))

part_step : (op : Reduction) (entries : List (Option Entry)) (g : ℕ) (part : Option Entry) (group : ℕ) (t : Bool) (rest : Option Entry) → nat_eq g group ≡ t → group < length entries
    → both_parts (plus_entries op) (get_or (with_group_part op entries g part) group None) rest ≡ both_parts (plus_entries op) (get_or entries group None) (both_parts (plus_entries op) (if t then part else None) rest)
part_step op entries g part group true rest e within =
    let same : group ≡ g = grind (arith, e) in
    let put : get_or (with_group_part op entries g part) group None ≡ both_parts (plus_entries op) (get_or entries group None) part = rw same (get_or-set_same entries g (both_parts (plus_entries op) (get_or entries g None) part) None (omega (arith, within, same))) in
    ap (λ x. both_parts (plus_entries op) x rest) put ∙ sym (both_parts-assoc (plus_entries op) (plus_entries-assoc op) (get_or entries group None) part rest)
part_step op entries g part group false rest e within =
    ap (λ x. both_parts (plus_entries op) x rest) (get_or-set_other entries g group (both_parts (plus_entries op) (get_or entries g None) part) None (λ same. grind (arith, e, same)))

pub keeps_group_parts : KeepsGroupParts
keeps_group_parts op entries [] parts group within = sym (both_parts-none (plus_entries op) (get_or entries group None))
keeps_group_parts op entries (g ∷ groups) [] group within = sym (both_parts-none (plus_entries op) (get_or entries group None))
keeps_group_parts op entries (g ∷ groups) (part ∷ parts) group within =
    keeps_group_parts op (with_group_part op entries g part) groups parts group (omega (arith, within, length-set entries g (both_parts (plus_entries op) (get_or entries g None) part)))
    ∙ part_step op entries g part group (nat_eq g group) (group_part op group groups parts) refl within

-- one more, as the code writes it
pub parts_step : (op : Reduction) (old now : List (Option Entry)) (groups : List ℕ) (parts : List (Option Entry)) (i : ℕ) (d e p : Option Entry) → length parts ≡ i → i < length groups → get_or groups i 0 < length now
    → e ≡ both_parts (plus_entries op) (get_or now (get_or groups i 0) d) p → now ≡ with_group_parts op old (take i groups) parts → set now (get_or groups i 0) e ≡ with_group_parts op old (take (i + 1) groups) (parts ++ p ∷ [])
parts_step op old now groups parts i d e p len within there is_next done =
    let g = get_or groups i 0 in
    let short : length (take i groups) ≡ i = length-take-le i groups (omega (arith, within)) in
    ap (set now g) (is_next ∙ ap (λ x. both_parts (plus_entries op) x p) (get_or_default now g d None there))
    ∙ ap (λ es. with_group_part op es g p) done
    ∙ sym (ap (λ gs. with_group_parts op old gs (parts ++ p ∷ [])) (take_more groups i 0 within) ∙ with_group_parts-push op old (take i groups) parts g p (len ∙ sym short))

-- what there are in two parts together
pub entry_len-both : (op : Reduction) (a b : Option Entry) → entry_len (both_parts (plus_entries op) a b) ≡ entry_len a + entry_len b
entry_len-both op None b = omega arith
entry_len-both op (Some a) None = omega arith
entry_len-both op (Some a) (Some b) = refl

-- what is not refused is within the limit
pub len_within : (n : ℕ) → len_fault n ≡ None → n ≤ len_limit
len_within n e = by (nat_lt len_limit n) refl e
  where
    by : (t : Bool) → nat_lt len_limit n ≡ t → (if t then Some (ComputeError LenTooLarge 4294967295 0) else None) ≡ None → n ≤ len_limit
    by true q e = absurd (none_is_some e)
      where
        none_is_some : Some (ComputeError LenTooLarge 4294967295 0) ≡ None → ⊥
        none_is_some e = cc
    by false q e = grind (arith, q)

room_kept : (now : List (Option Entry)) (g h : ℕ) (e : Option Entry) (t : Bool) → nat_eq h g ≡ t → g < length now → entry_len e ≤ len_limit → entry_len (get_or now h None) ≤ len_limit → entry_len (get_or (set now g e) h None) ≤ len_limit
room_kept now g h e true q there low held =
    let same : h ≡ g = grind (arith, q) in
    subst (λ n. entry_len (get_or (set now g e) n None) ≤ len_limit) (sym same) (subst (λ x. entry_len x ≤ len_limit) (sym (get_or-set_same now g e None there)) low)
room_kept now g h e false q there low held = subst (λ x. entry_len x ≤ len_limit) (sym (get_or-set_other now g h e None (λ same. grind (arith, q, same)))) held

-- room for one more group
pub room_set : (groups : List ℕ) (now : List (Option Entry)) (g : ℕ) (e : Option Entry) → g < length now → entry_len e ≤ len_limit → AreWithinLimit groups now → AreWithinLimit (groups ++ g ∷ []) (set now g e)
room_set groups now g e there low room = All-push (λ group. entry_len (get_or (set now g e) group None) ≤ len_limit) groups g
    (λ k d within. room_kept now g (get_or groups k d) e (nat_eq (get_or groups k d) g) refl there low (room k d within))
    (subst (λ x. entry_len x ≤ len_limit) (sym (get_or-set_same now g e None there)) low)

-- room for one more group of a list, as the code writes it
pub room_step : (groups : List ℕ) (now : List (Option Entry)) (i : ℕ) (e : Option Entry) → i < length groups → get_or groups i 0 < length now → entry_len e ≤ len_limit → AreWithinLimit (take i groups) now → AreWithinLimit (take (i + 1) groups) (set now (get_or groups i 0) e)
room_step groups now i e within there low room = subst (λ gs. AreWithinLimit gs (set now (get_or groups i 0) e)) (sym (take_more groups i 0 within)) (room_set (take i groups) now (get_or groups i 0) e there low room)

-- one that was not refused has room
pub low_of_joined : (op : Reduction) (a b e : Option Entry) → len_fault (entry_len a + entry_len b) ≡ None → e ≡ both_parts (plus_entries op) a b → entry_len e ≤ len_limit
low_of_joined op a b e due is = subst (λ n. n ≤ len_limit) (sym (ap entry_len is ∙ entry_len-both op a b)) (len_within (entry_len a + entry_len b) due)

-- one value more is within the limit where there was room
pub low_of_counted : (now : List (Option Entry)) (g : ℕ) (d f e : Option Entry) (v : ValueAt) → g < length now → entry_len (get_or now g d) ≤ len_limit → entry_len (get_or now g d) ≢ len_limit → e ≡ with_value ops.Len (get_or now g f) v → entry_len e ≤ len_limit
low_of_counted now g d f e v there within other is =
    let same : get_or now g f ≡ get_or now g d = get_or_default now g f d there in
    let len : entry_len e ≡ entry_len (get_or now g d) + 1 = ap entry_len is ∙ entry_len-both ops.Len (get_or now g f) (Some (one_entry ops.Len v)) ∙ ap (λ x. entry_len x + 1) same in
    by (entry_len (get_or now g d)) (entry_len e) within other len
  where
    by : (m n : ℕ) → m ≤ len_limit → m ≢ len_limit → n ≡ m + 1 → n ≤ len_limit
    by m n within other is = grind (arith, within, other, is)

-- the next of others is one of as many as there are groups
pub next_within : {X : Type 0} (groups : List ℕ) (before others rest : List X) (other : X) (at : ℕ) → before ++ other ∷ rest ≡ others → length groups ≡ length others → at ≡ length before → at < length groups
next_within groups before others rest other at all count is = let n = length-append before (other ∷ rest) in let m = ap length all in omega (arith, n, m, count, is)

group_within : {X : Type 0} (entry : X → Option Entry) (old now : List X) (groups : List ℕ) (at : ℕ) → at < length groups → All (λ g. g < length old) groups → length now ≡ length old → get_or groups at 0 < length (map entry now)
group_within entry old now groups at within there same = let low : get_or groups at 0 < length old = All-get_or (λ g. g < length old) groups at 0 within there in let n = length-map now entry in omega (arith, low, n, same)

-- one more of others, as the code joins it
pub joined_done : {X : Type 0} (entry : X → Option Entry) (op : Reduction) (old now : List X) (groups : List ℕ) (before others rest : List X) (other new d : X) (at : ℕ)
    → before ++ other ∷ rest ≡ others → length groups ≡ length others → at ≡ length before → All (λ g. g < length old) groups → length now ≡ length old
    → entry new ≡ both_parts (plus_entries op) (entry (get_or now (get_or groups at 0) d)) (entry other)
    → map entry now ≡ with_group_parts op (map entry old) (take at groups) (map entry before)
    → map entry (set now (get_or groups at 0) new) ≡ with_group_parts op (map entry old) (take (at + 1) groups) (map entry (before ++ other ∷ []))
joined_done entry op old now groups before others rest other new d at all count is there same is_next done =
    let within = next_within groups before others rest other at all count is in
    map-set entry now (get_or groups at 0) new
    ∙ parts_step op (map entry old) (map entry now) groups (map entry before) at (entry d) (entry new) (entry other) (length-map before entry ∙ sym is) within (group_within entry old now groups at within there same)
    (is_next ∙ ap (λ e. both_parts (plus_entries op) e (entry other)) (sym (math-get_or-map entry now (get_or groups at 0) d))) done
    ∙ sym (ap (with_group_parts op (map entry old) (take (at + 1) groups)) (map-append entry before (other ∷ [])))

-- there is room for one more of others that was not refused
pub joined_room : {X : Type 0} (entry : X → Option Entry) (op : Reduction) (old now : List X) (groups : List ℕ) (before others rest : List X) (other new d : X) (at : ℕ)
    → before ++ other ∷ rest ≡ others → length groups ≡ length others → at ≡ length before → All (λ g. g < length old) groups → length now ≡ length old
    → entry new ≡ both_parts (plus_entries op) (entry (get_or now (get_or groups at 0) d)) (entry other)
    → len_fault (entry_len (entry (get_or now (get_or groups at 0) d)) + entry_len (entry other)) ≡ None
    → AreWithinLimit (take at groups) (map entry now) → AreWithinLimit (take (at + 1) groups) (map entry (set now (get_or groups at 0) new))
joined_room entry op old now groups before others rest other new d at all count is there same is_next due room =
    let within = next_within groups before others rest other at all count is in
    subst (λ es. AreWithinLimit (take (at + 1) groups) es) (sym (map-set entry now (get_or groups at 0) new))
    (room_step groups (map entry now) at (entry new) within (group_within entry old now groups at within there same) (low_of_joined op (entry (get_or now (get_or groups at 0) d)) (entry other) (entry new) due is_next) room)

-- one of others that is refused
pub joined_stops : {X : Type 0} (entry : X → Option Entry) (op : Reduction) (old now : List X) (groups : List ℕ) (before others rest : List X) (other new d : X) (at : ℕ) (fault : Fault)
    → before ++ other ∷ rest ≡ others → length groups ≡ length others → at ≡ length before → All (λ g. g < length old) groups → length now ≡ length old
    → new ≡ get_or now (get_or groups at 0) d
    → Refuses {T = Unit {0}} (len_fault (entry_len (entry (get_or now (get_or groups at 0) d)) + entry_len (entry other))) (Err fault)
    → map entry now ≡ with_group_parts op (map entry old) (take at groups) (map entry before)
    → StopsParts op (map entry old) groups (map entry others) fault (map entry (set now (get_or groups at 0) new))
joined_stops entry op old now groups before others rest other new d at fault all count is there same kept refused done =
    let within = next_within groups before others rest other at all count is in
    let g = get_or groups at 0 in
    let back : map entry (set now g new) ≡ map entry now = ap (map entry) (ap (set now g) kept ∙ set-get_or now g d) in
    let split : map entry others ≡ map entry before ++ entry other ∷ map entry rest = sym (ap (map entry) all) ∙ map-append entry before (other ∷ rest) in
    let len : at ≡ length (map entry before) = is ∙ sym (length-map before entry) in
    let front : take at (map entry others) ≡ map entry before = ap (take at) split ∙ ap (λ n. take n (map entry before ++ entry other ∷ map entry rest)) len ∙ take-append_seam (map entry before) (entry other ∷ map entry rest) in
    let here : get_or (map entry others) at None ≡ entry other = ap (λ es. get_or es at None) split ∙ ap (λ n. get_or (map entry before ++ entry other ∷ map entry rest) n None) len ∙ get_or-append_seam (map entry before) (entry other) (map entry rest) None in
    let held : get_or (map entry now) g None ≡ entry (get_or now g d) = get_or-map entry now g d None (omega (arith, group_within entry old now groups at within there same, length-map now entry)) in
    subst (λ es. StopsParts op (map entry old) groups (map entry others) fault es) (sym back)
    (record {
      at = at;
      within = within;
      before = done ∙ sym (ap (with_group_parts op (map entry old) (take at groups)) front);
      refused = subst (λ (n : ℕ). Refuses {T = Unit {0}} (len_fault n) (Err fault)) (sym (ap (λ e. entry_len e + entry_len (get_or (map entry others) at None)) held ∙ ap (λ e. entry_len (entry (get_or now g d)) + entry_len e) here)) refused;
    })
