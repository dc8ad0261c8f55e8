-- How many values groups have, and what passes the limit of them.
use Rattle.std.proofs.Common.{◌≡◌, ◌<◌, ◌≤◌, ◌++◌, [], ◌∷◌, List, ℕ, zero, suc, ◌+◌, length, take, drop, slice_get, get_or, None, Some, refl, arith, ap, ◌∙◌, sym, Bool, true, false, if◌then◌else◌, nat_lt, subst, inl, inr}
use Rattle.std.specs.Prelude.{Option, nat_eq, ◌-◌, replicate}
use Rattle.std.specs.List.{All}
use Rattle.std.proofs.lemmas.Bool.{cases_lt}
use Rattle.std.proofs.lemmas.List.{length-set, length-append, length-replicate, get_or-set_same, get_or_past}
use Rattle.morsel_meaning.specs.declared.fault.Fault.{Fault}
use Rattle.morsel_meaning.specs.declared.fault.Fault.TheVariants.{ComputeError}
use Rattle.morsel_meaning.specs.declared.fault.ComputeKind.TheVariants.{LenTooLarge}
use Rattle.morsel_keys.specs.declared.reduction.Reduction.{Reduction}
use Rattle.morsel_keys.specs.declared.reduction.Reduction.TheVariants as ops
use Rattle.morsel_keys.specs.Reductions.{ValueAt, Entry, one_entry, entry_of, entry_len, len_fault, len_limit}
use Rattle.morsel_states.specs.GroupParts.{with_group_parts, group_part, StopsParts}
use Rattle.morsel_states.specs.GroupRows.{GroupRow, group_values, with_value, with_group_row, with_group_rows, StopsRows}
use Rattle.morsel_states.specs.States.{GroupStates, with_groups}
use Rattle.morsel_states.proofs.PartLemmas.{entry_len-both, keeps_group_parts, length-with_group_parts}
use Rattle.morsel_states.proofs.RowLemmas.{keeps_groups, length-with_group_rows, with_group_rows-append}
use Rattle.morsel_group.specs.Arrivals.{RefusesLens}

one_len : (op : Reduction) (v : ValueAt) → (one_entry op v).len ≡ 1
one_len ops.Len v = refl
one_len ops.Sum v = refl
one_len ops.Min v = refl
one_len ops.Max v = refl
one_len ops.First v = refl
one_len ops.Last v = refl

-- as many values are kept as there are
pub entry_len-of : (op : Reduction) (vs : List ValueAt) → entry_len (entry_of op vs) ≡ length vs
entry_len-of op [] = refl
entry_len-of op (v ∷ vs) =
    let n = entry_len-both op (Some (one_entry op v)) (entry_of op vs) in
    let m = one_len op v in
    let k = entry_len-of op vs in
    n ∙ omega (arith, m, k)

-- a list is what comes before an item, the item, and what comes after it
pub split_at : {X : Type 0} (xs : List X) (i : ℕ) (x : X) → slice_get xs i ≡ Some x → xs ≡ take i xs ++ x ∷ drop (suc i) xs
split_at [] i x e = cc
split_at (y ∷ ys) zero x e = let same : y ≡ x = cc in ap (λ z. z ∷ ys) same
split_at (y ∷ ys) (suc i) x e = ap (λ zs. y ∷ zs) (split_at ys i x e)

past_limit : (n : ℕ) (fault : Fault) → len_fault n ≡ Some fault → len_limit < n
past_limit n fault e = by (nat_lt len_limit n) refl e
  where
    by : (t : Bool) → nat_lt len_limit n ≡ t → (if t then Some (ComputeError LenTooLarge 4294967295 0) else None) ≡ Some fault → len_limit < n
    by true q e = grind (arith, q)
    by false q e = cc

more_len : (op : Reduction) (e : Option Entry) (v : ValueAt) → entry_len (with_value op e v) ≡ entry_len e + 1
more_len op e v = let n = entry_len-both op e (Some (one_entry op v)) in let m = one_len op v in n ∙ omega (arith, m)

-- a group that has too many values with one row more has too many with all
pub rows_past : (op : Reduction) (old new : List (Option Entry)) (rows : List GroupRow) → StopsRows op old rows (ComputeError LenTooLarge 4294967295 0) new → RefusesLens (with_group_rows op old rows) (ComputeError LenTooLarge 4294967295 0)
rows_past op old new rows stops =
    let row = stops.row in
    let rest = drop (suc stops.at) rows in
    let next = with_group_row op new row in
    let past = past_limit (entry_len (get_or new row.group None) + 1) (ComputeError LenTooLarge 4294967295 0) stops.refused in
    let whole : with_group_rows op old rows ≡ with_group_rows op next rest =
    ap (with_group_rows op old) (split_at rows stops.at row stops.stopped)
    ∙ with_group_rows-append op old (take stops.at rows) (row ∷ rest)
    ∙ ap (λ es. with_group_rows op es (row ∷ rest)) (sym stops.before) in
    elim (cases_lt row.group (length new)) as (λ _. RefusesLens (with_group_rows op old rows) (ComputeError LenTooLarge 4294967295 0)) [
      | inl there ↦
          let n = length-set new row.group (with_value op (get_or new row.group None) row.valued) in
          let own = keeps_groups op next rest row.group (omega (arith, n, there)) in
          let here : get_or next row.group None ≡ with_value op (get_or new row.group None) row.valued = get_or-set_same new row.group (with_value op (get_or new row.group None) row.valued) None there in
          let len = ap entry_len (ap (λ es. get_or es row.group None) whole ∙ own) ∙ entry_len-both op (get_or next row.group None) (entry_of op (group_values row.group rest)) in
          let one = ap entry_len here ∙ more_len op (get_or new row.group None) row.valued in
          let all = ap length whole ∙ length-with_group_rows op next rest in
          inr (refl, (row.group, omega (arith, all, n, there), omega (arith, len, one, past)))
      | inr beyond ↦
          let none = ap entry_len (get_or_past new row.group None beyond) in
          absurd (omega (arith, none, past))
    ]

-- a group that has too many values with what one other has has too many with what all have
pub parts_past : (op : Reduction) (old new : List (Option Entry)) (groups : List ℕ) (parts : List (Option Entry)) → length parts ≡ length groups → ((k : ℕ) → k < length groups → get_or groups k 0 < length old) → StopsParts op old groups parts (ComputeError LenTooLarge 4294967295 0) new
    → RefusesLens (with_group_parts op old groups parts) (ComputeError LenTooLarge 4294967295 0)
parts_past op old new groups parts count within stops =
    let group = get_or groups stops.at 0 in
    let there = within stops.at stops.within in
    let past = past_limit (entry_len (get_or new group None) + entry_len (get_or parts stops.at None)) (ComputeError LenTooLarge 4294967295 0) stops.refused in
    let before = ap entry_len (ap (λ es. get_or es group None) stops.before ∙ keeps_group_parts op old (take stops.at groups) (take stops.at parts) group there) ∙ entry_len-both op (get_or old group None) (group_part op group (take stops.at groups) (take stops.at parts)) in
    let whole = ap entry_len (keeps_group_parts op old groups parts group there) ∙ entry_len-both op (get_or old group None) (group_part op group groups parts) in
    let own = part_len op group stops.at groups parts stops.within (omega (arith, count, stops.within)) refl in
    let all = length-with_group_parts op old groups parts in
    inr (refl, (group, omega (arith, all, there), omega (arith, before, whole, own, past)))
  where
    -- what comes before one, and that one, are no more than all
    part_len : (op : Reduction) (group at : ℕ) (groups : List ℕ) (parts : List (Option Entry)) → at < length groups → at < length parts → get_or groups at 0 ≡ group
        → entry_len (group_part op group (take at groups) (take at parts)) + entry_len (get_or parts at None) ≤ entry_len (group_part op group groups parts)
    part_len op group at [] parts within inside here = absurd (omega (arith, within))
    part_len op group at (g ∷ groups) [] within inside here = absurd (omega (arith, inside))
    part_len op group zero (g ∷ groups) (part ∷ parts) within inside here =
        let same : nat_eq g group ≡ true = grind (arith, here) in
        let own : (if nat_eq g group then part else None) ≡ part = ap (λ (t : Bool). if t then part else None) same in
        let n = entry_len-both op (if nat_eq g group then part else None) (group_part op group groups parts) in
        let m = ap entry_len own in
        omega (arith, n, m)
    part_len op group (suc at) (g ∷ groups) (part ∷ parts) within inside here =
        let n = entry_len-both op (if nat_eq g group then part else None) (group_part op group (take at groups) (take at parts)) in
        let m = entry_len-both op (if nat_eq g group then part else None) (group_part op group groups parts) in
        let later = part_len op group at groups parts (omega (arith, within)) (omega (arith, inside)) here in
        omega (arith, n, m, later)

-- counts that stop at a row
pub rows_stop : (old grown : GroupStates) (count : ℕ) (new : List (Option Entry)) (rows : List GroupRow) (fault : Fault) → grown ≡ record old { entries = with_groups count old.entries } → old.op ≡ ops.Len
    → fault ≡ ComputeError LenTooLarge 4294967295 0 → StopsRows grown.op grown.entries rows fault new → RefusesLens (with_group_rows ops.Len (with_groups count old.entries) rows) fault
rows_stop old grown count new rows fault is op too_long stops =
    let first = subst (λ (g : GroupStates). StopsRows g.op g.entries rows fault new) is stops in
    let second = subst (λ (o : Reduction). StopsRows o (with_groups count old.entries) rows fault new) op first in
    let third = subst (λ (f : Fault). StopsRows ops.Len (with_groups count old.entries) rows f new) too_long second in
    subst (λ (f : Fault). RefusesLens (with_group_rows ops.Len (with_groups count old.entries) rows) f) (sym too_long) (rows_past ops.Len (with_groups count old.entries) new rows third)

pub grown_len : (count : ℕ) (entries : List (Option Entry)) → length entries ≤ count → length (with_groups count entries) ≡ count
grown_len count entries few = let a = length-append entries (replicate (count - length entries) None) in let c = length-replicate {A = Option Entry} (count - length entries) None in omega (arith, a, c, few)

-- counts that stop at one of others
pub parts_stop : (old grown : GroupStates) (count : ℕ) (new : List (Option Entry)) (numbers : List ℕ) (parts : List (Option Entry)) (fault : Fault) → grown ≡ record old { entries = with_groups count old.entries } → old.op ≡ ops.Len
    → length old.entries ≤ count → length numbers ≡ length parts → All (λ number. number < count) numbers
    → fault ≡ ComputeError LenTooLarge 4294967295 0 → StopsParts grown.op grown.entries numbers parts fault new → RefusesLens (with_group_parts ops.Len (with_groups count old.entries) numbers parts) fault
parts_stop old grown count new numbers parts fault is op few len within too_long stops =
    let first = subst (λ (g : GroupStates). StopsParts g.op g.entries numbers parts fault new) is stops in
    let second = subst (λ (o : Reduction). StopsParts o (with_groups count old.entries) numbers parts fault new) op first in
    let third = subst (λ (f : Fault). StopsParts ops.Len (with_groups count old.entries) numbers parts f new) too_long second in
    let n = grown_len count old.entries few in
    let past = parts_past ops.Len (with_groups count old.entries) new numbers parts (sym len) (λ k inside. let low : get_or numbers k 0 < count = within k 0 inside in omega (arith, low, n)) third in
    subst (λ (f : Fault). RefusesLens (with_group_parts ops.Len (with_groups count old.entries) numbers parts) f) (sym too_long) past
