-- What local groups have, with more loads.
use Rattle.std.proofs.Common.{◌≡◌, [], ◌∷◌, ◌++◌, ◌+◌, List, ℕ, Option, None, Some, is_some, true, false, All, length, refl, sym, ap, subst, ◌∙◌, arith, inl}
use Rattle.std.specs.List.{flat_map, sum_by}
use Rattle.std.specs.Prelude.{IsPermutation}
use Rattle.std.proofs.lemmas.Bool.{false≢true}
use Rattle.std.proofs.lemmas.List.{append-nil, flat_map_more, length-append}
use Rattle.std.proofs.lemmas.List.Elements.{All-push}
use Rattle.std.proofs.lemmas.List.Sums.{sum_by-append}
use Rattle.morsel_meaning.specs.declared.fault.Fault.{Fault}
use Rattle.morsel_meaning.specs.declared.fault.Fault.TheVariants as faults
use Rattle.morsel_meaning.specs.declared.value.Field.{Field}
use Rattle.morsel_meaning.specs.Often.{AsOften}
use Rattle.morsel_meaning.specs.Values.{Row}
use Rattle.morsel_keys.specs.Reductions.{input_place}
use Rattle.morsel_group.specs.Asked.{GroupAsked, GroupShape, group_fields, shape_of}
use Rattle.morsel_group.specs.Grouping.{RowAt}
use Rattle.morsel_group.specs.Takes.{placed_rows}
use Rattle.morsel_group.specs.Locals.{AreSameGroupBy, HasOutput, HasShape, HasTakenRows, HaveTaken, HeldGroups, IsGroupBy, IsGroupFault, StaysGroupBy}
use Rattle.morsel_group_units.specs.GroupAsks.{GroupRulesSeen, rules_shape}
use Rattle.morsel_group_units.specs.TakenLoads.{placed_load, placed_loads}
use Rattle.morsel_group_units.specs.LocalTakings.{HaveFault, HoldAllLoads, HoldAllRows, HoldsLoads, HoldsRows}
use Rattle.morsel_group_units.specs.declared.taken_load.TakenLoad.{TakenLoad}
use Rattle.morsel_group_units.proofs.PlaceLemmas.{length_placed, placed_along, placed_append, placed_push}

-- the same group-by
pub group_by_same : (fields : List Field) (asked : GroupAsked) (old now : Option HeldGroups) → IsGroupBy fields asked old → StaysGroupBy old now → IsGroupBy fields asked now
group_by_same fields asked None now is same = absurd is
group_by_same fields asked (Some held) None is same = absurd same
group_by_same fields asked (Some held) (Some other) is same = (same.0 ∙ is.0, same.1 ∙ is.1, same.2 ∙ is.2)

pub has_shape : (fields : List Field) (asked : GroupAsked) (local : Option HeldGroups) → IsGroupBy fields asked local → HasShape local (shape_of fields asked)
has_shape fields asked None is = absurd is
has_shape fields asked (Some held) is = is.1

pub both_same : (fields : List Field) (asked : GroupAsked) (one other : Option HeldGroups) → IsGroupBy fields asked one → IsGroupBy fields asked other → AreSameGroupBy one other
both_same fields asked None other is too = absurd is
both_same fields asked (Some held) None is too = absurd too
both_same fields asked (Some held) (Some other) is too = (too.0 ∙ sym is.0, too.1 ∙ sym is.1, too.2 ∙ sym is.2)

pub output_same : (fields columns : List Field) (asked : GroupAsked) (one other : Option HeldGroups) → IsGroupBy fields asked one → StaysGroupBy one other → HasOutput other columns → columns ≡ group_fields fields asked
output_same fields columns asked None other is same out = absurd is
output_same fields columns asked (Some held) None is same out = absurd same
output_same fields columns asked (Some held) (Some other) is same out = sym out ∙ same.2 ∙ is.2

-- the same lists are as often the same
often_same : {X : Type 0} (xs ys : List X) → xs ≡ ys → AsOften xs ys
often_same xs ys same weight = ap (sum_by weight) same

-- a fault of some rows is one of all, with more behind or before them
fault_more : (shape : GroupShape) (all more now : List RowAt) (fault : Fault) → now ≡ all ++ more → HaveFault shape all fault → HaveFault shape now fault
fault_more shape all more now fault is have = record {
  some = have.some;
  others = have.others ++ more;
  same = λ weight.
      let a = sum_by-append weight have.some (have.others ++ more) in let b = sum_by-append weight have.others more in let c = sum_by-append weight all more in
      let d = sum_by-append weight have.some have.others in let e = have.same weight in let f = ap (sum_by weight) is in omega (arith, a, b, c, d, e, f);
  fault_is = have.fault_is;
}

fault_behind : (shape : GroupShape) (before all now : List RowAt) (fault : Fault) → now ≡ before ++ all → HaveFault shape all fault → HaveFault shape now fault
fault_behind shape before all now fault is have = record {
  some = have.some;
  others = have.others ++ before;
  same = λ weight.
      let a = sum_by-append weight have.some (have.others ++ before) in let b = sum_by-append weight have.others before in let c = sum_by-append weight before all in
      let d = sum_by-append weight have.some have.others in let e = have.same weight in let f = ap (sum_by weight) is in omega (arith, a, b, c, d, e, f);
  fault_is = have.fault_is;
}

-- that memory is out may be said of any rows
pub memory_fault : (shape : GroupShape) (all : List RowAt) → HaveFault shape all faults.OutOfMemory
memory_fault shape all = record { some = []; others = all; same = λ weight. refl; fault_is = inl refl }

pub all_short : (rules : GroupRulesSeen) (locals : List (Option HeldGroups)) (held : Option Fault) (loads : List TakenLoad) → held ≡ Some faults.OutOfMemory → HoldAllLoads rules locals held loads
all_short rules locals held loads short = subst (λ (h : Option Fault). HoldAllLoads rules locals h loads) (sym short) (memory_fault (rules_shape rules) (placed_loads loads))

-- the places of the rows of one load more
placed_more : (rules : GroupRulesSeen) (old : Option HeldGroups) (rows : ℕ) (loads after : List TakenLoad) (load : TakenLoad) (more : List Row) → HoldsRows rules old rows loads → load.arrival ≡ rows → load.frame.value.rows ≡ more → after ≡ loads ++ load ∷ []
    → placed_loads loads ++ placed_rows (input_place load.seq (length (placed_loads loads))) more ≡ placed_loads after
placed_more rules old rows loads after load more holds arrival own pushed =
    let at : length (placed_loads loads) ≡ load.arrival = sym holds.count ∙ sym arrival in
    ap (λ (n : ℕ). placed_loads loads ++ placed_rows (input_place load.seq n) more) at ∙ ap (λ (rs : List Row). placed_loads loads ++ placed_rows (input_place load.seq load.arrival) rs) (sym own) ∙ sym (placed_push loads load) ∙ ap placed_loads (sym pushed)

-- groups that took the rows of one load more
holds_inserted : (rules : GroupRulesSeen) (old now : Option HeldGroups) (rows then : ℕ) (loads after : List TakenLoad) (load : TakenLoad) (more : List Row) → HoldsRows rules old rows loads → load.arrival ≡ rows → load.frame.value.rows ≡ more → after ≡ loads ++ load ∷ [] → then ≡ rows + load.count
    → StaysGroupBy old now → ((all : List RowAt) → HasTakenRows old all → HasTakenRows now (all ++ placed_rows (input_place load.seq (length all)) more)) → HoldsRows rules now then after
holds_inserted rules old now rows then loads after load more holds arrival own pushed count same takes =
    let taken : HasTakenRows now (placed_loads after) = subst (HasTakenRows now) (placed_more rules old rows loads after load more holds arrival own pushed) (takes (placed_loads loads) holds.taken) in
    record {
      group_by = group_by_same rules.columns rules.asked old now holds.group_by same;
      taken = taken;
      count =
          let many : length (placed_loads after) ≡ length (placed_loads loads) + length (placed_load load) = ap (λ (ls : List TakenLoad). length (placed_loads ls)) pushed ∙ ap (λ (rs : List RowAt). length rs) (placed_push loads load) ∙ length-append (placed_loads loads) (placed_load load) in
          let here : length (placed_load load) ≡ length load.frame.value.rows = length_placed (input_place load.seq load.arrival) load.frame.value.rows in
          let before = holds.count in let own_count = load.many in
          omega (arith, many, here, count, before, own_count);
    }

pub holds_ok : (rules : GroupRulesSeen) (old now : Option HeldGroups) (rows then : ℕ) (loads after : List TakenLoad) (load : TakenLoad) (more : List Row) (held : Option Fault) → is_some held ≡ false → HoldsLoads rules old rows held loads → load.arrival ≡ rows → load.frame.value.rows ≡ more → after ≡ loads ++ load ∷ [] → then ≡ rows + load.count
    → StaysGroupBy old now → ((all : List RowAt) → HasTakenRows old all → HasTakenRows now (all ++ placed_rows (input_place load.seq (length all)) more)) → HoldsLoads rules now then held after
holds_ok rules old now rows then loads after load more None is holds arrival own pushed count same takes = holds_inserted rules old now rows then loads after load more holds arrival own pushed count same takes
holds_ok rules old now rows then loads after load more (Some fault) is holds arrival own pushed count same takes = absurd (false≢true (sym is))

-- rows of one load more that were refused
pub holds_refused : (rules : GroupRulesSeen) (old : Option HeldGroups) (rows : ℕ) (loads after : List TakenLoad) (load : TakenLoad) (more : List Row) (held : Option Fault) (fault : Fault) → is_some held ≡ false → HoldsLoads rules old rows held loads → load.arrival ≡ rows → load.frame.value.rows ≡ more → after ≡ loads ++ load ∷ []
    → ((all : List RowAt) (shape : GroupShape) → HasTakenRows old all → HasShape old shape → IsGroupFault shape (all ++ placed_rows (input_place load.seq (length all)) more) fault) → HaveFault (rules_shape rules) (placed_loads after) fault
holds_refused rules old rows loads after load more (Some had) fault is holds arrival own pushed refused = absurd (false≢true (sym is))
holds_refused rules old rows loads after load more None fault is holds arrival own pushed refused = record {
  some = placed_loads after;
  others = [];
  same = often_same (placed_loads after ++ []) (placed_loads after) (append-nil (placed_loads after));
  fault_is = subst (λ (rs : List RowAt). IsGroupFault (rules_shape rules) rs fault) (placed_more rules old rows loads after load more holds arrival own pushed) (refused (placed_loads loads) (rules_shape rules) holds.taken (has_shape rules.columns rules.asked old holds.group_by));
}

-- and rows of one load more behind a fault
pub holds_behind : (rules : GroupRulesSeen) (groups now : Option HeldGroups) (rows then : ℕ) (loads after : List TakenLoad) (load : TakenLoad) (held : Option Fault) → is_some held ≡ true → HoldsLoads rules groups rows held loads → after ≡ loads ++ load ∷ [] → HoldsLoads rules now then held after
holds_behind rules groups now rows then loads after load None is holds pushed = absurd (false≢true is)
holds_behind rules groups now rows then loads after load (Some fault) is holds pushed = fault_more (rules_shape rules) (placed_loads loads) (placed_load load) (placed_loads after) fault (ap placed_loads pushed ∙ placed_push loads load) holds

-- all groups, with those of a unit
pub all_push : (rules : GroupRulesSeen) (locals now : List (Option HeldGroups)) (local : Option HeldGroups) (rows : ℕ) (before more : List TakenLoad) → now ≡ locals ++ local ∷ [] → HoldAllRows rules locals before → HoldsRows rules local rows more → HoldAllRows rules now (before ++ more)
all_push rules locals now local rows before more pushed hold own = record {
  group_by = subst (All (IsGroupBy rules.columns rules.asked)) (sym pushed) (All-push (IsGroupBy rules.columns rules.asked) locals local hold.group_by own.group_by);
  lists = hold.lists ++ placed_loads more ∷ [];
  taken = subst (λ ls. HaveTaken ls (hold.lists ++ placed_loads more ∷ [])) (sym pushed) (taken_push locals hold.lists local (placed_loads more) hold.taken own.taken);
  same = λ weight.
      let a : sum_by weight (flat_map (λ (own : List RowAt). own) hold.lists ++ placed_loads more) ≡ sum_by weight (flat_map (λ (own : List RowAt). own) (hold.lists ++ placed_loads more ∷ [])) = ap (sum_by weight) (flat_map_more (λ (own : List RowAt). own) [] hold.lists (placed_loads more)) in
      let b = sum_by-append weight (flat_map (λ (own : List RowAt). own) hold.lists) (placed_loads more) in
      let c = hold.same weight in
      let d = ap (sum_by weight) (placed_append before more) in
      let e = sum_by-append weight (placed_loads before) (placed_loads more) in
      omega (arith, a, b, c, d, e);
}
  where
    taken_push : (ls : List (Option HeldGroups)) (lists : List (List RowAt)) (l : Option HeldGroups) (list : List RowAt) → HaveTaken ls lists → HasTakenRows l list → HaveTaken (ls ++ l ∷ []) (lists ++ list ∷ [])
    taken_push [] [] l list taken is = (is, tt)
    taken_push [] (xs ∷ lists) l list taken is = absurd taken
    taken_push (m ∷ ls) [] l list taken is = absurd taken
    taken_push (m ∷ ls) (xs ∷ lists) l list (here, later) is = (here, taken_push ls lists l list later is)

-- or with the fault that a unit had
pub all_fault : (rules : GroupRulesSeen) (locals : List (Option HeldGroups)) (local : Option HeldGroups) (rows : ℕ) (before more : List TakenLoad) (fault : Fault) → HoldsLoads rules local rows (Some fault) more → HoldAllLoads rules locals (Some fault) (before ++ more)
all_fault rules locals local rows before more fault have = fault_behind (rules_shape rules) (placed_loads before) (placed_loads more) (placed_loads (before ++ more)) fault (placed_append before more) have

-- or that one had before
pub all_behind : (rules : GroupRulesSeen) (locals : List (Option HeldGroups)) (before more : List TakenLoad) (held : Option Fault) → is_some held ≡ true → HoldAllLoads rules locals held before → HoldAllLoads rules locals held (before ++ more)
all_behind rules locals before more None is hold = absurd (false≢true is)
all_behind rules locals before more (Some fault) is hold = fault_more (rules_shape rules) (placed_loads before) (placed_loads more) (placed_loads (before ++ more)) fault (placed_append before more) hold

-- all groups with those of a unit, where neither had a fault
pub all_put : (rules : GroupRulesSeen) (locals now : List (Option HeldGroups)) (local : Option HeldGroups) (rows : ℕ) (before more : List TakenLoad) (held fault : Option Fault) → is_some held ≡ false → fault ≡ None → now ≡ locals ++ local ∷ [] → HoldAllLoads rules locals held before → HoldsLoads rules local rows fault more
    → HoldAllLoads rules now held (before ++ more)
all_put rules locals now local rows before more (Some had) fault free none pushed hold own = absurd (false≢true (sym free))
all_put rules locals now local rows before more None fault free none pushed hold own = all_push rules locals now local rows before more pushed hold (subst (λ (h : Option Fault). HoldsLoads rules local rows h more) none own)

-- the same of loads in another order
pub all_along : (rules : GroupRulesSeen) (locals : List (Option HeldGroups)) (held : Option Fault) (before after : List TakenLoad) → AsOften (placed_loads before) (placed_loads after) → HoldAllLoads rules locals held before → HoldAllLoads rules locals held after
all_along rules locals None before after often hold = record { group_by = hold.group_by; lists = hold.lists; taken = hold.taken; same = λ weight. hold.same weight ∙ often weight }
all_along rules locals (Some fault) before after often hold = record { some = hold.some; others = hold.others; same = λ weight. hold.same weight ∙ often weight; fault_is = hold.fault_is }

-- where the loads of the present lanes are put in order behind the others
pub placed_closed : (ordered loads sorted now none : List TakenLoad) → IsPermutation loads sorted → now ≡ ordered ++ sorted → none ≡ [] → AsOften (placed_loads (ordered ++ loads)) (placed_loads (now ++ none))
placed_closed ordered loads sorted now none same is empty weight =
    let a = ap (sum_by weight) (placed_append ordered loads) in
    let b = sum_by-append weight (placed_loads ordered) (placed_loads loads) in
    let c = placed_along loads sorted same weight in
    let d : sum_by weight (placed_loads (now ++ none)) ≡ sum_by weight (placed_loads (ordered ++ sorted)) = ap (λ (ls : List TakenLoad). sum_by weight (placed_loads ls)) (ap (λ (ls : List TakenLoad). now ++ ls) empty ∙ append-nil now ∙ is) in
    let e = ap (sum_by weight) (placed_append ordered sorted) in
    let f = sum_by-append weight (placed_loads ordered) (placed_loads sorted) in
    omega (arith, a, b, c, d, e, f)
