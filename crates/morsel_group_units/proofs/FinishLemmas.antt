-- The rows of a group-by, or why there are none.
use Rattle.std.proofs.Common.{◌≡◌, ◌≤◌, ◌<◌, ◌⊎◌, [], ◌∷◌, ◌++◌, List, ℕ, Option, None, Some, All, length, get_or, refl, sym, ap, subst, ◌∙◌, arith, inl, inr}
use Rattle.std.specs.List.{flat_map, sum_by}
use Rattle.std.proofs.lemmas.List.{append-nil, flat_map_more, length-append}
use Rattle.std.proofs.lemmas.List.Elements.{All-get_or, All-push}
use Rattle.morsel_meaning.specs.declared.fault.Fault.{Fault}
use Rattle.morsel_meaning.specs.declared.fault.Fault.TheVariants as faults
use Rattle.morsel_meaning.specs.declared.fault.ComputeKind.TheVariants as kinds
use Rattle.morsel_meaning.specs.declared.value.Field.{Field}
use Rattle.morsel_meaning.specs.Often.{AsOften}
use Rattle.morsel_meaning.specs.Values.{Row, Table}
use Rattle.morsel_group.specs.Asked.{GroupAsked, GroupShape}
use Rattle.morsel_group.specs.Grouping.{Grouped, RowAt, in_order}
use Rattle.morsel_group.specs.CauseLaws.{GroupsHaveCauses, RowsHaveGroups, SumsHaveCauses}
use Rattle.morsel_group.specs.GroupCauses.{FitsGroups, GroupCause}
use Rattle.morsel_group.specs.Locals.{AreFewEnough, AreSameGroupBy, HasShape, HasSums, HasTakenRows, HaveTaken, HeldGroups, IsGroupBy, IsGroupFault, IsSumFault, StaysGroupBy}
use Rattle.morsel_group_units.specs.GroupAsks.{GroupRulesSeen, rules_output, rules_shape}
use Rattle.morsel_group_units.specs.GroupKeepers.{AreGroupedRows}
use Rattle.morsel_group_units.specs.TakenLoads.{PlacesRise, placed_loads, rows_taken}
use Rattle.morsel_group_units.specs.LocalTakings.{HaveFault, HoldAllLoads, HoldAllRows}
use Rattle.morsel_group_units.specs.declared.taken_load.TakenLoad.{TakenLoad}
use Rattle.morsel_group_units.proofs.PlaceLemmas.{as_long, in_order_taken, many_placed}
use Rattle.morsel_group_units.proofs.TakingLemmas.{both_same, group_by_same, has_shape}

-- a fault of rows, in whatever order they came, has its cause in all rows in the order of the input
cause_of_groups : GroupsHaveCauses → (shape : GroupShape) (some others : List RowAt) (loads : List TakenLoad) (fault : Fault) → AsOften (some ++ others) (placed_loads loads) → PlacesRise 0 loads → IsGroupFault shape some fault
    → (fault ≡ faults.OutOfMemory) ⊎ GroupCause shape (rows_taken loads) fault
cause_of_groups law shape some others loads fault often rise (inl memory) = inl memory
cause_of_groups law shape some others loads fault often rise (inr (inl (is, many))) =
    inr (subst (λ (rows : List Row). GroupCause shape rows fault) (in_order_taken (placed_loads loads) loads (λ weight. refl) rise) (law shape some others (placed_loads loads) fault (inr (inl (is, many))) (λ memory. let clash : faults.ComputeError kinds.TooManyGroups 4294967295 0 ≡ faults.OutOfMemory = sym is ∙ memory in cc) often))
cause_of_groups law shape some others loads fault often rise (inr (inr (is, long))) =
    inr (subst (λ (rows : List Row). GroupCause shape rows fault) (in_order_taken (placed_loads loads) loads (λ weight. refl) rise) (law shape some others (placed_loads loads) fault (inr (inr (is, long))) (λ memory. let clash : faults.ComputeError kinds.LenTooLarge 4294967295 0 ≡ faults.OutOfMemory = sym is ∙ memory in cc) often))

cause_of_sums : SumsHaveCauses → (shape : GroupShape) (some : List RowAt) (loads : List TakenLoad) (fault : Fault) → AsOften some (placed_loads loads) → PlacesRise 0 loads → IsSumFault shape some fault
    → (fault ≡ faults.OutOfMemory) ⊎ GroupCause shape (rows_taken loads) fault
cause_of_sums law shape some loads fault often rise (inl memory) = inl memory
cause_of_sums law shape some loads fault often rise (inr (is, large)) =
    inr (subst (λ (rows : List Row). GroupCause shape rows fault) (in_order_taken (placed_loads loads) loads (λ weight. refl) rise) (law shape some (placed_loads loads) fault (inr (is, large)) (λ memory. let clash : faults.ComputeError kinds.SumTooLarge 4294967295 0 ≡ faults.OutOfMemory = sym is ∙ memory in cc) often))

-- a fault that was kept
pub cause_kept : GroupsHaveCauses → (rules : GroupRulesSeen) (locals : List (Option HeldGroups)) (held : Option Fault) (fault : Fault) (ordered loads : List TakenLoad) → held ≡ Some fault → loads ≡ [] → PlacesRise 0 ordered → HoldAllLoads rules locals held (ordered ++ loads)
    → (fault ≡ faults.OutOfMemory) ⊎ GroupCause (rules_shape rules) (rows_taken ordered) fault
cause_kept law rules locals held fault ordered loads is none rise hold =
    let have : HaveFault (rules_shape rules) (placed_loads (ordered ++ loads)) fault = subst (λ (h : Option Fault). HoldAllLoads rules locals h (ordered ++ loads)) is hold in
    let same : ordered ++ loads ≡ ordered = ap (λ (ls : List TakenLoad). ordered ++ ls) none ∙ append-nil ordered in
    cause_of_groups law (rules_shape rules) have.some have.others ordered fault (λ weight. have.same weight ∙ ap (λ (ls : List TakenLoad). sum_by weight (placed_loads ls)) same) rise have.fault_is

-- all rows, in the order in which they came
abbrev pub rows_in : List (List RowAt) → List RowAt
rows_in lists = flat_map (λ (own : List RowAt). own) lists

held_often : (rules : GroupRulesSeen) (locals : List (Option HeldGroups)) (ordered loads : List TakenLoad) → loads ≡ [] → (hold : HoldAllRows rules locals (ordered ++ loads)) → AsOften (rows_in hold.lists) (placed_loads ordered)
held_often rules locals ordered loads none hold weight =
    hold.same weight ∙ ap (λ (ls : List TakenLoad). sum_by weight (placed_loads ls)) (ap (λ (ls : List TakenLoad). ordered ++ ls) none ∙ append-nil ordered)

-- a fault of all groups together
pub cause_found : GroupsHaveCauses → SumsHaveCauses → (rules : GroupRulesSeen) (locals : List (Option HeldGroups)) (held : Option Fault) (fault : Fault) (ordered loads : List TakenLoad) (asked : GroupRulesSeen) → held ≡ None → loads ≡ [] → PlacesRise 0 ordered → HoldAllLoads rules locals held (ordered ++ loads) → asked ≡ rules
    → ((lists : List (List RowAt)) → HaveTaken locals lists → IsGroupFault (rules_shape asked) (rows_in lists) fault ⊎ IsSumFault (rules_shape asked) (rows_in lists) fault)
    → (fault ≡ faults.OutOfMemory) ⊎ GroupCause (rules_shape rules) (rows_taken ordered) fault
cause_found groups sums rules locals held fault ordered loads asked is none rise hold same refused =
    let all : HoldAllRows rules locals (ordered ++ loads) = subst (λ (h : Option Fault). HoldAllLoads rules locals h (ordered ++ loads)) is hold in
    let often = held_often rules locals ordered loads none all in
    by all often (subst (λ (r : GroupRulesSeen). IsGroupFault (rules_shape r) (rows_in all.lists) fault ⊎ IsSumFault (rules_shape r) (rows_in all.lists) fault) same (refused all.lists all.taken))
  where
    by : (all : HoldAllRows rules locals (ordered ++ loads)) → AsOften (rows_in all.lists) (placed_loads ordered) → IsGroupFault (rules_shape rules) (rows_in all.lists) fault ⊎ IsSumFault (rules_shape rules) (rows_in all.lists) fault
        → (fault ≡ faults.OutOfMemory) ⊎ GroupCause (rules_shape rules) (rows_taken ordered) fault
    by all often (inl group) = cause_of_groups groups (rules_shape rules) (rows_in all.lists) [] ordered fault (λ weight. ap (sum_by weight) (append-nil (rows_in all.lists)) ∙ often weight) rise group
    by all often (inr sum) = cause_of_sums sums (rules_shape rules) (rows_in all.lists) ordered fault often rise sum

-- the rows of all groups together
pub grouped_rows : RowsHaveGroups → (rules : GroupRulesSeen) (locals : List (Option HeldGroups)) (held : Option Fault) (ordered loads : List TakenLoad) (asked : GroupRulesSeen) (frame : Table) → held ≡ None → loads ≡ [] → PlacesRise 0 ordered → HoldAllLoads rules locals held (ordered ++ loads) → asked ≡ rules
    → frame.schema ≡ rules_output asked → ((lists : List (List RowAt)) → HaveTaken locals lists → Grouped (rules_shape asked) (in_order (rows_in lists)) frame.rows) → ((lists : List (List RowAt)) → HaveTaken locals lists → length frame.rows ≤ length (rows_in lists))
    → ((lists : List (List RowAt)) → HaveTaken locals lists → AreFewEnough (rules_shape asked) (rows_in lists)) → ((lists : List (List RowAt)) → HaveTaken locals lists → HasSums (rules_shape asked) (rows_in lists))
    → AreGroupedRows (record { rules = rules; taken = ordered; frame = frame })
grouped_rows law rules locals held ordered loads asked frame is none rise hold same columns grouped few enough sums =
    let all : HoldAllRows rules locals (ordered ++ loads) = subst (λ (h : Option Fault). HoldAllLoads rules locals h (ordered ++ loads)) is hold in
    let often = held_often rules locals ordered loads none all in
    record {
      columns = columns ∙ ap rules_output same;
      grouped = subst (λ (rows : List Row). Grouped (rules_shape rules) rows frame.rows) (in_order_taken (rows_in all.lists) ordered often rise) (subst (λ (r : GroupRulesSeen). Grouped (rules_shape r) (in_order (rows_in all.lists)) frame.rows) same (grouped all.lists all.taken));
      fits = subst (λ (rows : List Row). FitsGroups (rules_shape rules) rows) (in_order_taken (placed_loads ordered) ordered (λ weight. refl) rise)
          (law (rules_shape rules) (rows_in all.lists) (placed_loads ordered) (subst (λ (r : GroupRulesSeen). AreFewEnough (rules_shape r) (rows_in all.lists)) same (enough all.lists all.taken))
          (subst (λ (r : GroupRulesSeen). HasSums (rules_shape r) (rows_in all.lists)) same (sums all.lists all.taken)) often);
      few = let less = few all.lists all.taken in let long = as_long (rows_in all.lists) (placed_loads ordered) often in let many = many_placed ordered in omega (arith, less, long, many);
    }

-- with groups that took nothing there are the same rows
pub taken_none : (locals now : List (Option HeldGroups)) (local : Option HeldGroups) (lists : List (List RowAt)) → now ≡ locals ++ local ∷ [] → HaveTaken locals lists → HasTakenRows local [] → HaveTaken now (lists ++ [] ∷ [])
taken_none locals now local lists pushed taken none = subst (λ ls. HaveTaken ls (lists ++ [] ∷ [])) (sym pushed) (push locals lists taken)
  where
    push : (ls : List (Option HeldGroups)) (xs : List (List RowAt)) → HaveTaken ls xs → HaveTaken (ls ++ local ∷ []) (xs ++ [] ∷ [])
    push [] [] taken = (none, tt)
    push [] (x ∷ xs) taken = absurd taken
    push (l ∷ ls) [] taken = absurd taken
    push (l ∷ ls) (x ∷ xs) (here, later) = (here, push ls xs later)

pub rows_none : (lists : List (List RowAt)) → rows_in (lists ++ [] ∷ []) ≡ rows_in lists
rows_none lists = sym (flat_map_more (λ (own : List RowAt). own) [] lists []) ∙ append-nil (rows_in lists)

-- groups that are all one group-by, and one more
pub all_are : (fields : List Field) (asked : GroupAsked) (locals now : List (Option HeldGroups)) (local : Option HeldGroups) → now ≡ locals ++ local ∷ [] → All (IsGroupBy fields asked) locals → IsGroupBy fields asked local → All (IsGroupBy fields asked) now
all_are fields asked locals now local pushed all is = subst (All (IsGroupBy fields asked)) (sym pushed) (All-push (IsGroupBy fields asked) locals local all is)

-- the first of them
pub first_is : (fields : List Field) (asked : GroupAsked) (locals now : List (Option HeldGroups)) (local : Option HeldGroups) → now ≡ locals ++ local ∷ [] → All (IsGroupBy fields asked) now → IsGroupBy fields asked (get_or now 0 None)
first_is fields asked locals now local pushed all =
    let many = length-append locals (local ∷ []) in
    let long = ap (λ (ls : List (Option HeldGroups)). length ls) pushed in
    All-get_or (IsGroupBy fields asked) now 0 None (omega (arith, many, long)) all

-- any two of them are the same
pub alike_all : (fields : List Field) (asked : GroupAsked) (now : List (Option HeldGroups)) → All (IsGroupBy fields asked) now → (i j : ℕ) → i < length now → j < length now → AreSameGroupBy (get_or now i None) (get_or now j None)
alike_all fields asked now all i j one other = both_same fields asked (get_or now i None) (get_or now j None) (All-get_or (IsGroupBy fields asked) now i None one all) (All-get_or (IsGroupBy fields asked) now j None other all)

-- the shape of what they are together
pub shape_together : (rules : GroupRulesSeen) (first whole : Option HeldGroups) → IsGroupBy rules.columns rules.asked first → StaysGroupBy first whole → HasShape whole (rules_shape rules)
shape_together rules first whole is same = has_shape rules.columns rules.asked whole (group_by_same rules.columns rules.asked first whole is same)

-- groups that have taken rows have few enough
pub enough_taken : (whole : Option HeldGroups) (shape : GroupShape) (rows : List RowAt) → HasTakenRows whole rows → HasShape whole shape → AreFewEnough shape rows
enough_taken None shape rows taken is = absurd taken
enough_taken (Some held) shape rows taken is = subst (λ (s : GroupShape). AreFewEnough s rows) is taken.few
