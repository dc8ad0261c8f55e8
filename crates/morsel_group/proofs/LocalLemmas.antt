-- Local groups, and all of several.
use Rattle.std.proofs.Common.{◌≡◌, ◌<◌, ◌++◌, [], ◌∷◌, List, ℕ, length, get_or, None, Some, refl, arith, ap, ◌∙◌, sym, subst, append_assoc, append-nil, inl, inr}
use Rattle.std.specs.Prelude.{Option, Result, Ok, Err, OnOk, option_map}
use Rattle.std.specs.List.{All, flat_map}
use Rattle.std.proofs.lemmas.List.{length-append}
use Rattle.morsel_meaning.specs.declared.fault.Fault.{Fault}
use Rattle.morsel_meaning.specs.declared.value.Field.{Field}
use Rattle.morsel_frame.specs.Tables.{cells_at}
use Rattle.morsel_group.specs.declared.groups.Groups.{Groups}
use Rattle.morsel_group.specs.Asked.{GroupAsked, GroupShape}
use Rattle.morsel_group.specs.Grouping.{RowAt, distinct_keys, rows_at_key, same_key}
use Rattle.morsel_group.specs.Locals.{AreSameGroupBy, HasGroupedRows, HasShape, HasTakenRows, HaveRowsIfAny, HaveTaken, HeldGroups, IsGroupBy, IsGroupFault, StaysGroupBy, TakesColumns, held_in}
use Rattle.morsel_group.proofs.GroupingLemmas.{merges_keys, passing-append}
use Rattle.morsel_group.proofs.KeyLemmas.{arrived-longer}

pub some_none : {X : Type 0} {x : X} → Some x ≡ None → ⊥
some_none e = cc

-- what holds anyway holds where there is an answer
pub on_ok : {X : Type 0} (P : Type 0) (result : Result X Fault) → P → OnOk result P
on_ok P (Ok x) holds = holds
on_ok P (Err fault) holds = tt

-- two that are one group-by that was asked for are the same
pub same_asked : (fields : List Field) (asked : GroupAsked) (a b : Option HeldGroups) → IsGroupBy fields asked a → IsGroupBy fields asked b → AreSameGroupBy a b
same_asked fields asked None b is other = tt
same_asked fields asked (Some a) None is other = tt
same_asked fields asked (Some a) (Some b) is other = (other.0 ∙ sym is.0, other.1 ∙ sym is.1, other.2 ∙ sym is.2)

-- so all of several are
pub all_alike : (fields : List Field) (asked : GroupAsked) (locals : List (Option HeldGroups)) → All (IsGroupBy fields asked) locals → (i j : ℕ) → i < length locals → j < length locals → AreSameGroupBy (get_or locals i None) (get_or locals j None)
all_alike fields asked locals all i j inside within = same_asked fields asked (get_or locals i None) (get_or locals j None) (all i None inside) (all j None within)

-- and one that stays a group-by is the one that was asked for
pub still_asked : (fields : List Field) (asked : GroupAsked) (old new : Option HeldGroups) → IsGroupBy fields asked old → StaysGroupBy old new → IsGroupBy fields asked new
still_asked fields asked None new is stays = absurd is
still_asked fields asked (Some old) None is stays = absurd stays
still_asked fields asked (Some old) (Some new) is stays = (stays.0 ∙ is.0, stays.1 ∙ is.1, stays.2 ∙ is.2)

-- and takes rows of its columns
pub takes_asked : (fields : List Field) (asked : GroupAsked) (local : Option HeldGroups) → IsGroupBy fields asked local → TakesColumns fields local
takes_asked fields asked None is = tt
takes_asked fields asked (Some local) is = sym is.0

-- what is like one is like another that is like it
pub alike_next : (groups other next : HeldGroups) (held : Option HeldGroups) → AreSameGroupBy (Some groups) (Some other) → AreSameGroupBy (Some groups) (Some next) → AreSameGroupBy (Some other) held → AreSameGroupBy (Some next) held
alike_next groups other next None alike same is = tt
alike_next groups other next (Some held) alike same is = (is.0 ∙ alike.0 ∙ sym same.0, is.1 ∙ alike.1 ∙ sym same.1, is.2 ∙ alike.2 ∙ sym same.2)

-- the first stays the group-by that is like it
pub stays_first : (first : Option HeldGroups) (whole : HeldGroups) → AreSameGroupBy (Some whole) first → StaysGroupBy first (Some whole)
stays_first None whole alike = tt
stays_first (Some first) whole alike = (sym alike.0, sym alike.1, sym alike.2)

-- the shape of one is that of another that is like it
pub shape_alike : (first other : Option HeldGroups) (rows : List RowAt) (shape : GroupShape) → AreSameGroupBy first other → HasShape first shape → HasTakenRows other rows → HasShape other shape
shape_alike None other rows shape alike is taken = absurd is
shape_alike (Some first) None rows shape alike is taken = absurd taken
shape_alike (Some first) (Some other) rows shape alike is taken = alike.1 ∙ is

-- what several have taken, where one of them is looked at
pub record TakenSplit (before : List (Option HeldGroups)) (local : Option HeldGroups) (rest : List (Option HeldGroups)) (lists : List (List RowAt)) : Type 0 where
  pub init : List (List RowAt)
  pub own : List RowAt
  pub later : List (List RowAt)
  pub is : lists ≡ init ++ own ∷ later
  pub before_taken : HaveTaken before init
  pub own_taken : HasTakenRows local own
  pub later_taken : HaveTaken rest later

pub taken_split : (before : List (Option HeldGroups)) (local : Option HeldGroups) (rest : List (Option HeldGroups)) (lists : List (List RowAt)) → HaveTaken (before ++ local ∷ rest) lists → TakenSplit before local rest lists
taken_split [] local rest [] taken = absurd taken
taken_split [] local rest (own ∷ later) (here, others) = record { init = []; own = own; later = later; is = refl; before_taken = tt; own_taken = here; later_taken = others }
taken_split (b ∷ before) local rest [] taken = absurd taken
taken_split (b ∷ before) local rest (rows ∷ lists) (here, others) =
    let found = taken_split before local rest lists others in
    record { init = rows ∷ found.init; own = found.own; later = found.later; is = ap (λ (ls : List (List RowAt)). rows ∷ ls) found.is; before_taken = (here, found.before_taken); own_taken = found.own_taken; later_taken = found.later_taken }

-- all rows, in the same way
pub flat_split : (init : List (List RowAt)) (own : List RowAt) (later : List (List RowAt)) → flat_map (λ rows. rows) (init ++ own ∷ later) ≡ (flat_map (λ rows. rows) init ++ own) ++ flat_map (λ rows. rows) later
flat_split [] own later = refl
flat_split (rows ∷ init) own later =
    let all = flat_map (λ (rs : List RowAt). rs) init in
    let rest = flat_map (λ (rs : List RowAt). rs) later in
    ap (λ (rs : List RowAt). rows ++ rs) (flat_split init own later) ∙ sym (append_assoc rows (all ++ own) rest) ∙ ap (λ (rs : List RowAt). rs ++ rest) (sym (append_assoc rows all own))

-- nothing was taken by none
pub none_later : (later : List (List RowAt)) → HaveTaken [] later → flat_map (λ rows. rows) later ≡ []
none_later [] taken = refl
none_later (rows ∷ later) taken = absurd taken

-- a fault of some rows is one of more
pub more_fault : (shape : GroupShape) (rows more : List RowAt) (fault : Fault) → IsGroupFault shape rows fault → IsGroupFault shape (rows ++ more) fault
more_fault shape rows more fault (inl memory) = inl memory
more_fault shape rows more fault (inr (inl (is, many))) =
    let all = ap length (merges_keys shape rows more) in
    let longer = arrived-longer (distinct_keys shape rows) (distinct_keys shape more) in
    inr (inl (is, omega (arith, many, all, longer)))
more_fault shape rows more fault (inr (inr (is, (key, long)))) =
    let all = ap length (passing-append (λ (r : RowAt). same_key key (cells_at shape.keys r.row)) rows more) ∙ length-append (rows_at_key shape key rows) (rows_at_key shape key more) in
    inr (inr (is, (key, omega (arith, long, all))))

-- there are groups where one was taken, and none before
abbrev pub HaveBegun : Option Groups → List (Option HeldGroups) → Type 0
HaveBegun None taken = taken ≡ []
HaveBegun (Some g) taken = Unit {0}

-- the rows that one more has taken come to those before
pub rows_more : (before : List (Option HeldGroups)) (local : Option HeldGroups) (whole : Option Groups) (next : Groups) (lists : List (List RowAt)) → ((ls : List (List RowAt)) → HaveTaken before ls → HaveRowsIfAny whole (flat_map (λ rows. rows) ls))
    → ((rows more : List RowAt) → HaveRowsIfAny whole rows → HasTakenRows local more → HasGroupedRows (held_in next) (rows ++ more)) → HaveTaken (before ++ local ∷ []) lists → HasGroupedRows (held_in next) (flat_map (λ rows. rows) lists)
rows_more before local whole next lists held joined taken =
    let split = taken_split before local [] lists taken in
    let made = joined (flat_map (λ (rows : List RowAt). rows) split.init) split.own (held split.init split.before_taken) split.own_taken in
    let all = ap (flat_map (λ (rows : List RowAt). rows)) split.is ∙ flat_split split.init split.own split.later ∙ ap (λ (rs : List RowAt). (flat_map (λ (rows : List RowAt). rows) split.init ++ split.own) ++ rs) (none_later split.later split.later_taken)
    ∙ append-nil (flat_map (λ (rows : List RowAt). rows) split.init ++ split.own) in
    subst (λ (rs : List RowAt). HasGroupedRows (held_in next) rs) (sym all) made

-- and a fault that comes then is one of all rows
pub rows_refused : (before : List (Option HeldGroups)) (local : Option HeldGroups) (rest locals : List (Option HeldGroups)) (whole : Option Groups) (fault : Fault) (lists : List (List RowAt)) (shape : GroupShape)
    → before ++ local ∷ rest ≡ locals → ((ls : List (List RowAt)) → HaveTaken before ls → HaveRowsIfAny whole (flat_map (λ rows. rows) ls))
    → ((rows more : List RowAt) (s : GroupShape) → HaveRowsIfAny whole rows → HasTakenRows local more → HasShape local s → IsGroupFault s (rows ++ more) fault) → AreSameGroupBy (get_or locals 0 None) local
    → HaveTaken locals lists → HasShape (get_or locals 0 None) shape → IsGroupFault shape (flat_map (λ rows. rows) lists) fault
rows_refused before local rest locals whole fault lists shape all held refused alike taken is =
    let split = taken_split before local rest lists (subst (λ (ls : List (Option HeldGroups)). HaveTaken ls lists) (sym all) taken) in
    let own = shape_alike (get_or locals 0 None) local split.own shape alike is split.own_taken in
    let due = refused (flat_map (λ (rows : List RowAt). rows) split.init) split.own shape (held split.init split.before_taken) split.own_taken own in
    let whole_rows = ap (flat_map (λ (rows : List RowAt). rows)) split.is ∙ flat_split split.init split.own split.later in
    subst (λ (rs : List RowAt). IsGroupFault shape rs fault) (sym whole_rows) (more_fault shape (flat_map (λ (rows : List RowAt). rows) split.init ++ split.own) (flat_map (λ (rows : List RowAt). rows) split.later) fault due)

-- all of one at least have these rows
pub whole_taken : (locals : List (Option HeldGroups)) (whole : Option Groups) (lists : List (List RowAt)) → 0 < length locals → HaveBegun whole locals → HaveRowsIfAny whole (flat_map (λ rows. rows) lists) → HasTakenRows (option_map held_in whole) (flat_map (λ rows. rows) lists)
whole_taken locals None lists some begun rows = let none = ap length begun in absurd (omega (arith, some, none))
whole_taken locals (Some g) lists some begun rows = rows

pub whole_stays : (locals : List (Option HeldGroups)) (whole : Option Groups) → 0 < length locals → HaveBegun whole locals → AreSameGroupBy (option_map held_in whole) (get_or locals 0 None) → StaysGroupBy (get_or locals 0 None) (option_map held_in whole)
whole_stays locals None some begun alike = let none = ap length begun in absurd (omega (arith, some, none))
whole_stays locals (Some g) some begun alike = stays_first (get_or locals 0 None) (held_in g) alike
