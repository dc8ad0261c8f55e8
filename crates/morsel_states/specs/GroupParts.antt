-- What groups have of other rows, put to what they have.
use Rattle.std.specs.Prelude.{◌≡◌, ◌<◌, ◌≤◌, ◌+◌, ℕ, nat_eq, if◌then◌else◌, Option, None, List, [], ◌∷◌, length, get_or, set, take, Result, Ok, Err}
use Rattle.std.specs.List.{All}
use Rattle.morsel_meaning.specs.declared.fault.Fault.{Fault}
use Rattle.morsel_frame.specs.Refusals.{Refuses}
use Rattle.morsel_keys.specs.declared.reduction.Reduction.{Reduction}
use Rattle.morsel_keys.specs.Groups.{both_parts}
use Rattle.morsel_keys.specs.Reductions.{Entry, plus_entries, entry_len, len_fault, len_limit}

-- what is kept for groups, with what another has put to one of them
abbrev pub with_group_part : Reduction → List (Option Entry) → ℕ → Option Entry → List (Option Entry)
with_group_part op entries group part = set entries group (both_parts (plus_entries op) (get_or entries group None) part)

-- what is kept for groups, with what others have put to these groups, one after the other
abbrev pub with_group_parts : Reduction → List (Option Entry) → List ℕ → List (Option Entry) → List (Option Entry)
with_group_parts op entries [] parts = entries
with_group_parts op entries (group ∷ groups) [] = entries
with_group_parts op entries (group ∷ groups) (part ∷ parts) = with_group_parts op (with_group_part op entries group part) groups parts

-- what others have that is put to one group
abbrev pub group_part : Reduction → ℕ → List ℕ → List (Option Entry) → Option Entry
group_part op group [] parts = None
group_part op group (g ∷ groups) [] = None
group_part op group (g ∷ groups) (part ∷ parts) = both_parts (plus_entries op) (if nat_eq g group then part else None) (group_part op group groups parts)

-- what came before one was put to its group, and that one was refused: the two have more values than a group may have
pub record StopsParts (op : Reduction) (old : List (Option Entry)) (groups : List ℕ) (parts : List (Option Entry)) (fault : Fault) (new : List (Option Entry)) : Type 0 where
  pub at : ℕ
  pub within : at < length groups
  pub before : new ≡ with_group_parts op old (take at groups) (take at parts)
  pub refused : Refuses {T = Unit {0}} (len_fault (entry_len (get_or new (get_or groups at 0) None) + entry_len (get_or parts at None))) (Err fault)

-- what others have is put to groups, or it stops where one is refused
abbrev pub PutsGroupParts : Reduction → List (Option Entry) → List ℕ → List (Option Entry) → List (Option Entry) → Result (Unit {0}) Fault → Type 0
PutsGroupParts op old groups parts new (Ok done) = new ≡ with_group_parts op old groups parts
PutsGroupParts op old groups parts new (Err fault) = StopsParts op old groups parts fault new

-- none of these groups has more values than may be
abbrev pub AreWithinLimit : List ℕ → List (Option Entry) → Type 0
AreWithinLimit groups entries = All (λ group. entry_len (get_or entries group None) ≤ len_limit) groups

-- each group has what it had before, and what others have that was put to it
abbrev pub KeepsGroupParts : Type 0
KeepsGroupParts = (op : Reduction) (entries : List (Option Entry)) (groups : List ℕ) (parts : List (Option Entry)) (group : ℕ) → group < length entries
    → get_or (with_group_parts op entries groups parts) group None ≡ both_parts (plus_entries op) (get_or entries group None) (group_part op group groups parts)
