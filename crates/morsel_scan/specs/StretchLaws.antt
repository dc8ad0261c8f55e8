-- What stretches one after the other give, and what the first of them are of all.
use Rattle.std.specs.Prelude.{◌≡◌, ◌↔◌, ℕ, ◌+◌, ◌≤◌, Result, Ok, Err, List, [], ◌++◌, length, take, drop}
use Rattle.morsel_meaning.specs.declared.fault.Fault.{Fault}
use Rattle.morsel_meaning.specs.Values.{Row}
use Rattle.morsel_scan.specs.ScanRows.{followed_by}
use Rattle.morsel_scan.specs.Ahead.{Axis, text_to}
use Rattle.morsel_scan.specs.StretchRows.{collected, Gives, before_fault, HasFaultWithin}

-- places in two parts give what the one gives, and then the other
abbrev pub CollectsParts : Type 0
CollectsParts = (first later : List (Result (List Row) Fault)) → collected (first ++ later) ≡ followed_by (collected first) (collected later)

-- two stretches, one after the other, give the rows of both
abbrev pub GivesOn : Type 0
GivesOn = (gives : List (Result (List Row) Fault)) (from between to : ℕ) (first later : List Row)
    → Gives gives from between first → Gives gives between to later → Gives gives from to (first ++ later)

-- what the first places give are the first rows before the first fault
abbrev pub GivesFront : Type 0
GivesFront = (gives : List (Result (List Row) Fault)) (to : ℕ) (rows : List Row) → Gives gives 0 to rows
    → (later : List Row) × (before_fault gives ≡ rows ++ later)

-- all places give rows exactly where there is no fault, and these are then all before the first
abbrev pub GivesAll : Type 0
GivesAll = (gives : List (Result (List Row) Fault)) (rows : List Row)
    → (Gives gives 0 (length gives) rows ↔ (collected gives ≡ Ok rows)) × (collected gives ≡ Ok rows → before_fault gives ≡ rows)

-- some rows of a stretch are, among those before the first fault, the ones after all that the places before the stretch give and those that are left out
abbrev pub GivesMidst : Type 0
GivesMidst = (gives : List (Result (List Row) Fault)) (from to skip len : ℕ) (done all : List Row)
    → Gives gives 0 from done → Gives gives from to all → skip + len ≤ length all
    → (length done + skip + len ≤ length (before_fault gives))
    × (take (length done + skip + len) (before_fault gives) ≡ take (length done + skip) (before_fault gives) ++ take len (drop skip all))

-- a stretch whose places do not give rows has the fault that they give
abbrev pub GivesFaults : Type 0
GivesFaults = (gives : List (Result (List Row) Fault)) (fault : Fault) → collected gives ≡ Err fault → HasFaultWithin gives 0 (length gives) fault

-- rows one after the other add their texts one after the other
pub record AddsTexts (text_of : List Row → List ℕ) : Type 0 where
  pub nothing : text_of [] ≡ []
  pub more : (first later : List Row) → text_of (first ++ later) ≡ text_of first ++ text_of later

-- the text before the end of a stretch is that before its beginning and that of the rows which the stretch gives
abbrev pub TextGoesOn : Type 0
TextGoesOn = (axis : Axis) (from to : ℕ) (rows : List Row) → AddsTexts axis.text_of → Gives axis.gives from to rows
    → text_to axis to ≡ text_to axis from + length (axis.text_of rows)
