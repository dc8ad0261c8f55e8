-- What each step of a group or a token makes of what its seat knows.
use Rattle.std.specs.Prelude.{◌≡◌, ℕ, ◌+◌, ◌-◌, ◌/◌, ◌^◌, ◌≤◌, ◌==◌, Bool, true, false, [], ◌∷◌, ⊤}
use Rattle.atomic_table.specs.Table.{Me, Step}
use Rattle.morsel_word_groups.specs.declared.view.GroupFound.TheVariants as found
use Rattle.morsel_word_groups.specs.declared.view.GroupPart.{GroupPart}
use Rattle.morsel_word_groups.specs.declared.view.GroupPart.TheVariants as part
use Rattle.morsel_word_groups.specs.declared.view.GroupView.{GroupView}

-- what is seen of a seat
abbrev pub AtGroup : Type 0
AtGroup = Me (Unit {0}) GroupView

-- the group, or a token that was not released
abbrev pub IsOpen : GroupPart → Type 0
IsOpen part.Group = ⊤
IsOpen part.Token = ⊤
IsOpen part.Released = ⊥

-- one token more is counted, from which the seat has still to part
abbrev pub with_one_more : GroupView → GroupView
with_one_more v = record { part = v.part; added = true; spare = v.spare - 1; owes = v.owes; waits = v.waits; found = found.More ∷ v.found }

abbrev pub AddsToken : Step (Unit {0}) → AtGroup → ℕ → AtGroup → Type 0
AddsToken st m n m' = m' ≡ (with_one_more m.0, m.1)

-- the group is looked at: it has all its parts again where no token is left; else it need not look again
abbrev pub looked : Bool → GroupView → GroupView
looked true v = record { part = v.part; added = v.added; spare = 2 ^ 62; owes = v.owes; waits = v.waits; found = found.NoneLeft ∷ v.found }
looked false v = record { part = v.part; added = v.added; spare = v.spare; owes = false; waits = v.waits; found = found.SomeLeft ∷ v.found }

abbrev pub Looks : Step (Unit {0}) → AtGroup → ℕ → AtGroup → Type 0
Looks st m n m' = m' ≡ (looked (n == 0) m.0, m.1)

-- a number is put into the wait word, and the group has to look again
abbrev pub registered : ℕ → GroupView → GroupView
registered number v = record { part = v.part; added = v.added; spare = v.spare; owes = true; waits = number; found = found.Waits number ∷ v.found }

abbrev pub Registers : Step (Unit {0}) → AtGroup → ℕ → AtGroup → Type 0
Registers st m n m' = m' ≡ (registered st.first m.0, m.1)

-- the wait word is cleared, since no token is left
abbrev pub withdrawn : GroupView → GroupView
withdrawn v = record { part = v.part; added = v.added; spare = v.spare; owes = false; waits = 0; found = v.found }

abbrev pub Withdraws : Step (Unit {0}) → AtGroup → ℕ → AtGroup → Type 0
Withdraws st m n m' = m' ≡ (withdrawn m.0, m.1)

-- a token is counted no more; where it was the last it has to take the number of who waits
abbrev pub released : Bool → GroupView → GroupView
released last v = record { part = part.Released; added = false; spare = 0; owes = last; waits = 0; found = found.Less last ∷ v.found }

abbrev pub ReleasesToken : Step (Unit {0}) → AtGroup → ℕ → AtGroup → Type 0
ReleasesToken st m n m' = m' ≡ (released (n == 1) m.0, m.1)

-- the last token takes the number of who waits
abbrev pub took : ℕ → GroupView → GroupView
took number v = record { part = v.part; added = v.added; spare = v.spare; owes = false; waits = v.waits; found = found.Waiter number ∷ v.found }

abbrev pub TakesNumber : Step (Unit {0}) → AtGroup → ℕ → AtGroup → Type 0
TakesNumber st m n m' = (n ≤ 4294967296) × (m' ≡ (took n m.0, m.1))

-- a seat that is a token with so many parts
abbrev pub token_with : ℕ → GroupView
token_with parts = record { part = part.Token; added = false; spare = parts - 1; owes = false; waits = 0; found = [] }

-- the group and a new token are parted
abbrev pub group_left : GroupView → GroupView
group_left v = record { part = part.Group; added = false; spare = v.spare + 1 - 2 ^ 31; owes = v.owes; waits = v.waits; found = v.found }

abbrev pub group_given : GroupView → GroupView
group_given v = token_with (2 ^ 31)

-- a token and another one are parted
abbrev pub token_left : GroupView → GroupView
token_left v = record { part = part.Token; added = false; spare = v.spare + 2 - (v.spare + 2) / 2 - 1; owes = v.owes; waits = v.waits; found = v.found }

abbrev pub token_given : GroupView → GroupView
token_given v = token_with ((v.spare + 2) / 2)
