-- What the steps of a call on a group or a token found, as the traits of lanes have it.
use Rattle.std.specs.Prelude.{◌≡◌, ◌⊎◌, Bool, List, []}
use Rattle.morsel_words.specs.Since.{WasFound}
use Rattle.morsel_word_groups.specs.declared.view.GroupFound.{GroupFound}
use Rattle.morsel_word_groups.specs.declared.view.GroupFound.TheVariants as found

-- a step found no token left; or nothing was done with the group since it was made
abbrev pub FoundNone : List GroupFound → List GroupFound → Type 0
FoundNone old new = (new ≡ []) ⊎ WasFound old new found.NoneLeft

-- a step of a token that had found this took one from the count
abbrev pub FoundLess : List GroupFound → Type 0
FoundLess old = (new : List GroupFound) × (last : Bool) × WasFound old new (found.Less last)
