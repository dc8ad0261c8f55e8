-- Sets of names.
use Rattle.std.specs.Prelude.{◌≡◌, ℕ, List}
use Rattle.std.specs.BTreeSet.{BTreeSet, contains}
use Rattle.std.specs.Cmp.Lexicographic.{slice_cmp}
use Rattle.std.specs.Ordering.{nat_cmp}
use Rattle.morsel_frame.specs.Names.{stands_in}
use denote.Ref.{Bor}

-- the set has exactly these names
abbrev pub HasNames : BTreeSet (Bor (List ℕ)) → List (List ℕ) → Type 0
HasNames set names = (name : Bor (List ℕ)) → contains (λ x y. slice_cmp nat_cmp x.now y.now) set name ≡ stands_in name.now names
