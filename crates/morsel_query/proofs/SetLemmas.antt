-- Sets of names, as they are filled.
use Rattle.std.proofs.Common.{◌≡◌, ℕ, ◌+◌, ◌<◌, Bool, true, false, ◌||◌, List, [], ◌∷◌, refl, ap, sym, ◌∙◌, length, drop, get_or}
use Rattle.std.specs.BTreeSet.{BTreeSet, Updates}
use Rattle.std.specs.Cmp.Lexicographic.{slice_cmp}
use Rattle.std.specs.Ordering.{nat_cmp}
use Rattle.std.specs.Str.{bytes_eq}
use Rattle.std.proofs.lemmas.List.{drop_more}
use Rattle.morsel_meaning.specs.declared.value.Field.{Field}
use Rattle.morsel_meaning.specs.Values.{names_of}
use Rattle.morsel_frame.specs.Names.{stands_in}
use Rattle.morsel_frame.proofs.SeenNames.{seen-more}
use Rattle.morsel_query.specs.NameSets.{HasNames}
use denote.Ref.{Bor}

-- the names of the set and those that are left are all
abbrev pub HasOthers : BTreeSet (Bor (List ℕ)) → List (List ℕ) → List (List ℕ) → Type 0
HasOthers set left all = (before : List (List ℕ)) × HasNames set before × ((name : List ℕ) → stands_in name all ≡ (stands_in name before || stands_in name left))

moved : (t b r : Bool) → (b || (t || r)) ≡ ((t || b) || r)
moved true true r = refl
moved true false r = refl
moved false b r = refl

or_false : (b : Bool) → (b || false) ≡ b
or_false true = refl
or_false false = refl

-- one more
pub others-more : (old new : BTreeSet (Bor (List ℕ))) (key : Bor (List ℕ)) (left rest all : List (List ℕ)) → HasOthers old left all → left ≡ key.now ∷ rest
    → Updates (λ x y. slice_cmp nat_cmp x.now y.now) old new key true → HasOthers new rest all
others-more old new key left rest all (before, holds, split) next updates = (
  key.now ∷ before,
  seen-more old new key before holds updates,
  λ name.
      split name
      ∙ ap (λ (names : List (List ℕ)). stands_in name before || stands_in name names) next
      ∙ moved (bytes_eq key.now name) (stands_in name before) (stands_in name rest),
)

-- none is left
pub others-none : (set : BTreeSet (Bor (List ℕ))) (left all : List (List ℕ)) → HasOthers set left all → left ≡ [] → HasNames set all
others-none set left all (before, holds, split) none = λ name.
    holds name
    ∙ sym (split name.now ∙ ap (λ (names : List (List ℕ)). stands_in name.now before || stands_in name.now names) none ∙ or_false (stands_in name.now before))

-- the names that are left begin with this one
pub next_name : (names : List (List ℕ)) (i : ℕ) (name text : List ℕ) → text ≡ name → i < length names → name ≡ get_or names i name → drop i names ≡ text ∷ drop (i + 1) names
next_name names i name text same within read = drop_more names i name within ∙ ap (λ (n : List ℕ). n ∷ drop (i + 1) names) (sym read ∙ sym same)

-- and those of columns too
pub next_column : (fields : List Field) (i : ℕ) (field : Field) (text : List ℕ) → text ≡ field.name → i < length fields → field ≡ get_or fields i field
    → names_of (drop i fields) ≡ text ∷ names_of (drop (i + 1) fields)
next_column fields i field text same within read =
    ap names_of (drop_more fields i field within)
    ∙ ap (λ (n : List ℕ). n ∷ names_of (drop (i + 1) fields)) (ap (λ (f : Field). f.name) (sym read) ∙ sym same)
