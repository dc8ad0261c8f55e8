-- Names seen so far, and what the first repeated name says of all.
use Rattle.std.proofs.Common.{◌≡◌, ℕ, Bool, true, false, if◌then◌else◌, ◌||◌, List, [], ◌∷◌, ◌++◌, Some, None, refl, ap, sym, ◌∙◌, ◌+◌, ◌<◌, length, drop, get_or, cond, not}
use Rattle.std.specs.BTreeSet.{BTreeSet, contains, Updates}
use Rattle.std.specs.Cmp.Lexicographic.{slice_cmp}
use Rattle.std.specs.List.{IsDistinct, AllByRecursion}
use Rattle.std.specs.Ordering.{nat_cmp}
use Rattle.std.specs.Str.{bytes_eq}
use Rattle.std.proofs.lemmas.List.{at_drop_more}
use Rattle.std.proofs.lemmas.Map.Keys.{IsDistinct-cons}
use Rattle.std.proofs.lemmas.Map.Text.{is_eq-slice_cmp}
use Rattle.morsel_meaning.specs.declared.value.Field.{Field}
use Rattle.morsel_meaning.specs.Values.{names_of}
use Rattle.morsel_frame.specs.Names.{stands_in, first_known}
use denote.Ref.{Bor}

-- the set has exactly these names
abbrev pub HoldsNames : BTreeSet (Bor (List ℕ)) → List (List ℕ) → Type 0
HoldsNames seen before = (name : Bor (List ℕ)) → contains (λ x y. slice_cmp nat_cmp x.now y.now) seen name ≡ stands_in name.now before

neither : (a b : Bool) → (a || b) ≡ false → (a ≡ false) × (b ≡ false)
neither true b none = cc
neither false b none = (refl, none)

-- a name among others that none of them is
any-apart : (front before : List (List ℕ)) (n y : List ℕ) → stands_in y (front ++ n ∷ before) ≡ false → bytes_eq n y ≡ false
any-apart [] before n y none = (neither (bytes_eq n y) (stands_in y before) none).0
any-apart (name ∷ front) before n y none = any-apart front before n y (neither (bytes_eq name y) (stands_in y (front ++ n ∷ before)) none).1

apart-step : (found : Bool) (front before names : List (List ℕ)) (n y : List ℕ) → stands_in y (front ++ n ∷ before) ≡ found → (if found then Some y else first_known (y ∷ front ++ n ∷ before) names) ≡ None → (bytes_eq n y ≡ false) × (first_known (y ∷ front ++ n ∷ before) names ≡ None)
apart-step true front before names n y stands none = cc
apart-step false front before names n y stands none = (any-apart front before n y stands, none)

-- where no name occurs before it, none is one of those that came before them all
known-apart : (front before names : List (List ℕ)) (n : List ℕ) → first_known (front ++ n ∷ before) names ≡ None → AllByRecursion (λ y. bytes_eq n y ≡ false) names
known-apart front before [] n none = tt
known-apart front before (y ∷ names) n none =
    let step = apart-step (stands_in y (front ++ n ∷ before)) front before names n y refl none in
    (step.0, known-apart (y ∷ front) before names n step.1)

distinct-step : (found : Bool) (before names : List (List ℕ)) (n : List ℕ) → (if found then Some n else first_known (n ∷ before) names) ≡ None → first_known (n ∷ before) names ≡ None
distinct-step true before names n none = cc
distinct-step false before names n none = none

-- and no two of them are the same
pub distinct-from_known : (before names : List (List ℕ)) → first_known before names ≡ None → IsDistinct bytes_eq names
unfolding IsDistinct
distinct-from_known before [] none = tt
distinct-from_known before (n ∷ names) none =
    let behind = distinct-step (stands_in n before) before names n none in
    IsDistinct-cons bytes_eq n names (known-apart [] before names n behind) (distinct-from_known (n ∷ before) names behind)

either : (a b : Bool) → cond a true b ≡ (a || b)
either true b = refl
either false b = refl

-- a set with one name more
pub seen-more : (old new : BTreeSet (Bor (List ℕ))) (key : Bor (List ℕ)) (before : List (List ℕ)) → HoldsNames old before → Updates (λ x y. slice_cmp nat_cmp x.now y.now) old new key true → HoldsNames new (key.now ∷ before)
seen-more old new key before holds updates = λ name.
    updates.0 name
    ∙ ap (λ b. cond b true (contains (λ x y. slice_cmp nat_cmp x.now y.now) old name)) (is_eq-slice_cmp key.now name.now)
    ∙ ap (cond (bytes_eq key.now name.now) true) (holds name)
    ∙ either (bytes_eq key.now name.now) (stands_in name.now before)

-- a name that was not added was there
pub was_absent : (there added : Bool) → added ≡ not there → added ≡ true → there ≡ false
was_absent true added is known = cc
was_absent false added is known = refl

-- a field whose name does not occur before it
pub known-step : (before : List (List ℕ)) (fields : List Field) (i : ℕ) (field : Field) (name : List ℕ) → name ≡ field.name → i < length fields → field ≡ get_or fields i field → stands_in name before ≡ false → first_known before (names_of (drop i fields)) ≡ first_known (name ∷ before) (names_of (drop (i + 1) fields))
known-step before fields i field name named within read absent =
    at_drop_more (λ fs. first_known before (names_of fs)) fields i field within
    ∙ ap (λ (f : Field). first_known before (f.name ∷ names_of (drop (i + 1) fields))) (sym read)
    ∙ ap (λ n. first_known before (n ∷ names_of (drop (i + 1) fields))) (sym named)
    ∙ ap (λ b. if b then Some name else first_known (name ∷ before) (names_of (drop (i + 1) fields))) absent
