-- Things beside columns of which only some are read.
use Rattle.std.proofs.Common.{◌≡◌, ◌<◌, ◌≤◌, ◌++◌, [], ◌∷◌, List, ℕ, ◌+◌, length, drop, get_or, map, refl, ap, ◌∙◌, sym, subst, Bool, true, false, if◌then◌else◌, append_assoc, append-nil, arith}
use Rattle.std.proofs.lemmas.List.{at_drop_more, drop_all}
use Rattle.std.specs.List.{filter, AllByRecursion, IsDistinct}
use Rattle.std.specs.Str.{bytes_eq}
use Rattle.morsel_meaning.specs.declared.value.Field.{Field}
use Rattle.morsel_meaning.specs.Values.{names_of}
use Rattle.morsel_frame.specs.Names.{AreDistinct}
use Rattle.morsel_group.specs.Asked.{GroupAsked}
use Rattle.morsel_group_reads.specs.Reads.{is_read, kept_by}

-- a thing that is kept, or is not
abbrev pub kept_one : {T : Type 0} → GroupAsked → Field → T → List T
kept_one asked field thing = if is_read asked field.name then thing ∷ [] else []

-- one more is kept, or is not
pub kept_first : {T : Type 0} (asked : GroupAsked) (field : Field) (fields : List Field) (thing : T) (things : List T) → kept_by asked (field ∷ fields) (thing ∷ things) ≡ kept_one asked field thing ++ kept_by asked fields things
kept_first {T} asked field fields thing things = by (is_read asked field.name)
  where
    by : (t : Bool) → (if t then thing ∷ kept_by asked fields things else kept_by asked fields things) ≡ (if t then thing ∷ [] else []) ++ kept_by asked fields things
    by true = refl
    by false = refl

-- the same, at a place
pub kept_more : {T : Type 0} (asked : GroupAsked) (fields : List Field) (things : List T) (at : ℕ) (field : Field) (thing : T) (kept new : List T) → at < length fields → length things ≡ length fields
    → field ≡ get_or fields at field → thing ≡ get_or things at thing → new ≡ kept ++ kept_one asked field thing
    → new ++ kept_by asked (drop (at + 1) fields) (drop (at + 1) things) ≡ kept ++ kept_by asked (drop at fields) (drop at things)
kept_more {T} asked fields things at field thing kept new within as_many field_is thing_is put =
    ap (λ (xs : List T). xs ++ kept_by asked (drop (at + 1) fields) (drop (at + 1) things)) put
    ∙ append_assoc kept (kept_one asked field thing) (kept_by asked (drop (at + 1) fields) (drop (at + 1) things))
    ∙ ap (λ (xs : List T). kept ++ xs) (sym (kept_first asked field (drop (at + 1) fields) thing (drop (at + 1) things)))
    ∙ ap (λ (f : Field). kept ++ kept_by asked (f ∷ drop (at + 1) fields) (thing ∷ drop (at + 1) things)) field_is
    ∙ sym (at_drop_more (λ (fs : List Field). kept ++ kept_by asked fs (thing ∷ drop (at + 1) things)) fields at field within)
    ∙ ap (λ (t : T). kept ++ kept_by asked (drop at fields) (t ∷ drop (at + 1) things)) thing_is
    ∙ sym (at_drop_more (λ (ts : List T). kept ++ kept_by asked (drop at fields) ts) things at thing (omega (arith, within, as_many)))

-- what is kept of what a call makes of things is what it makes of those that are kept
pub kept_map : {X Y : Type 0} (asked : GroupAsked) (call : X → Y) (fields : List Field) (things : List X) → kept_by asked fields (map call things) ≡ map call (kept_by asked fields things)
kept_map asked call fields [] = refl
kept_map asked call [] (thing ∷ things) = refl
kept_map asked call (field ∷ fields) (thing ∷ things) = by (is_read asked field.name) (kept_map asked call fields things)
  where
    by : (t : Bool) → kept_by asked fields (map call things) ≡ map call (kept_by asked fields things)
        → (if t then call thing ∷ kept_by asked fields (map call things) else kept_by asked fields (map call things)) ≡ map call (if t then thing ∷ kept_by asked fields things else kept_by asked fields things)
    by true later = ap (λ xs. call thing ∷ xs) later
    by false later = later

-- the names of the columns that are kept are those that are read
kept_names : (asked : GroupAsked) (fields : List Field) → names_of (kept_by asked fields fields) ≡ filter (is_read asked) (names_of fields)
kept_names asked [] = refl
kept_names asked (field ∷ fields) = by (is_read asked field.name) (kept_names asked fields)
  where
    by : (t : Bool) → names_of (kept_by asked fields fields) ≡ filter (is_read asked) (names_of fields)
        → names_of (if t then field ∷ kept_by asked fields fields else kept_by asked fields fields) ≡ (if t then field.name ∷ filter (is_read asked) (names_of fields) else filter (is_read asked) (names_of fields))
    by true later = ap (λ names. field.name ∷ names) later
    by false later = later

-- what holds of all holds of those that pass
all_still : (P : List ℕ → Type 0) (test : List ℕ → Bool) (names : List (List ℕ)) → AllByRecursion P names → AllByRecursion P (filter test names)
all_still P test [] all = tt
all_still P test (name ∷ names) all = by (test name) (all_still P test names all.1)
  where
    by : (t : Bool) → AllByRecursion P (filter test names) → AllByRecursion P (if t then name ∷ filter test names else filter test names)
    by true later = (all.0, later)
    by false later = later

-- distinct names of which only some pass are distinct
distinct_still : (test : List ℕ → Bool) (names : List (List ℕ)) → AreDistinct names → AreDistinct (filter test names)
unfolding IsDistinct
distinct_still test [] distinct = tt
distinct_still test (name ∷ names) distinct = by (test name) (distinct_still test names distinct.1)
  where
    by : (t : Bool) → IsDistinct bytes_eq (filter test names) → IsDistinct bytes_eq (if t then name ∷ filter test names else filter test names)
    by true later = (all_still (λ other. bytes_eq name other ≡ false) test names distinct.0, later)
    by false later = later

-- they are as distinct as before
pub kept_distinct : (asked : GroupAsked) (fields : List Field) → AreDistinct (names_of fields) → AreDistinct (names_of (kept_by asked fields fields))
kept_distinct asked fields distinct = subst AreDistinct (sym (kept_names asked fields)) (distinct_still (is_read asked) (names_of fields) distinct)

-- at the end all that is read is kept
pub all_kept : {T : Type 0} (asked : GroupAsked) (fields : List Field) (things kept : List T) (at : ℕ) → length fields ≤ at → length things ≡ length fields
    → kept ++ kept_by asked (drop at fields) (drop at things) ≡ kept_by asked fields things → kept ≡ kept_by asked fields things
all_kept {T} asked fields things kept at past as_many is =
    sym (append-nil kept) ∙ ap (λ (ts : List T). kept ++ kept_by asked (drop at fields) ts) (sym (drop_all at things (omega (arith, past, as_many)))) ∙ is
