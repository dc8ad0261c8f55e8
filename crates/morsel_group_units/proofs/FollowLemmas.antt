-- Loads that follow one another.
use Rattle.std.proofs.Common.{◌≡◌, ◌≤◌, ◌<◌, [], ◌∷◌, ◌+◌, List, ℕ, None, Some, length, map, drop, get_or, max, refl, sym, ap, subst, ◌∙◌, arith, Bool, true, false}
use Rattle.std.proofs.lemmas.List.{at_drop_more}
use Rattle.morsel_load.specs.declared.morsels.Stretch.{Stretch}
use Rattle.morsel_keys.specs.Reductions.{input_place}
use Rattle.morsel_rows_job.specs.RowsJobs.{FollowCuts, GoOn, GoesOnBehind, RowsCut}
use Rattle.morsel_group_units.specs.NextCuts.{BeginsAt, IsCutAt, next_after, next_behind}
use Rattle.morsel_group_units.specs.TakenLoads.{PlacesRise, greatest_place, taken_cut}
use Rattle.morsel_group_units.specs.declared.order.NextCut.{NextCut}
use Rattle.morsel_group_units.specs.declared.taken_load.TakenLoad.{TakenLoad}

-- cuts that begin where the next one has to, and follow one another up to a place
abbrev pub GoOnFrom : NextCut → List RowsCut → ℕ → Type 0
GoOnFrom next [] to = (next.to ≡ None) × (next.from ≡ to)
GoOnFrom next (cut ∷ more) to = BeginsAt next cut.stretch × GoOnFrom (next_behind cut) more to

-- where they go on behind a cut, and where they end
ends_behind : (stretch : Stretch) (rows to : ℕ) (last : Bool) → GoOnFrom (next_after last stretch rows) [] to → (last ≡ true) × (stretch.to ≡ to)
ends_behind stretch rows to true goes = (refl, goes.1)
ends_behind stretch rows to false goes = absurd (let none : Some stretch.to ≡ None = goes.0 in cc)

goes_behind : (stretch next : Stretch) (rows : ℕ) (last : Bool) → BeginsAt (next_after last stretch rows) next → GoesOnBehind last stretch rows next
goes_behind stretch next rows true begins = (begins.0, begins.1)
goes_behind stretch next rows false begins = (begins.0, begins.2, begins.1)

go_on : (cut : RowsCut) (more : List RowsCut) (to : ℕ) → GoOnFrom (next_behind cut) more to → GoOn cut more to
go_on cut [] to goes = ends_behind cut.stretch (length cut.frame.rows) to cut.stretch.last goes
go_on cut (next ∷ more) to (begins, goes) = (goes_behind cut.stretch next.stretch (length cut.frame.rows) cut.stretch.last begins, go_on next more to goes)

-- from the first place on
pub follow_first : (cuts : List RowsCut) (to : ℕ) → GoOnFrom (record { from = 0; to = None; skip = 0 }) cuts to → FollowCuts cuts to
follow_first [] to goes = sym goes.1
follow_first (cut ∷ more) to (begins, goes) = (begins.0, begins.1, go_on cut more to goes)

-- the loads from a place of the list on
part_next : (loads : List TakenLoad) (i : ℕ) (load : TakenLoad) → i < length loads → load ≡ get_or loads i load → drop i loads ≡ load ∷ drop (i + 1) loads
part_next loads i load within read = at_drop_more (λ (ls : List TakenLoad). ls) loads i load within ∙ ap (λ (l : TakenLoad). l ∷ drop (i + 1) loads) (sym read)

-- with one load more before them
pub follow_next : (next then : NextCut) (loads : List TakenLoad) (i : ℕ) (load : TakenLoad) (to : ℕ) (Whole : Type 0) → i < length loads → load ≡ get_or loads i load → IsCutAt next load then
    → (GoOnFrom next (map taken_cut (drop i loads)) to → Whole) → GoOnFrom then (map taken_cut (drop (i + 1) loads)) to → Whole
follow_next next then loads i load to Whole within read is before goes =
    let rest = subst (λ (n : NextCut). GoOnFrom n (map taken_cut (drop (i + 1) loads)) to) is.then_is goes in
    let here : GoOnFrom next (map taken_cut (load ∷ drop (i + 1) loads)) to = (is.begins, rest) in
    before (subst (λ (ls : List TakenLoad). GoOnFrom next (map taken_cut ls) to) (sym (part_next loads i load within read)) here)

-- the place of one load more is behind those before it
pub rise_next : (at end : ℕ) (loads : List TakenLoad) (i : ℕ) (load : TakenLoad) (Whole : Type 0) → i < length loads → load ≡ get_or loads i load → at ≤ input_place load.seq load.arrival → end ≡ input_place load.seq load.arrival + load.count
    → (PlacesRise at (drop i loads) → Whole) → PlacesRise end (drop (i + 1) loads) → Whole
rise_next at end loads i load Whole within read up is before rise =
    let there : end ≡ input_place load.seq load.arrival + length load.frame.value.rows = is ∙ ap (λ (n : ℕ). input_place load.seq load.arrival + n) load.many in
    let here : PlacesRise at (load ∷ drop (i + 1) loads) = (up, subst (λ (n : ℕ). PlacesRise n (drop (i + 1) loads)) there rise) in
    before (subst (λ (ls : List TakenLoad). PlacesRise at ls) (sym (part_next loads i load within read)) here)

max_assoc : (a b c : ℕ) → max (max a b) c ≡ max a (max b c)
max_assoc a b c = omega arith

-- the greatest end, with one load more
pub greatest_next : (end : ℕ) (loads : List TakenLoad) (i : ℕ) (load : TakenLoad) → i < length loads → load ≡ get_or loads i load → max end (greatest_place (drop i loads)) ≡ greatest_place loads
    → max (max end load.stretch.to) (greatest_place (drop (i + 1) loads)) ≡ greatest_place loads
greatest_next end loads i load within read before =
    max_assoc end load.stretch.to (greatest_place (drop (i + 1) loads)) ∙ ap (λ (ls : List TakenLoad). max end (greatest_place ls)) (sym (part_next loads i load within read)) ∙ before
