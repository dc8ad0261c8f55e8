-- Rows that were looked up, in whatever order.
use Rattle.std.proofs.Common.{◌≡◌, ◌++◌, ◌||◌, [], ◌∷◌, List, ℕ, Bool, map, refl, sym, ap, subst, ◌∙◌}
use Rattle.std.specs.List.{All, list_any}
use Rattle.std.specs.Prelude.{IsPermutation}
use Rattle.std.proofs.lemmas.List.{flat_map_more}
use Rattle.std.proofs.lemmas.List.Elements.{All-map, All-push}
use Rattle.std.proofs.lemmas.List.Folds.{list_any-append}
use Rattle.std.proofs.lemmas.List.Sorted.{list_any-IsPermutation}
use Rattle.morsel_meaning.specs.Values.{Row, Table}
use Rattle.morsel_load.specs.Loads.{LoadSeen, SeenMorsel}
use Rattle.morsel_load.specs.Sources.{SourceSeen}
use Rattle.morsel_load.specs.declared.morsels.Stretch.{Stretch}
use Rattle.morsel_join.specs.declared.build_side.Build.{Build}
use Rattle.morsel_join.specs.BuildSides.{kept_side, rows_of_tables}
use Rattle.morsel_join.specs.Hits.{HaveHit}
use Rattle.morsel_join.specs.Sides.{row_finds}
use Rattle.morsel_join_units.specs.LookedUps.{AreLookedUpOf, looked_rows, rows_looked_up}
use Rattle.morsel_join_units.specs.RowKeepers.{AreKeptOf, FollowUp}
use Rattle.morsel_join_units.specs.declared.looked_up.LookedUp.{LookedUp}
use Rattle.morsel_join_units.specs.declared.row_keeper.KeptRows.{KeptRows}
use Rattle.morsel_join_units.proofs.OrderLemmas.{gives-all}

-- whether a row passes a test is asked load by load
any-by_loads : (test : Row → Bool) (looked : List LookedUp) → list_any test (rows_looked_up looked) ≡ list_any (λ (one : LookedUp). list_any test one.frame.value.rows) looked
any-by_loads test [] = refl
any-by_loads test (one ∷ looked) = list_any-append test one.frame.value.rows (rows_looked_up looked) ∙ ap (λ (b : Bool). list_any test one.frame.value.rows || b) (any-by_loads test looked)

-- the marks are those of the loads in whatever order
pub hit-along : (build : Build) (marks : List Bool) (looked ordered : List LookedUp) → IsPermutation looked ordered → HaveHit build marks (rows_looked_up looked) → HaveHit build marks (rows_looked_up ordered)
hit-along build marks looked ordered same hit = record {
  len = hit.len;
  each = λ j kept is.
      let test : Row → Bool = λ row. row_finds (kept_side build) row kept in
      hit.each j kept is ∙ any-by_loads test looked ∙ list_any-IsPermutation (λ (one : LookedUp). list_any test one.frame.value.rows) looked ordered same ∙ sym (any-by_loads test ordered);
}

-- one load more
pub rows-more : (looked : List LookedUp) (one : LookedUp) → rows_looked_up looked ++ one.frame.value.rows ≡ rows_looked_up (looked ++ one ∷ [])
rows-more looked one = flat_map_more (λ (o : LookedUp). o.frame.value.rows) [] looked one

-- the rows are those of the loads' tables
tables-looked : (looked : List LookedUp) → rows_of_tables (map (λ (rows : KeptRows). rows.frame) (map looked_rows looked)) ≡ rows_looked_up looked
tables-looked [] = refl
tables-looked (one ∷ looked) = ap (λ (rows : List Row). one.frame.value.rows ++ rows) (tables-looked looked)

-- rows that follow one another are what their places give
pub gives-looked : {J : Type 0} (suits : J → LoadSeen → Type 0) (gives : J → ℕ → ℕ → List Row → Type 0) (job : J) → ((frame : Table) (seq : ℕ) (source : SourceSeen) (stretch : Stretch) → suits job (SeenMorsel frame seq source stretch) → gives job stretch.from stretch.to frame.rows)
    → ((from mid to : ℕ) (before after : List Row) → gives job from mid before → gives job mid to after → gives job from to (before ++ after)) → gives job 0 0 [] → (looked : List LookedUp) (to : ℕ) → All (AreLookedUpOf suits job) looked → FollowUp (map looked_rows looked) 0 to
    → gives job 0 to (rows_looked_up looked)
gives-looked suits gives job are next none looked to all follow =
    subst (λ (rows : List Row). gives job 0 to rows) (tables-looked looked) (gives-all suits gives job are next (map looked_rows looked) [] 0 to (All-map (AreKeptOf suits job) looked_rows looked all) follow none)

-- a load that is looked up suits its job as it was seen
pub looked-suits : {J : Type 0} (suits : J → LoadSeen → Type 0) (job : J) (frame given : Table) (seq number : ℕ) (source : SourceSeen) (stretch place : Stretch) → given ≡ frame → number ≡ seq → place ≡ stretch → suits job (SeenMorsel frame seq source stretch) → suits job (SeenMorsel given number source place)
looked-suits suits job frame given seq number source stretch place same_frame same_number same_place is =
    subst (λ (t : Table). suits job (SeenMorsel t number source place)) (sym same_frame) (subst (λ (n : ℕ). suits job (SeenMorsel frame n source place)) (sym same_number) (subst (λ (s : Stretch). suits job (SeenMorsel frame seq source s)) (sym same_place) is))

-- and all that were looked up do, with one more
pub all-looked : {J : Type 0} (suits : J → LoadSeen → Type 0) (job : J) (looked now : List LookedUp) (one : LookedUp) (source : SourceSeen) → now ≡ looked ++ one ∷ [] → All (AreLookedUpOf suits job) looked → suits job (SeenMorsel one.frame.value one.seq source one.stretch) → All (AreLookedUpOf suits job) now
all-looked suits job looked now one source is all suited = subst (All (AreLookedUpOf suits job)) (sym is) (All-push (AreLookedUpOf suits job) looked one all (source, suited))
