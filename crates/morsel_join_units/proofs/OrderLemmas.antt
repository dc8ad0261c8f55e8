-- Kept rows whose stretches follow one another.
use Rattle.std.proofs.Common.{◌≡◌, ◌++◌, [], ◌∷◌, List, ℕ, map, refl, sym, subst, ◌∙◌, append_assoc}
use Rattle.std.specs.List.{All}
use Rattle.std.proofs.lemmas.List.{append-nil}
use Rattle.std.proofs.lemmas.List.Elements.{All-head, All-map, All-tail, All-weaker}
use Rattle.morsel_meaning.specs.declared.value.Field.{Field}
use Rattle.morsel_meaning.specs.Values.{Row, Table}
use Rattle.morsel_load.specs.Loads.{LoadSeen, SeenMorsel}
use Rattle.morsel_load.specs.Sources.{SourceSeen}
use Rattle.morsel_load.specs.declared.morsels.Stretch.{Stretch}
use Rattle.morsel_join.specs.BuildSides.{rows_of_tables}
use Rattle.morsel_rows_job.specs.RowsJobs.{AreWholeRows}
use Rattle.morsel_join_units.specs.RowKeepers.{AreKeptOf, FollowUp}
use Rattle.morsel_join_units.specs.declared.row_keeper.KeptRows.{KeptRows}

-- one more follows those that follow one another
pub follow-more : (kept : List KeptRows) (rows : KeptRows) (from mid : ℕ) → FollowUp kept from mid → rows.stretch.from ≡ mid → FollowUp (kept ++ rows ∷ []) from rows.stretch.to
follow-more [] rows from mid follow is = (is ∙ sym follow, refl)
follow-more (first ∷ kept) rows from mid follow is = (follow.0, follow-more kept rows first.stretch.to mid follow.1 is)

-- rows that follow one another are what their places give
pub gives-all : {J : Type 0} (suits : J → LoadSeen → Type 0) (gives : J → ℕ → ℕ → List Row → Type 0) (job : J) → ((frame : Table) (seq : ℕ) (source : SourceSeen) (stretch : Stretch) → suits job (SeenMorsel frame seq source stretch) → gives job stretch.from stretch.to frame.rows)
    → ((from mid to : ℕ) (before after : List Row) → gives job from mid before → gives job mid to after → gives job from to (before ++ after)) → (kept : List KeptRows) (before : List Row) (mid to : ℕ) → All (AreKeptOf suits job) kept → FollowUp kept mid to
    → gives job 0 mid before → gives job 0 to (before ++ rows_of_tables (map (λ (rows : KeptRows). rows.frame) kept))
gives-all suits gives job are next [] before mid to all follow given = subst (λ (xs : List Row). gives job 0 to xs) (sym (append-nil before)) (subst (λ (n : ℕ). gives job 0 n before) follow given)
gives-all suits gives job are next (rows ∷ kept) before mid to all follow given =
    let one = All-head (AreKeptOf suits job) rows kept all in
    let here : gives job mid rows.stretch.to rows.frame.rows = subst (λ (n : ℕ). gives job n rows.stretch.to rows.frame.rows) follow.0 (are rows.frame rows.seq one.0 rows.stretch one.1) in
    let step : gives job 0 rows.stretch.to (before ++ rows.frame.rows) = next 0 mid rows.stretch.to before rows.frame.rows given here in
    subst (λ (xs : List Row). gives job 0 to xs) (append_assoc before rows.frame.rows (rows_of_tables (map (λ (r : KeptRows). r.frame) kept)))
    (gives-all suits gives job are next kept (before ++ rows.frame.rows) rows.stretch.to to (All-tail (AreKeptOf suits job) rows kept all) follow.1 step)

-- rows of loads that have these columns have them
pub columns-all : {J : Type 0} (suits : J → LoadSeen → Type 0) (job : J) (columns : List Field) → ((load : LoadSeen) → suits job load → AreWholeRows columns load) → (kept : List KeptRows) → All (AreKeptOf suits job) kept → All (λ (t : Table). t.schema ≡ columns) (map (λ (r : KeptRows). r.frame) kept)
columns-all suits job columns are kept all =
    All-map (λ (t : Table). t.schema ≡ columns) (λ (r : KeptRows). r.frame) kept (All-weaker (AreKeptOf suits job) (λ (r : KeptRows). r.frame.schema ≡ columns) (λ r is. (are (SeenMorsel r.frame r.seq is.0 r.stretch) is.1).0) kept all)
