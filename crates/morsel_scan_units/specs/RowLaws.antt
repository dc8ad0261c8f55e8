-- What lanes of rows carry, before and behind a join.
use Rattle.std.specs.Prelude.{ℕ, ◌+◌, ◌-◌, Bool, true, false, Ok, Err, List, [], ◌∷◌, ◌++◌, length, map, take, drop, slice_range}
use Rattle.std.specs.List.{All}
use Rattle.std.proofs.Common.{◌≡◌, refl, sym, ap, subst, ◌∙◌, arith, append-nil, append_assoc}
use Rattle.std.proofs.Math.Seq.{take-add}
use Rattle.std.proofs.lemmas.List.{length-map, take_all, take-map, drop-map}
use Rattle.std.proofs.lemmas.List.Elements.{All-head, All-tail, All-weaker}
use Rattle.morsel_meaning.specs.declared.value.Field.{Field}
use Rattle.morsel_meaning.specs.Values.{Row, Table}
use Rattle.morsel_load.specs.Sources.{SourceSeen}
use Rattle.morsel_load.specs.Loads.{LoadSeen, SeenMorsel, SeenPiece, SeenPart}
use Rattle.morsel_load.specs.declared.load.LoadKind.TheVariants.{Morsels, Pieces, Parts}
use Rattle.morsel_load.specs.declared.morsels.Stretch.{Stretch}
use Rattle.morsel_scan.specs.ScanColumns.{output_fields}
use Rattle.morsel_scan.specs.ScanRows.{followed_by}
use Rattle.morsel_scan.specs.Ahead.{Axis}
use Rattle.morsel_scan.specs.StretchRows.{Gives, collected, before_fault}
use Rattle.morsel_scan.proofs.StretchLemmas.{Places, followed_by-ok, gives-append}
use Rattle.morsel_join.specs.Sides.{KeptSide, rows_alone, rows_found}
use Rattle.morsel_join.proofs.SideLemmas.{found-append}
use Rattle.morsel_rows_job.specs.RowsJobs.{AreRowsWith, AreWholeRows, FollowCuts, GoOn, GoesOnBehind, IsCutFor, IsCutOf, RowsCut, alone_stretch, rows_of_cuts}
use Rattle.morsel_line.specs.Jobs.{Job}
use Rattle.morsel_line.specs.RowStages.{StageSeen, ScannedRows, FoundRows, AloneRows, GivenRows, given_found, staged_columns, staged_gives}
use Rattle.morsel_line.specs.ScanJobs.{scan_axis, job_axis}
use Rattle.morsel_scan_units.specs.LaneJobs.{LaneFor, TellsJob, SuitsLane, SuitsRows, IsWholeIfScanned}
use Rattle.morsel_scan_units.specs.LaneRows.{CarriesCuts, CarriesRows, PlacesGive, PlacesYield, AreScanRows, FindsBetween, AloneBetween, IsGivenLane}

-- the rows of a scan come in whole stretches
pub are_whole : (lane : LaneFor) (columns : List Field) (load : LoadSeen) → CarriesRows lane columns → SuitsLane lane load → AreWholeRows columns load
are_whole lane columns (SeenMorsel frame seq source stretch) carries suits =
    let whole : (stretch.skip ≡ 0) × (stretch.last ≡ true) = subst (λ (st : StageSeen). IsWholeIfScanned st stretch) carries.scanned suits.scan.1 in
    (suits.scan.0 ∙ ap (λ (st : StageSeen). staged_columns st (output_fields lane.scan.scan)) carries.scanned ∙ carries.have, whole.0, whole.1)
are_whole lane columns (SeenPiece piece) carries suits = absurd (let both : Pieces ≡ Morsels = suits.kind ∙ carries.kind in cc)
are_whole lane columns (SeenPart seq part) carries suits = absurd (let both : Parts ≡ Morsels = suits.kind ∙ carries.kind in cc)

-- a whole stretch of a scan gives all of a load's rows
scanned_gives : (job : Job) (rows : List Row) (stretch : Stretch) → job.stage ≡ ScannedRows → stretch.skip ≡ 0 → stretch.last ≡ true → SuitsRows (job_axis job) rows stretch
    → Gives (scan_axis job).gives stretch.from stretch.to rows
scanned_gives job rows stretch scanned skip last suits =
    let ends : stretch.skip + length rows ≡ length suits.all = suits.ends last in
    let same : rows ≡ suits.all = suits.are ∙ ap (λ n. take (length rows) (drop n suits.all)) skip ∙ take_all (length rows) suits.all (omega (arith, ends, skip)) in
    subst (λ (rs : List Row). Gives (scan_axis job).gives stretch.from stretch.to rs) (sym same) (subst (λ (st : StageSeen). Gives (staged_gives st (scan_axis job).gives) stretch.from stretch.to suits.all) scanned suits.gives)

-- the rows of a load are those that its stretch gives
pub rows_given : (lane : LaneFor) (columns : List Field) (frame : Table) (seq : ℕ) (source : SourceSeen) (stretch : Stretch) → CarriesRows lane columns → SuitsLane lane (SeenMorsel frame seq source stretch)
    → PlacesGive lane stretch.from stretch.to frame.rows
rows_given lane columns frame seq source stretch carries suits = λ job is.
    let whole = are_whole lane columns (SeenMorsel frame seq source stretch) carries suits in
    scanned_gives job frame.rows stretch (is.2 ∙ carries.scanned) whole.1 whole.2 (suits.told job is)

pub none_given : (lane : LaneFor) → PlacesGive lane 0 0 []
none_given lane = λ job is. record { order = omega arith; within = omega arith; all = refl }

pub more_given : (lane : LaneFor) (from mid to : ℕ) (before after : List Row) → PlacesGive lane from mid before → PlacesGive lane mid to after → PlacesGive lane from to (before ++ after)
more_given lane from mid to before after first later = λ job is. gives-append (scan_axis job).gives from mid to before after (first job is) (later job is)

-- places that give rows give, behind a join, what those find
found_all : (side : KeptSide) (gives : Places) (rows : List Row) → collected gives ≡ Ok rows → collected (map (given_found side) gives) ≡ Ok (rows_found side rows)
found_all side [] rows e = let k : [] ≡ rows = cc in ap (λ rs. Ok (rows_found side rs)) k
found_all side (Err fault ∷ gives) rows e = absurd (cc)
found_all side (Ok first ∷ gives) rows e =
    let both = followed_by-ok (Ok first) (collected gives) rows e in
    let k : first ≡ both.0 = let z = both.2 in cc in
    ap (followed_by (Ok (rows_found side first))) (found_all side gives both.1 both.3) ∙ ap Ok (sym (found-append side first both.1)) ∙ ap (λ rs. Ok (rows_found side (rs ++ both.1))) k ∙ ap (λ rs. Ok (rows_found side rs)) (sym both.4)

found_gives : (side : KeptSide) (gives : Places) (from to : ℕ) (rows : List Row) → Gives gives from to rows → Gives (map (given_found side) gives) from to (rows_found side rows)
found_gives side gives from to rows given = record {
  order = given.order;
  within = let w = given.within in let l : length (map (given_found side) gives) ≡ length gives = length-map gives (given_found side) in omega (arith, w, l);
  all = ap collected (ap (take (to - from)) (drop-map (given_found side) from gives) ∙ take-map (given_found side) (to - from) (drop from gives)) ∙ found_all side (slice_range gives from to) rows given.all;
}

-- a job of the lane behind is one of the lane before, but for what its rows are
abbrev job_before : Job → Job
job_before job = record job { stage = ScannedRows }

told_before : (from : LaneFor) (stage : StageSeen) (job : Job) → from.stage ≡ ScannedRows → TellsJob (record from { stage = stage }) job → TellsJob from (job_before job)
told_before from stage job scanned is = (is.0, record { given = is.1.given; names = is.1.names; first = is.1.first; opened = is.1.opened }, sym scanned)

-- some of what the rows of a load find suit the lane behind the join
pub found_suits : (side : KeptSide) (from to : LaneFor) (asked found : Table) (seq : ℕ) (source other : SourceSeen) (stretch cut : Stretch) → FindsBetween side from to → SuitsLane from (SeenMorsel asked seq source stretch)
    → found.schema ≡ side.rules.output → IsCutOf (rows_found side asked.rows) stretch found.rows cut → other.source ≡ source.source → SuitsLane to (SeenMorsel found seq other cut)
found_suits side from to asked found seq source other stretch cut finds suits columns some same =
    let stage : to.stage ≡ FoundRows side = ap (λ (lane : LaneFor). lane.stage) finds.1 in
    let whole : (stretch.skip ≡ 0) × (stretch.last ≡ true) = subst (λ (st : StageSeen). IsWholeIfScanned st stretch) finds.0 suits.scan.1 in record {
      kind = suits.kind ∙ sym (ap (λ (lane : LaneFor). lane.kind) finds.1);
      scan = (
        columns ∙ ap (λ (st : StageSeen). staged_columns st (output_fields to.scan.scan)) (sym stage),
        subst (λ (st : StageSeen). IsWholeIfScanned st cut) (sym stage) tt,
      );
      told = λ job is. (let before = told_before from (FoundRows side) job finds.0 (subst (λ (lane : LaneFor). TellsJob lane job) finds.1 is) in
          let given = scanned_gives (job_before job) asked.rows stretch refl whole.0 whole.1 (suits.told (job_before job) before) in
          let behind = found_gives side (scan_axis job).gives stretch.from stretch.to asked.rows given in record {
            all = rows_found side asked.rows;
            gives = subst (λ (st : StageSeen). Gives (staged_gives st (scan_axis job).gives) cut.from cut.to (rows_found side asked.rows)) (sym (is.2 ∙ stage))
                (rw (some.from, some.to) behind);
            within = some.within;
            are = some.are;
            ends = λ last. some.ends last;
          });
    }

-- some of the kept rows that no row finds suit the lane of those
pub alone_suits : (side : KeptSide) (from to : LaneFor) (asked : List Row) (found : Table) (seq : ℕ) (source : SourceSeen) (cut : Stretch) → AloneBetween side from to → AreScanRows from asked
    → found.schema ≡ side.rules.output → IsCutOf (rows_alone side asked) alone_stretch found.rows cut → SuitsLane to (SeenMorsel found seq source cut)
alone_suits side from to asked found seq source cut alone all columns some =
    let stage : to.stage ≡ AloneRows side = ap (λ (lane : LaneFor). lane.stage) alone.2 in record {
      kind = sym (ap (λ (lane : LaneFor). lane.kind) alone.2 ∙ alone.0);
      scan = (
        columns ∙ ap (λ (st : StageSeen). staged_columns st (output_fields to.scan.scan)) (sym stage),
        subst (λ (st : StageSeen). IsWholeIfScanned st cut) (sym stage) tt,
      );
      told = λ job is. (let before = told_before from (AloneRows side) job alone.1 (subst (λ (lane : LaneFor). TellsJob lane job) alone.2 is) in
          let here : before_fault (scan_axis job).gives ≡ asked = all (job_before job) before in
          let one : Gives (staged_gives (AloneRows side) (scan_axis job).gives) 0 1 (rows_alone side asked) = record {
            order = omega arith;
            within = omega arith;
            all = ap Ok (append-nil (rows_alone side (before_fault (scan_axis job).gives)) ∙ ap (rows_alone side) here);
          } in record {
            all = rows_alone side asked;
            gives = subst (λ (st : StageSeen). Gives (staged_gives st (scan_axis job).gives) cut.from cut.to (rows_alone side asked)) (sym (is.2 ∙ stage)) (rw (some.from, some.to) one);
            within = some.within;
            are = some.are;
            ends = λ last. some.ends last;
          });
    }

-- rows have the columns of their lane
pub have_columns : (lane : LaneFor) (columns : List Field) (load : LoadSeen) → CarriesCuts lane columns → SuitsLane lane load → AreRowsWith columns load
have_columns lane columns (SeenMorsel frame seq source stretch) carries suits = suits.scan.0 ∙ carries.have
have_columns lane columns (SeenPiece piece) carries suits = absurd (let both : Pieces ≡ Morsels = suits.kind ∙ carries.kind in cc)
have_columns lane columns (SeenPart seq part) carries suits = absurd (let both : Parts ≡ Morsels = suits.kind ∙ carries.kind in cc)

-- places give one list of rows
gives_one : (gives : Places) (from to : ℕ) (a b : List Row) → Gives gives from to a → Gives gives from to b → a ≡ b
gives_one gives from to a b g h = let x = g.all in let y = h.all in cc

-- the rows of a cut are some of those that its stretch gives
abbrev IsCutIn : Axis → RowsCut → Type 0
IsCutIn axis cut = SuitsRows axis cut.frame.rows cut.stretch

-- with the rows of its stretch before it, a cut has those up to its end
cut-end : (axis : Axis) (cut : RowsCut) (all : List Row) → Gives axis.gives cut.stretch.from cut.stretch.to all → IsCutIn axis cut
    → take cut.stretch.skip all ++ cut.frame.rows ≡ take (cut.stretch.skip + length cut.frame.rows) all
cut-end axis cut all gives is =
    let same : is.all ≡ all = gives_one axis.gives cut.stretch.from cut.stretch.to is.all all is.gives gives in
    ap (λ rows. take cut.stretch.skip all ++ rows) (is.are ∙ ap (λ rows. take (length cut.frame.rows) (drop cut.stretch.skip rows)) same)
    ∙ sym (take-add cut.stretch.skip (length cut.frame.rows) all)

-- the last cut of a stretch has its last rows
cut-last : (axis : Axis) (cut : RowsCut) (all : List Row) → Gives axis.gives cut.stretch.from cut.stretch.to all → IsCutIn axis cut → cut.stretch.last ≡ true
    → take (cut.stretch.skip + length cut.frame.rows) all ≡ all
cut-last axis cut all gives is last =
    let same : is.all ≡ all = gives_one axis.gives cut.stretch.from cut.stretch.to is.all all is.gives gives in
    let ends : cut.stretch.skip + length cut.frame.rows ≡ length all = is.ends last ∙ ap length same in
    take_all (cut.stretch.skip + length cut.frame.rows) all (omega (arith, ends))

-- rows of cuts after others, taken together
cut-assoc : (before first rows others : List Row) → (before ++ first) ++ (rows ++ others) ≡ (before ++ (first ++ rows)) ++ others
cut-assoc before first rows others = sym (append_assoc (before ++ first) rows others) ∙ ap (λ front. front ++ others) (append_assoc before first rows)

-- what a cut and those behind it give, where it is known what those behind it do
cut-behind : (axis : Axis) (cut next : RowsCut) (more : List RowsCut) (to : ℕ) (before all : List Row) → Gives axis.gives 0 cut.stretch.from before → Gives axis.gives cut.stretch.from cut.stretch.to all
    → IsCutIn axis cut → IsCutIn axis next → (last : Bool) → cut.stretch.last ≡ last → GoesOnBehind last cut.stretch (length cut.frame.rows) next.stretch
    → ((front rest : List Row) → Gives axis.gives 0 next.stretch.from front → Gives axis.gives next.stretch.from next.stretch.to rest → Gives axis.gives 0 to ((front ++ take next.stretch.skip rest) ++ rows_of_cuts (next ∷ more)))
    → Gives axis.gives 0 to ((before ++ take cut.stretch.skip all) ++ rows_of_cuts (cut ∷ next ∷ more))
cut-behind axis cut next more to before all start gives is next_is true last behind go_on =
    let both : Gives axis.gives 0 cut.stretch.to (before ++ all) = gives-append axis.gives 0 cut.stretch.from cut.stretch.to before all start gives in
    let there = go_on (before ++ all) next_is.all (subst (λ place. Gives axis.gives 0 place (before ++ all)) (sym behind.0) both) next_is.gives in
    let none : (before ++ all) ++ take next.stretch.skip next_is.all ≡ before ++ all = ap (λ n. (before ++ all) ++ take n next_is.all) behind.1 ∙ append-nil (before ++ all) in
    let same : (before ++ take cut.stretch.skip all) ++ rows_of_cuts (cut ∷ next ∷ more) ≡ ((before ++ all) ++ take next.stretch.skip next_is.all) ++ rows_of_cuts (next ∷ more) =
    cut-assoc before (take cut.stretch.skip all) cut.frame.rows (rows_of_cuts (next ∷ more))
    ∙ ap (λ rows. (before ++ rows) ++ rows_of_cuts (next ∷ more)) (cut-end axis cut all gives is ∙ cut-last axis cut all gives is last)
    ∙ ap (λ rows. rows ++ rows_of_cuts (next ∷ more)) (sym none) in
    subst (λ (rows : List Row). Gives axis.gives 0 to rows) (sym same) there
cut-behind axis cut next more to before all start gives is next_is false last behind go_on =
    let begun : Gives axis.gives 0 next.stretch.from before = subst (λ place. Gives axis.gives 0 place before) (sym behind.0) start in
    let stretch : Gives axis.gives next.stretch.from next.stretch.to all = rw (behind.0, behind.1) gives in
    let there = go_on before all begun stretch in
    let same : (before ++ take cut.stretch.skip all) ++ rows_of_cuts (cut ∷ next ∷ more) ≡ (before ++ take next.stretch.skip all) ++ rows_of_cuts (next ∷ more) =
    cut-assoc before (take cut.stretch.skip all) cut.frame.rows (rows_of_cuts (next ∷ more))
    ∙ ap (λ rows. (before ++ rows) ++ rows_of_cuts (next ∷ more)) (cut-end axis cut all gives is)
    ∙ ap (λ n. (before ++ take n all) ++ rows_of_cuts (next ∷ more)) (sym behind.2) in
    subst (λ (rows : List Row). Gives axis.gives 0 to rows) (sym same) there

-- cuts that go on after the rows before a place, and some of the stretch that begins there, give all up to their end
cuts_go_on : (axis : Axis) (cut : RowsCut) (more : List RowsCut) (to : ℕ) (before all : List Row) → Gives axis.gives 0 cut.stretch.from before → Gives axis.gives cut.stretch.from cut.stretch.to all
    → All (IsCutIn axis) (cut ∷ more) → GoOn cut more to → Gives axis.gives 0 to ((before ++ take cut.stretch.skip all) ++ rows_of_cuts (cut ∷ more))
cuts_go_on axis cut [] to before all start gives are go =
    let is = All-head (IsCutIn axis) cut [] are in
    let whole : (before ++ take cut.stretch.skip all) ++ rows_of_cuts (cut ∷ []) ≡ before ++ all =
    cut-assoc before (take cut.stretch.skip all) cut.frame.rows [] ∙ append-nil (before ++ (take cut.stretch.skip all ++ cut.frame.rows))
    ∙ ap (λ rows. before ++ rows) (cut-end axis cut all gives is ∙ cut-last axis cut all gives is go.0) in
    subst (λ (rows : List Row). Gives axis.gives 0 to rows) (sym whole)
    (subst (λ end. Gives axis.gives 0 end (before ++ all)) go.1 (gives-append axis.gives 0 cut.stretch.from cut.stretch.to before all start gives))
cuts_go_on axis cut (next ∷ more) to before all start gives are go =
    let later = All-tail (IsCutIn axis) cut (next ∷ more) are in
    cut-behind axis cut next more to before all start gives (All-head (IsCutIn axis) cut (next ∷ more) are) (All-head (IsCutIn axis) next more later) cut.stretch.last refl go.0
    (λ front rest begun stretch. cuts_go_on axis next more to front rest begun stretch later go.1)

-- cuts that follow one another from the first place give all up to their end
cuts_follow : (axis : Axis) (cuts : List RowsCut) (to : ℕ) → All (IsCutIn axis) cuts → FollowCuts cuts to → Gives axis.gives 0 to (rows_of_cuts cuts)
cuts_follow axis [] to are follow = subst (λ end. Gives axis.gives 0 end []) (sym follow) (record { order = omega arith; within = omega arith; all = refl })
cuts_follow axis (cut ∷ more) to are follow =
    let is = All-head (IsCutIn axis) cut more are in
    let start : Gives axis.gives 0 cut.stretch.from [] = subst (λ place. Gives axis.gives 0 place []) (sym follow.0) (record { order = omega arith; within = omega arith; all = refl }) in
    let there = cuts_go_on axis cut more to [] is.all start is.gives are follow.2 in
    subst (λ skip. Gives axis.gives 0 to (take skip is.all ++ rows_of_cuts (cut ∷ more))) follow.1 there

-- cuts of the lane's rows that follow one another have the rows of all places up to their end
pub cuts_give : (lane : LaneFor) (cuts : List RowsCut) (to : ℕ) → All (IsCutFor (λ made load. SuitsLane made load) lane) cuts → FollowCuts cuts to → PlacesYield lane to (rows_of_cuts cuts)
cuts_give lane cuts to are follow = λ job is.
    cuts_follow (job_axis job) cuts to (All-weaker (IsCutFor (λ made load. SuitsLane made load) lane) (IsCutIn (job_axis job)) (λ cut suits. suits.1.told job is) cuts are) follow

-- some of the rows that are given suit the lane of those
pub given_suits : (columns : List Field) (rows : List Row) (to : LaneFor) (found : Table) (seq : ℕ) (source : SourceSeen) (cut : Stretch) → IsGivenLane columns rows to
    → found.schema ≡ columns → IsCutOf rows alone_stretch found.rows cut → SuitsLane to (SeenMorsel found seq source cut)
given_suits columns rows to found seq source cut given same some = record {
  kind = sym given.0;
  scan = (
    same ∙ ap (λ (st : StageSeen). staged_columns st (output_fields to.scan.scan)) (sym given.1),
    subst (λ (st : StageSeen). IsWholeIfScanned st cut) (sym given.1) tt,
  );
  told = λ job is. (let one : Gives (staged_gives (GivenRows columns rows) (scan_axis job).gives) 0 1 rows = record {
    order = omega arith;
    within = omega arith;
    all = ap Ok (append-nil rows);
  } in record {
    all = rows;
    gives = subst (λ (st : StageSeen). Gives (staged_gives st (scan_axis job).gives) cut.from cut.to rows) (sym (is.2 ∙ given.1)) (rw (some.from, some.to) one);
    within = some.within;
    are = some.are;
    ends = λ last. some.ends last;
  });
}
