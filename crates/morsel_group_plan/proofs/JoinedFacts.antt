-- What the lanes of a join's rows tell of the files of a scan.
use Rattle.std.proofs.Common.{◌≡◌, ◌∷◌, [], ◌++◌, ℕ, Bool, true, false, if◌then◌else◌, List, Result, Ok, Err, refl, sym, ap, subst, ◌∙◌, append-nil}
use Rattle.std.specs.Prelude.{slice_range}
use Rattle.std.proofs.Math.Logic.{∥∥₁_elim, ∥∥₁_map}
use Rattle.std.proofs.Props.{props}
use Rattle.atomic_table.specs.Seated.{TableId}
use Rattle.morsel_meaning.specs.declared.fault.Fault.{Fault}
use Rattle.morsel_meaning.specs.Values.{Row}
use Rattle.morsel_outside.specs.Outside.{Outside}
use Rattle.morsel_scan.specs.Scans.{CsvScan}
use Rattle.morsel_scan.specs.StretchRows.{Gives, before_fault, collected}
use Rattle.morsel_scan.proofs.StretchLemmas.{Places}
use Rattle.morsel_read.specs.ScanReads.{PiecesRead, HasGivenRows}
use Rattle.morsel_join.specs.Sides.{KeptSide, rows_alone, rows_found, wants_kept}
use Rattle.morsel_line.specs.Jobs.{Job}
use Rattle.morsel_line.specs.RowStages.{AloneRows, FoundRows, StageSeen, staged_gives}
use Rattle.morsel_line.specs.ScanJobs.{scan_axis}
use Rattle.morsel_line.specs.ScanRuns.{job_of}
use Rattle.morsel_scan_units.specs.LaneJobs.{LaneFor, TellsJob}
use Rattle.morsel_scan_units.specs.LaneRows.{PlacesYield}
use Rattle.morsel_join_tasks.proofs.ReadLemmas.{all_given}
use Rattle.morsel_group_phases.specs.LaneEnds.{TookFrom}
use Rattle.morsel_keep_run.specs.KeepRuns.{KeepsScan}
use Rattle.morsel_probe_run.specs.ProbeRuns.{AreAllUpTo}
use Rattle.morsel_probe_run.proofs.FoundLemmas.{found_of}
use Rattle.morsel_join_plan.specs.JoinLanes.{rows_lane}
use Rattle.morsel_join_plan.proofs.KnownFacts.{rows_known}
use Rattle.morsel_group_plan.specs.GroupLanes.{AreRowsTo}
use Rattle.morsel_group_plan.specs.GroupRuns.{JoinGives}
use Rattle.morsel_group_plan.specs.JoinedLanes.{alone_lane, found_lane, joined_ends}

never : (fault : Fault) (rows : List Row) → ◌≡◌ {A = Result (List Row) Fault} (Err fault) (Ok rows) → ⊥
never fault rows e = cc

-- the one place of the kept rows that none finds gives them
alone_of : (side : KeptSide) (gives : Places) (rows : List Row) → Gives (staged_gives (AloneRows side) gives) 0 1 rows → rows ≡ rows_alone side (before_fault gives)
alone_of side gives rows given =
    let all : Ok (rows_alone side (before_fault gives) ++ []) ≡ Ok rows = given.all in
    let same : rows_alone side (before_fault gives) ++ [] ≡ rows = cc in
    sym same ∙ append-nil (rows_alone side (before_fault gives))

-- the rows of a join, where some rows up to this place are looked up, and the kept rows that none finds are wanted, or not
abbrev JoinedOf : KeptSide → Bool → Places → ℕ → List Row → Type 0
JoinedOf side wants gives to rows = (asked : List Row) × Gives gives 0 to asked × (rows ≡ rows_found side asked ++ (if wants then rows_alone side asked else []))

-- what is known of them is so: the rows up to a place are one list
joined_once : (side : KeptSide) (wants : Bool) (gives : Places) (to : ℕ) (rows : List Row) → ∥ JoinedOf side wants gives to rows ∥₁ → JoinedOf side wants gives to rows
joined_once side wants gives to rows known = by (collected (slice_range gives 0 to)) refl
  where
    joined : List Row → List Row
    joined asked = rows_found side asked ++ (if wants then rows_alone side asked else [])

    one : (asked other : List Row) → collected (slice_range gives 0 to) ≡ Ok asked → collected (slice_range gives 0 to) ≡ Ok other → asked ≡ other
    one asked other is also = cc

    by : (given : Result (List Row) Fault) → collected (slice_range gives 0 to) ≡ given → JoinedOf side wants gives to rows
    by (Ok asked) is = (
      asked,
      record { order = ∥∥₁_elim known (search props) (λ it. it.1.order); within = ∥∥₁_elim known (search props) (λ it. it.1.within); all = is },
      rows_known rows (joined asked) (∥∥₁_map known (λ it. it.2 ∙ ap joined (one it.0 asked it.1.all is))),
    )
    by (Err fault) is = absurd (∥∥₁_elim known (λ none other. absurd none) (λ it. never fault it.0 (sym is ∙ it.1.all)))

-- the lanes of a scan's rows, and those behind a join
module _ (s : CsvScan) (r : PiecesRead) (opened : Outside) (tokens : TableId) (side : KeptSide) (given : ℕ) (files : List (List ℕ)) (had : HasGivenRows s files opened r) where
  -- what places of lanes of the scan yield
  yields : (stage : StageSeen) (to : ℕ) (rows : List Row) → PlacesYield (record (rows_lane s r opened tokens) { stage = stage }) to rows → Gives (staged_gives stage (scan_axis (job_of s r files)).gives) 0 to rows
  yields stage to rows places = places (record (job_of s r files) { stage = stage }) (refl, record { given = had; names = refl; first = refl; opened = refl }, refl)

  joined_of : (wants : Bool) → (wants ≡ true → AreAllUpTo s r opened given) → (rows : List Row)
      → TookFrom PlacesYield ((found_lane side (rows_lane s r opened tokens), given) ∷ (if wants then (alone_lane side (rows_lane s r opened tokens), 1) ∷ [] else [])) rows → JoinedOf side wants (scan_axis (job_of s r files)).gives given rows
  joined_of true all rows (own, later, places, (lone, none, place, none_is, later_is), are) =
      let it = found_of side (scan_axis (job_of s r files)).gives given own (yields (FoundRows side) given own places) in
      let alone : lone ≡ rows_alone side it.0 = alone_of side (scan_axis (job_of s r files)).gives lone (yields (AloneRows side) 1 lone place) ∙ ap (rows_alone side) (all refl files had it.0 it.1) in (
        it.0,
        it.1,
        are ∙ ap (λ (rs : List Row). rs ++ later) it.2 ∙ ap (λ (rs : List Row). rows_found side it.0 ++ rs) (later_is ∙ ap (λ (rs : List Row). lone ++ rs) none_is ∙ append-nil lone ∙ alone),
      )
  joined_of false all rows (own, later, places, none, are) =
      let it = found_of side (scan_axis (job_of s r files)).gives given own (yields (FoundRows side) given own places) in (
        it.0,
        it.1,
        are ∙ ap (λ (rs : List Row). rs ++ later) it.2 ∙ ap (λ (rs : List Row). rows_found side it.0 ++ rs) none,
      )

-- the rows of a join's lanes are those of the join of what the files give
pub took_joined : (s : CsvScan) (r : PiecesRead) (opened : Outside) (tokens : TableId) (side : KeptSide) (given : ℕ) → AreAllUpTo s r opened given → (rows : List Row) → AreRowsTo (joined_ends side (rows_lane s r opened tokens) given) rows
    → (files : List (List ℕ)) → HasGivenRows s files opened r → JoinGives (record { scan = s; reader = r }) side given files rows
took_joined s r opened tokens side given all rows known files had =
    joined_once side (wants_kept side) (scan_axis (job_of s r files)).gives given rows (∥∥₁_map known (λ took. joined_of s r opened tokens side given files had (wants_kept side) (λ is. all) rows took))

-- where a scan has ended, its rows up to there are all before a fault
pub kept_all : (s : CsvScan) (r : PiecesRead) (before after : Outside) (given : ℕ) → KeepsScan s r before (Ok given) after → AreAllUpTo s r before given
kept_all s r before after given keeps = λ files had rows gives. all_given (job_of s r files) given _ rows had.fit had.from_first had.one_each gives (keeps.told files had).ends
