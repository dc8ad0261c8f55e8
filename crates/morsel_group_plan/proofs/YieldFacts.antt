-- What the lanes of a group-by tell of the files of a scan.
use Rattle.std.proofs.Common.{◌≡◌, ◌∷◌, [], ◌++◌, ℕ, List, refl, sym, ap, subst, ◌∙◌}
use Rattle.std.proofs.Math.Logic.{∥∥₁_map}
use Rattle.std.proofs.lemmas.List.{append-nil}
use Rattle.atomic_table.specs.Seated.{TableId}
use Rattle.morsel_meaning.specs.Values.{Row}
use Rattle.morsel_outside.specs.Outside.{Outside}
use Rattle.morsel_scan.specs.Scans.{CsvScan}
use Rattle.morsel_read.specs.ScanReads.{PiecesRead, HasGivenRows}
use Rattle.morsel_line.specs.ScanRuns.{JobGives, job_of}
use Rattle.morsel_scan_units.specs.LaneJobs.{LaneFor}
use Rattle.morsel_scan_units.specs.LaneRows.{PlacesYield}
use Rattle.morsel_group_phases.specs.LaneEnds.{TookFrom}
use Rattle.morsel_join_plan.proofs.KnownFacts.{gives_known}
use Rattle.morsel_join_plan.specs.JoinLanes.{rows_lane}
use Rattle.morsel_group_plan.specs.GroupLanes.{AreRowsTo}

-- the rows of one lane alone
pub took_one : (lane : LaneFor) (to : ℕ) (rows : List Row) → TookFrom PlacesYield ((lane, to) ∷ []) rows → PlacesYield lane to rows
took_one lane to rows (own, later, gives, none, are) = subst (PlacesYield lane to) (sym (are ∙ ap (λ (others : List Row). own ++ others) none ∙ append-nil own)) gives

-- the rows of a scan's lane are those that its files give
pub took_scan : (s : CsvScan) (r : PiecesRead) (opened : Outside) (tokens : TableId) (given : ℕ) (rows : List Row) → AreRowsTo ((rows_lane s r opened tokens, given) ∷ []) rows
    → (files : List (List ℕ)) → HasGivenRows s files opened r → JobGives (job_of s r files) given rows
took_scan s r opened tokens given rows known files had =
    gives_known _ 0 given rows (∥∥₁_map known (λ took. took_one (rows_lane s r opened tokens) given rows took (job_of s r files) (refl, record { given = had; names = refl; first = refl; opened = refl }, refl)))
