-- The sweeps of a join, and what its phases leave as it was.
use Rattle.std.proofs.Common.{◌≡◌, ℕ, ◌+◌, ◌*◌, ◌<◌, ◌≤◌, true, List, [], length, take, refl, sym, ap, subst, ◌∙◌, arith}
use Rattle.std.specs.List.{sum_by}
use Rattle.morsel_meaning.specs.Values.{Row}
use Rattle.morsel_outside.specs.Outside.{Outside}
use Rattle.morsel_scan.specs.Scans.{CsvScan}
use Rattle.morsel_scan.specs.StretchRows.{before_fault}
use Rattle.morsel_read.specs.ScanReads.{PiecesRead, HasGivenRows, IsCurrent, SuitsPieces, pieces_at_start, sizes_in}
use Rattle.morsel_read.proofs.SourceLemmas.{told_same}
use Rattle.morsel_join.specs.declared.rules.JoinRules.{JoinRules}
use Rattle.morsel_join.specs.Sides.{KeptSide, rows_found, rows_alone}
use Rattle.morsel_drain.specs.Draining.{LeavesAllElse}
use Rattle.morsel_line.specs.ScanJobs.{scan_axis}
use Rattle.morsel_line.specs.ScanRuns.{job_of}
use Rattle.morsel_probe_run.specs.ProbeRuns.{SweepsFound}
use Rattle.morsel_emit_run.specs.EmitRuns.{SweepsAlone}
use Rattle.morsel_join_plan.specs.JoinRuns.{JoinScan, HasKept, SweepsJoin, scan_size}
use Rattle.morsel_join_plan.specs.JoinLanes.{SweepsRest}

-- the rows of a scan before a fault
abbrev looked_up : JoinScan → List (List ℕ) → List Row
looked_up asked others = before_fault (scan_axis (job_of asked.scan asked.reader others)).gives

-- nothing was done
pub rest_unswept : (asked : JoinScan) (side : KeptSide) (opened : Outside) (steps : ℕ) → SweepsRest asked side opened steps steps
rest_unswept asked side opened steps = record { rows = 0; few = omega arith; small = omega arith; within = λ others had. omega arith }

-- rows were looked up
pub rest_swept_found : (asked : JoinScan) (side : KeptSide) (opened : Outside) (before after : ℕ) → SweepsFound asked.scan asked.reader side opened before after → SweepsRest asked side opened before after
rest_swept_found asked side opened before after found = record {
  rows = found.rows;
  few = (let few : after ≤ before + 1024 * (scan_size asked opened + 1) + 512 * found.rows = found.few in omega (arith, few));
  small = (let small = found.small in omega (arith, small));
  within = λ others had.
      let few : found.rows ≤ length (rows_found side (looked_up asked others)) = found.within others had in
      omega (arith, few);
}

-- and then the kept rows were given that none found
pub rest_swept : (asked : JoinScan) (side : KeptSide) (opened : Outside) (before between after : ℕ) → SweepsFound asked.scan asked.reader side opened before between → SweepsAlone asked.scan asked.reader opened side between after
    → SweepsRest asked side opened before after
rest_swept asked side opened before between after found alone = record {
  rows = found.rows + alone.rows;
  few =
      let first : between ≤ before + 1024 * (scan_size asked opened + 1) + 512 * found.rows = found.few in
      let later : after ≤ between + 1024 * (1 + 1) + 512 * alone.rows = alone.few in
      omega (arith, first, later);
  small = (let first = found.small in let later = alone.small in omega (arith, first, later));
  within = λ others had.
      let first : found.rows ≤ length (rows_found side (looked_up asked others)) = found.within others had in
      let later : alone.rows ≤ length (rows_alone side (looked_up asked others)) = alone.within others had in
      omega (arith, first, later);
}

-- rows were kept, and no more was done
pub swept_kept : (kept asked : JoinScan) (rules : JoinRules) (opened : Outside) (before after : ℕ) → after ≤ before + 512 * (scan_size kept opened + 1) → SweepsJoin kept asked opened before after
swept_kept kept asked rules opened before after few = record {
  rows = 0;
  few = omega (arith, few);
  small = omega arith;
  within = λ files others had had_others. record {
    side = record { rules = rules; is_left = true; rows = [] };
    given = 0;
    gives = record { order = omega arith; within = omega arith; all = refl };
    few = omega arith;
  };
}

-- what was given of files is so while their sizes and bytes stay
given_later : (s : CsvScan) (files : List (List ℕ)) (o other : Outside) (r : PiecesRead) → other.sizes ≡ o.sizes → other.held ≡ o.held → HasGivenRows s files o r → HasGivenRows s files other r
given_later s files o other r sizes held had = record {
  fit = had.fit;
  is = had.is;
  from_first = had.from_first;
  no_fault = had.no_fault;
  one_each = had.one_each;
  told = told_same o other r.sources.files files sizes held had.told;
  earlier = had.earlier;
  rows_before = had.rows_before;
  within = had.within;
  rows_within = had.rows_within;
  rows_are = had.rows_are;
  after_pieces = had.after_pieces;
  passed = had.passed;
}

-- a reader that has read nothing suits its files while their sizes stay
pub suits_later : (o other : Outside) (r : PiecesRead) → r ≡ pieces_at_start r.sources → other.sizes ≡ o.sizes → SuitsPieces o r → SuitsPieces other r
suits_later o other r start sizes suits = record {
  opened = λ none. (let now = suits.opened none in record {
    numbered = now.numbered;
    within = now.within;
    opened = λ source file is. subst (λ (ns : List ℕ). file.0 < length ns) (sym sizes) (now.opened source file is);
    current = subst (IsCurrent other r.sources r.source) (sym (ap (λ (reader : PiecesRead). reader.current) start)) tt;
    earlier = now.earlier ∙ ap (λ (ns : List ℕ). sum_by (λ n. n) (take r.source (sizes_in ns r.sources.files))) (sym sizes);
    fits = now.fits;
    order = now.order;
    few = now.few;
    pieces = now.pieces;
  });
  listed = suits.listed;
}

-- rows were kept, and then the rest was written
pub swept : (kept asked : JoinScan) (rules : JoinRules) (side : KeptSide) (opened now : Outside) (before between after : ℕ) → between ≤ before + 512 * (scan_size kept opened + 1) → HasKept kept rules side opened now
    → SweepsRest asked side now between after → SweepsJoin kept asked opened before after
swept kept asked rules side opened now before between after first has rest =
    let leaves : LeavesAllElse opened now = has.keeps.leaves in
    let same : scan_size asked now ≡ scan_size asked opened = ap (λ (ns : List ℕ). sum_by (λ n. n) (sizes_in ns asked.reader.sources.files)) leaves.sizes in record {
      rows = rest.rows;
      few = (let later = rest.few in omega (arith, first, later, same));
      small = rest.small;
      within = λ files others had had_others. record {
        side = side;
        given = has.given;
        gives = has.gives files had;
        few = rest.within others (given_later asked.scan others opened now asked.reader leaves.sizes leaves.held had_others);
      };
    }
