-- What the reader of a scan has asked at its end, and what the rows mean that its places give, which are all before a fault.
use Rattle.std.proofs.Common.{◌≡◌, ℕ, ◌+◌, ◌≤◌, ap, sym, subst, ◌∙◌, inl, inr, arith, append-nil}
use Rattle.std.proofs.lemmas.List.{take-append-drop, take_all}
use Rattle.std.specs.Prelude.{◌⊎◌, Option, Some, None, Ok, List, [], ◌++◌, length, drop, slice_range}
use Rattle.std.specs.List.{sum_by}
use Rattle.morsel_meaning.specs.Values.{Row}
use Rattle.morsel_grammar.specs.Dialect.{IsDialect}
use Rattle.morsel_outside.specs.Outside.{Outside}
use Rattle.morsel_scan.specs.CsvScans.{csv_scan_rows, csv_sources}
use Rattle.morsel_scan.specs.ScanRows.{total_rows}
use Rattle.morsel_scan.specs.StretchRows.{Gives, before_fault}
use Rattle.morsel_scan.specs.RowBlocks.{RowsRead}
use Rattle.morsel_scan.proofs.StretchLemmas.{Places, before_fault-append, from_front, gives_on, gives_all}
use Rattle.morsel_scan.proofs.AxisEndLemmas.{gives_nothing_past_slice, none_past_slice}
use Rattle.morsel_scan.proofs.AxisFileLemmas.{gives_scan_rows}
use Rattle.morsel_read.specs.ScanReads.{FilesAsked, PiecesRead, sizes_in, asked_to, asked_within, IsCurrent, AreOpen, CountsFromFirst}
use Rattle.morsel_read.specs.PieceReads.{HasGivenAll}
use Rattle.morsel_read.proofs.FaultlessLemmas.{no_fault_between}
use Rattle.morsel_read.proofs.SliceLemmas.{keeps_no_more}
use Rattle.morsel_read.proofs.SourceLemmas.{get_less, sizes_len}
use Rattle.morsel_line.specs.Jobs.{Job}
use Rattle.morsel_line.specs.ScanJobs.{scan_text, scan_axis, IsJobEnd}
use Rattle.morsel_line.specs.ScanRuns.{MeansRows}

-- where no place after them gives anything, all places give the rows
all_give : (job : Job) (given : ℕ) (rows : List Row) → Gives (scan_axis job).gives 0 given rows → Gives (scan_axis job).gives given (length (scan_axis job).gives) []
    → Gives (scan_axis job).gives 0 (length (scan_axis job).gives) rows
all_give job given rows gives nothing = let gives_all_of = (scan_axis job).gives in
    subst (Gives gives_all_of 0 (length gives_all_of)) (append-nil rows) (gives_on gives_all_of 0 given (length gives_all_of) rows [] gives nothing)

-- and the rows are what the scan means
meant : (job : Job) (given : ℕ) (rows : List Row) → IsDialect job.scan.options → Gives (scan_axis job).gives 0 given rows → Gives (scan_axis job).gives given (length (scan_axis job).gives) []
    → csv_scan_rows job.scan job.first job.names job.files ≡ Ok rows
meant job given rows fit gives nothing = gives_scan_rows job.scan fit job.first 0 job.names job.files job.opened (scan_text job.scan) rows
    ((gives_all (scan_axis job).gives rows).0.0 (all_give job given rows gives nothing))

-- the rows that the places before the end give are what the scan means
pub means_asked : (job : Job) (given asked : ℕ) (rows : List Row) → IsDialect job.scan.options → CountsFromFirst job.scan.scan.asked.slice → length job.names ≡ length job.files
    → Gives (scan_axis job).gives 0 given rows → IsJobEnd job given asked → MeansRows job asked rows
means_asked job given asked rows fit from one_each gives (inl (all, nothing, few)) = inl (all, all_give job given rows gives nothing, meant job given rows fit gives nothing, few)
means_asked job given asked rows fit from one_each gives (inr end) = inr (
  given,
  gives,
  end,
  λ none. meant job given rows fit gives
      (gives_nothing_past_slice job.scan fit job.first 0 given end.rows job.names job.files job.opened (scan_text job.scan) one_each (inl end.begins)
      (λ position low. keeps_no_more job.scan.scan.asked.slice end.slice (total_rows (csv_sources job.scan job.first job.names job.files)) end.rows position from end.is end.past low)
      (no_fault_between (scan_axis job).gives given asked (length (scan_axis job).gives) (end.faultless job.first job.names one_each) none)),
)

-- where no row after them comes before a fault, the rows that places give are all before one
all_there : (gives : Places) (given : ℕ) (rows : List Row) → Gives gives 0 given rows → before_fault (drop given gives) ≡ [] → before_fault gives ≡ rows
all_there gives given rows first none =
    let cut : slice_range gives 0 given ++ drop given gives ≡ gives = ap (λ (x : Places). x ++ drop given gives) (from_front gives given) ∙ take-append-drop given gives in
    ap before_fault (sym cut) ∙ before_fault-append (slice_range gives 0 given) (drop given gives) rows first.all ∙ ap (λ (later : List Row). rows ++ later) none ∙ append-nil rows

-- the rows that the places before the end give are all before a fault
pub all_given : (job : Job) (given asked : ℕ) (rows : List Row) → IsDialect job.scan.options → CountsFromFirst job.scan.scan.asked.slice → length job.names ≡ length job.files
    → Gives (scan_axis job).gives 0 given rows → IsJobEnd job given asked → before_fault (scan_axis job).gives ≡ rows
all_given job given asked rows fit from one_each gives (inl (all, nothing, few)) =
    let every = gives_all (scan_axis job).gives rows in every.1 (every.0.0 (all_give job given rows gives nothing))
all_given job given asked rows fit from one_each gives (inr end) =
    all_there (scan_axis job).gives given rows gives (none_past_slice job.scan job.first given end.rows job.names job.files fit one_each end.begins
    (λ position low. keeps_no_more job.scan.scan.asked.slice end.slice (total_rows (csv_sources job.scan job.first job.names job.files)) end.rows position from end.is end.past low))

-- a reader that has come to its end has asked for all, but where a slice has an end
pub asked_all : (after : Outside) (old new : PiecesRead) (sizes : List ℕ) → new.sources ≡ old.sources → after.sizes ≡ sizes → HasGivenAll new → AreOpen after new
    → (asked_to new ≡ sum_by (λ n. n) (sizes_in sizes old.sources.files)) ⊎ (old.sources.stop ≤ 4294967295)
asked_all after old new sizes same sized (inl end) opened = inl (by new.current opened.current)
  where
    all : new.earlier ≡ sum_by (λ n. n) (sizes_in sizes old.sources.files)
    all = opened.earlier ∙ ap (sum_by (λ n. n)) (take_all new.source (sizes_in after.sizes new.sources.files) (let n = sizes_len after new.sources.files in omega (arith, end, n)))
        ∙ ap (λ (x : List ℕ). sum_by (λ n. n) (sizes_in x new.sources.files)) sized ∙ ap (λ (x : FilesAsked). sum_by (λ n. n) (sizes_in sizes x.files)) same

    by : (current : Option RowsRead) → IsCurrent after new.sources new.source current → new.earlier + asked_within current ≡ sum_by (λ n. n) (sizes_in sizes old.sources.files)
    by None is = omega (arith, all)
    by (Some c) is = absurd (let less = get_less new.sources.files new.source _ is.1 in omega (arith, less, end))
asked_all after old new sizes same sized (inr past) opened = inr (let few = opened.few in let e : new.sources.stop ≡ old.sources.stop = ap (λ (x : FilesAsked). x.stop) same in omega (arith, past, few, e))
