-- A whole scan, from what its caller's loop says.
use Rattle.std.proofs.Common.{◌≡◌, ℕ, ◌+◌, ◌≤◌, ap, subst, refl, ◌∙◌, inl, inr, arith, append-nil}
use Rattle.std.proofs.lemmas.List.{take_all}
use Rattle.std.specs.Prelude.{◌⊎◌, Option, Some, None, Result, Ok, Err, IfErr, OnOk, List, [], length}
use Rattle.std.specs.List.{flat_map, filter, sum_by}
use Rattle.morsel_meaning.specs.declared.fault.Fault.{Fault}
use Rattle.morsel_meaning.specs.declared.fault.Fault.TheVariants as faults
use Rattle.morsel_meaning.specs.Values.{Row}
use Rattle.morsel_grammar.specs.Dialect.{IsDialect}
use Rattle.morsel_outside.specs.Outside.{Outside}
use Rattle.morsel_outside.specs.Actions.{Action, event_of, read_failures, write_failures}
use Rattle.morsel_scan.specs.Scans.{CsvScan}
use Rattle.morsel_scan.specs.CsvScans.{csv_scan_rows}
use Rattle.morsel_scan.specs.Ahead.{asked_up_to}
use Rattle.morsel_scan.specs.ScanRows.{total_rows}
use Rattle.morsel_scan.specs.CsvScans.{csv_sources}
use Rattle.morsel_scan.specs.StretchRows.{Gives}
use Rattle.morsel_scan.proofs.StretchLemmas.{gives_on, gives_all}
use Rattle.morsel_scan.proofs.AxisEndLemmas.{gives_nothing_past_slice}
use Rattle.morsel_scan.proofs.AxisFileLemmas.{gives_scan_rows}
use Rattle.morsel_scan.specs.RowBlocks.{RowsRead}
use Rattle.morsel_read.specs.ScanReads.{FilesAsked, PiecesRead, sizes_in, asked_to, asked_within, IsCurrent, AreOpen, SuitsPieces, IsPiecesFaultOf, CountsFromFirst}
use Rattle.morsel_read.specs.PieceReads.{HasGivenAll}
use Rattle.morsel_read.proofs.FaultlessLemmas.{no_fault_between}
use Rattle.morsel_read.proofs.SliceLemmas.{keeps_no_more}
use Rattle.morsel_read.proofs.SourceLemmas.{get_less, sizes_len}
use Rattle.morsel_drive.proofs.TransferLemmas.{stays}
use Rattle.morsel_drive.specs.Lines.{IsSoundAxis}
use Rattle.morsel_drive.specs.Driving.{is_reading, StopsFor, WritesRows, DrivesAxis, Drives}
use Rattle.morsel_line.specs.Jobs.{Job}
use Rattle.morsel_line.specs.RowStages.{ScannedRows}
use Rattle.morsel_line.specs.ScanJobs.{scan_text, job_axis, scan_axis, IsJobFault, IsJobEnd, IsPieceKind}
use Rattle.morsel_line.specs.ScanSources.{AskNextChunks, EndsInFailure, DidRead, ReadsJob}
use Rattle.morsel_line.specs.ScanRuns.{MeansRows, AnswersRows, StopsScan, WritesScan, job_of}
use Rattle.morsel_line.proofs.LineLemmas.{sound}

-- where no place after them gives anything, all places give the rows
all_give : (job : Job) (given : ℕ) (rows : List Row) → Gives (scan_axis job).gives 0 given rows → Gives (scan_axis job).gives given (length (scan_axis job).gives) []
    → Gives (scan_axis job).gives 0 (length (scan_axis job).gives) rows
all_give job given rows gives nothing = let gives_all_of = (scan_axis job).gives in
    subst (Gives gives_all_of 0 (length gives_all_of)) (append-nil rows) (gives_on gives_all_of 0 given (length gives_all_of) rows [] gives nothing)

-- and the rows are what the scan means
meant : (job : Job) (given : ℕ) (rows : List Row) → IsDialect job.scan.options → Gives (scan_axis job).gives 0 given rows → Gives (scan_axis job).gives given (length (scan_axis job).gives) []
    → csv_scan_rows job.scan job.first job.names job.files ≡ Ok rows
meant job given rows fit gives nothing = gives_scan_rows job.scan fit job.first 0 job.names job.files job.opened (scan_text job.scan) rows
    ((gives_all (scan_axis job).gives rows).0.0 (all_give job given rows gives nothing))

-- the rows that the places before the end give are what the scan means
means_rows : (job : Job) (given asked : ℕ) (rows : List Row) → IsDialect job.scan.options → CountsFromFirst job.scan.scan.asked.slice → length job.names ≡ length job.files
    → Gives (scan_axis job).gives 0 given rows → IsJobEnd job given asked → MeansRows job asked rows
means_rows job given asked rows fit from one_each gives (inl (all, nothing, few)) = inl (all, all_give job given rows gives nothing, meant job given rows fit gives nothing, few)
means_rows job given asked rows fit from one_each gives (inr end) = inr (
  given,
  gives,
  end,
  λ none. meant job given rows fit gives
      (gives_nothing_past_slice job.scan fit job.first 0 given end.rows job.names job.files job.opened (scan_text job.scan) one_each (inl end.begins)
      (λ position low. keeps_no_more job.scan.scan.asked.slice end.slice (total_rows (csv_sources job.scan job.first job.names job.files)) end.rows position from end.is end.past low)
      (no_fault_between (scan_axis job).gives given asked (length (scan_axis job).gives) (end.faultless job.first job.names one_each) none)),
)

-- a reader that has come to its end has asked for all, but where a slice has an end
whole_asked : (after : Outside) (old new : PiecesRead) (sizes : List ℕ) → new.sources ≡ old.sources → after.sizes ≡ sizes → HasGivenAll new → AreOpen after new
    → (asked_to new ≡ sum_by (λ n. n) (sizes_in sizes old.sources.files)) ⊎ (old.sources.stop ≤ 4294967295)
whole_asked after old new sizes same sized (inl end) opened = inl (by new.current opened.current)
  where
    all : new.earlier ≡ sum_by (λ n. n) (sizes_in sizes old.sources.files)
    all = opened.earlier ∙ ap (sum_by (λ n. n)) (take_all new.source (sizes_in after.sizes new.sources.files) (let n = sizes_len after new.sources.files in omega (arith, end, n)))
        ∙ ap (λ (x : List ℕ). sum_by (λ n. n) (sizes_in x new.sources.files)) sized ∙ ap (λ (x : FilesAsked). sum_by (λ n. n) (sizes_in sizes x.files)) same

    by : (current : Option RowsRead) → IsCurrent after new.sources new.source current → new.earlier + asked_within current ≡ sum_by (λ n. n) (sizes_in sizes old.sources.files)
    by None is = omega (arith, all)
    by (Some c) is = absurd (let less = get_less new.sources.files new.source _ is.1 in omega (arith, less, end))
whole_asked after old new sizes same sized (inr past) opened = inr (let few = opened.few in let e : new.sources.stop ≡ old.sources.stop = ap (λ (x : FilesAsked). x.stop) same in omega (arith, past, few, e))

answers_rows : (job : Job) (given : ℕ) (actions : List Action) (result : Result ℕ Fault) → IsDialect job.scan.options → CountsFromFirst job.scan.scan.asked.slice → length job.names ≡ length job.files
    → WritesRows (scan_axis job) (IsJobEnd job) given actions result → AnswersRows job actions result
answers_rows job given actions (Ok n) fit from one_each (rows, gives, ends, text, count) =
    (rows, text, count, means_rows job given (asked_up_to (scan_axis job) 0 (flat_map event_of actions)) rows fit from one_each gives ends)
answers_rows job given actions (Err fault) fit from one_each writes = tt

-- why a run of a scan has a fault
stops_for : (old new : PiecesRead) (actions : List Action) (result : Result ℕ Fault) → new.sources ≡ old.sources
    → ((number : ℕ) → new.fault ≡ Some (faults.ReadFault number) → EndsInFailure old.sources number (filter is_reading actions))
    → IfErr result (StopsFor (λ fault. (new.fault ≡ Some fault) × IsPiecesFaultOf new.sources fault) IsPieceKind actions)
    → IfErr result (StopsScan old.sources actions)
stops_for old new actions (Ok n) same ends stops = tt
stops_for old new actions (Err fault) same ends (inl write) = inl write
stops_for old new actions (Err fault) same ends (inr (inl read)) =
    inr (inl (subst (λ (x : FilesAsked). IsPiecesFaultOf x fault) same read.1, λ number is. ends number (read.0 ∙ ap (λ (x : Fault). Some x) is)))
stops_for old new actions (Err fault) same ends (inr (inr broke)) = inr (inr broke)

-- what is known of the reader at the end of a run
abbrev pub AtEnd : Outside → PiecesRead → Type 0
AtEnd after new = (HasGivenAll new × (new.fault ≡ None)) × SuitsPieces after new

pub scan_written : (s : CsvScan) (old new : PiecesRead) (bound : ℕ) (before after : Outside) (result : Result ℕ Fault) → asked_to old ≡ 0 → old.fault ≡ None
    → Drives (DidRead old new before.sizes) (λ fault. (new.fault ≡ Some fault) × IsPiecesFaultOf new.sources fault) IsPieceKind (AtEnd after new)
    (λ actions. (job : Job) → ReadsJob old job before → (job.scan ≡ s) × (job.stage ≡ ScannedRows) × IsDialect job.scan.options → IsSoundAxis (job_axis job)
    → DrivesAxis (job_axis job) (IsJobFault job) (IsJobEnd job) new.given (ReadsJob new job after) (bound + (job_axis job).longest) old.sources.chunk actions result) before result after
    → WritesScan s old bound before result after
scan_written s old new bound before after result none start d =
    let did = d.transfers.reads in
    let does = d.transfers.does in record {
      actions = d.actions;
      does = does;
      each = d.transfers.each;
      to = did.to;
      reads = subst (λ n. AskNextChunks old.sources.files (sizes_in before.sizes old.sources.files) old.sources.chunk n (filter is_reading d.actions) did.to) none did.are;
      stops = stops_for old new d.actions result did.same (did.failed start) d.stops;
      fine = fine_by result d.ends d.fine;
      all_asked = by_result result d.ends;
      told = λ files had.
          let job : Job = job_of s old files in
          let reads : ReadsJob old job before = record { given = had; names = refl; first = refl; opened = refl } in
          let axis = d.told_them job reads (refl, refl, had.fit) (sound job had.fit) in record {
            answers = answers_rows job new.given d.actions result had.fit had.from_first had.one_each axis.writes;
            due = axis.due;
            front = axis.front;
          };
    }
  where
    fine_by : (result : Result ℕ Fault) → OnOk result (AtEnd after new) → OnOk result (sum_by write_failures d.actions ≡ 0)
        → OnOk result ((sum_by read_failures (filter is_reading d.actions) ≡ 0) × (sum_by write_failures d.actions ≡ 0))
    fine_by (Err fault) ends fine = tt
    fine_by (Ok n) ((all, none), suits) fine = (d.transfers.reads.fine none, fine)

    by_result : (result : Result ℕ Fault) → OnOk result (AtEnd after new) → OnOk result ((d.transfers.reads.to ≡ sum_by (λ n. n) (sizes_in before.sizes old.sources.files)) ⊎ (old.sources.stop ≤ 4294967295))
    by_result (Err fault) ends = tt
    by_result (Ok n) ((all, none), suits) = on (whole_asked after old new before.sizes d.transfers.reads.same (stays before after d.actions d.transfers.each d.transfers.does).sizes all (suits.opened none))
      where
        on : (asked_to new ≡ sum_by (λ n. n) (sizes_in before.sizes old.sources.files)) ⊎ (old.sources.stop ≤ 4294967295)
            → (d.transfers.reads.to ≡ sum_by (λ n. n) (sizes_in before.sizes old.sources.files)) ⊎ (old.sources.stop ≤ 4294967295)
        on (inl asked) = inl (d.transfers.reads.there none ∙ asked)
        on (inr past) = inr past
