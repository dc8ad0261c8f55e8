-- A scan whose rows are kept, from what its caller's loop says.
use Rattle.std.proofs.Common.{◌≡◌, ℕ, ◌≤◌, ap, subst, sym, refl, ◌∙◌, inl, inr, arith}
use Rattle.std.specs.Prelude.{◌⊎◌, Some, None, Result, Ok, Err, IfErr, IfOk, OnOk, List, length}
use Rattle.std.specs.List.{flat_map, sum_by}
use Rattle.morsel_meaning.specs.declared.fault.Fault.{Fault}
use Rattle.morsel_meaning.specs.declared.fault.Fault.TheVariants as faults
use Rattle.morsel_meaning.specs.Values.{Row}
use Rattle.morsel_grammar.specs.Dialect.{IsDialect}
use Rattle.morsel_outside.specs.Outside.{Outside}
use Rattle.morsel_outside.specs.Actions.{Action, event_of, read_failures}
use Rattle.morsel_scan.specs.Scans.{CsvScan}
use Rattle.morsel_scan.specs.Ahead.{asked_up_to}
use Rattle.morsel_read.specs.ScanReads.{FilesAsked, PiecesRead, sizes_in, asked_to, CountsFromFirst, IsPiecesFaultOf}
use Rattle.morsel_read.specs.PieceReads.{HasGivenAll}
use Rattle.morsel_drain.specs.Draining.{StopsReadsFor, DrainsAxis, Drains}
use Rattle.morsel_drain.specs.Finding.{IsRowsEnd, SweepsFinding}
use Rattle.morsel_line.specs.Jobs.{Job}
use Rattle.morsel_line.specs.RowStages.{ScannedRows}
use Rattle.morsel_line.specs.ScanJobs.{job_axis, scan_axis, IsJobFault, IsJobEnd, IsJobPiece, IsPieceKind}
use Rattle.morsel_line.specs.ScanSources.{AskNextChunks, EndsInFailure, DidRead, ReadsJob}
use Rattle.morsel_line.specs.ScanRuns.{JobGives, MeansRows, job_of}
use Rattle.morsel_line.proofs.RunLemmas.{AtEnd}
use Rattle.morsel_join_tasks.specs.Beside.{answer_beside}
use Rattle.morsel_join_tasks.proofs.ReadLemmas.{asked_all, means_asked}
use Rattle.morsel_keep_run.specs.KeepRuns.{StopsKeeping, KeepsScan, SweepsKept}

-- why a run has a fault
stops_keeping : (old new : PiecesRead) (reads : List Action) (result : Result ℕ Fault) → new.sources ≡ old.sources
    → ((number : ℕ) → new.fault ≡ Some (faults.ReadFault number) → EndsInFailure old.sources number reads)
    → IfErr result (StopsReadsFor (λ fault. (new.fault ≡ Some fault) × IsPiecesFaultOf new.sources fault) IsPieceKind)
    → IfErr result (StopsKeeping old.sources reads)
stops_keeping old new reads (Ok n) same ends stops = tt
stops_keeping old new reads (Err fault) same ends (inl out) = inl out
stops_keeping old new reads (Err fault) same ends (inr (inl read)) =
    inr (inl (subst (λ (x : FilesAsked). IsPiecesFaultOf x fault) same read.1, λ number is. ends number (read.0 ∙ ap (λ (x : Fault). Some x) is)))
stops_keeping old new reads (Err fault) same ends (inr (inr broke)) = inr (inr broke)

pub scan_kept : (s : CsvScan) (old new : PiecesRead) (before after : Outside) (result : Result ℕ Fault) (serves : Job → Type 0) → asked_to old ≡ 0 → old.fault ≡ None → IfOk result (λ n. n ≡ new.given)
    → Drains (DidRead old new before.sizes) (λ fault. (new.fault ≡ Some fault) × IsPiecesFaultOf new.sources fault) IsPieceKind (AtEnd after new)
    (λ events. (job : Job) → ReadsJob old job before → (job.scan ≡ s) × (job.stage ≡ ScannedRows)
    → DrainsAxis (job_axis job) (IsJobFault job) (IsJobEnd job) (ReadsJob new job after) (serves job) events result) before result after
    → KeepsScan s old before result after
scan_kept s old new before after result serves none start given d =
    let did = d.reads.did_them in record {
      reads = d.reads.reads;
      does = d.reads.does;
      each = d.reads.are;
      leaves = d.leaves;
      now = new;
      did = did;
      given = given;
      ended = ended_by result d.ends;
      to = did.to;
      asks = subst (λ n. AskNextChunks old.sources.files (sizes_in before.sizes old.sources.files) old.sources.chunk n d.reads.reads did.to) none did.are;
      stops = stops_keeping old new d.reads.reads result did.same (did.failed start) d.stops;
      fine = fine_by result d.ends;
      all_asked = asked_by result d.ends;
      told = λ files had.
          let job : Job = job_of s old files in
          let reads : ReadsJob old job before = record { given = had; names = refl; first = refl; opened = refl } in
          let axis = d.reads.sought_them job reads (refl, refl) in record {
            ends = axis.ends;
            means = means_by job result (had.fit, had.from_first, had.one_each) axis.ends;
            due = axis.due;
          };
    }
  where
    means_by : (job : Job) (result : Result ℕ Fault) → IsDialect job.scan.options × CountsFromFirst job.scan.scan.asked.slice × (length job.names ≡ length job.files)
        → IfOk result (λ given. IsJobEnd job given (asked_up_to (scan_axis job) 0 (flat_map event_of d.reads.reads)))
        → IfOk result (λ given. (rows : List Row) → JobGives job given rows → MeansRows job (asked_up_to (scan_axis job) 0 (flat_map event_of d.reads.reads)) rows)
    means_by job (Err fault) fits ends = tt
    means_by job (Ok given) fits ends = λ rows gives. means_asked job given (asked_up_to (scan_axis job) 0 (flat_map event_of d.reads.reads)) rows fits.0 fits.1 fits.2 gives ends

    ended_by : (result : Result ℕ Fault) → OnOk result (AtEnd after new) → OnOk result (HasGivenAll new)
    ended_by (Err fault) ends = tt
    ended_by (Ok n) ((all, none), suits) = all

    fine_by : (result : Result ℕ Fault) → OnOk result (AtEnd after new) → OnOk result (sum_by read_failures d.reads.reads ≡ 0)
    fine_by (Err fault) ends = tt
    fine_by (Ok n) ((all, none), suits) = d.reads.did_them.fine none

    asked_by : (result : Result ℕ Fault) → OnOk result (AtEnd after new) → OnOk result ((d.reads.did_them.to ≡ sum_by (λ n. n) (sizes_in before.sizes old.sources.files)) ⊎ (old.sources.stop ≤ 4294967295))
    asked_by (Err fault) ends = tt
    asked_by (Ok n) ((all, none), suits) = on (asked_all after old new before.sizes d.reads.did_them.same d.leaves.sizes all (suits.opened none))
      where
        on : (asked_to new ≡ sum_by (λ n. n) (sizes_in before.sizes old.sources.files)) ⊎ (old.sources.stop ≤ 4294967295)
            → (d.reads.did_them.to ≡ sum_by (λ n. n) (sizes_in before.sizes old.sources.files)) ⊎ (old.sources.stop ≤ 4294967295)
        on (inl asked) = inl (d.reads.did_them.there none ∙ asked)
        on (inr past) = inr past

-- what is so of a part of what came back is so of the part, where that comes back
pub part_back : {N M : Type 0} (kept : Result (N × ℕ) Fault) (result : Result (M × ℕ) Fault) (part : N → M) (Q : M → Type 0) (P : N × ℕ → Type 0) → IfOk kept (λ kept. IfOk result (λ end. end.0 ≡ part kept.0))
    → answer_beside result ≡ answer_beside kept → IfOk kept P → ((whole : N × ℕ) → P whole → Q (part whole.0)) → IfOk result (λ end. Q end.0)
part_back (Ok kept) (Ok end) part Q P is same so from = subst Q (sym is) (from kept so)
part_back kept (Err fault) part Q P is same so from = tt
part_back (Err fault) (Ok end) part Q P is same so from = absurd (no_fault same)
  where
    no_fault : Ok end.1 ≡ Err fault → ⊥
    no_fault e = cc

-- the same where what comes back has more than one part
pub some_back : {N M : Type 0} (kept : Result (N × ℕ) Fault) (result : Result (M × ℕ) Fault) (of : N × ℕ → M × ℕ → Type 0) (Q : M × ℕ → Type 0) (P : N × ℕ → Type 0) → IfOk kept (λ kept. IfOk result (λ end. of kept end))
    → answer_beside result ≡ answer_beside kept → IfOk kept P → ((whole : N × ℕ) (end : M × ℕ) → P whole → of whole end → Q end) → IfOk result Q
some_back (Ok kept) (Ok end) of Q P is same so from = from kept end so is
some_back kept (Err fault) of Q P is same so from = tt
some_back (Err fault) (Ok end) of Q P is same so from = absurd (no_fault same)
  where
    no_fault : Ok end.1 ≡ Err fault → ⊥
    no_fault e = cc

-- how many sweeps are made, from what the caller's loop says
pub kept_swept : (s : CsvScan) (old : PiecesRead) (before : Outside) (per_row from to : ℕ)
    → SweepsFinding (sum_by (λ n. n) (sizes_in before.sizes old.sources.files)) per_row from to (λ rows. (job : Job) → ReadsJob old job before → (job.scan ≡ s) × (job.stage ≡ ScannedRows) → IsRowsEnd (IsJobPiece job) rows)
    → SweepsKept s old per_row before from to
kept_swept s old before per_row from to few = record {
  rows = few.rows;
  few = few.few;
  small = few.small;
  within = λ files had. few.within (job_of s old files) (record { given = had; names = refl; first = refl; opened = refl }) (refl, refl);
}

-- no sweep was made
pub kept_unswept : (s : CsvScan) (r : PiecesRead) (per_row : ℕ) (opened : Outside) (steps : ℕ) → SweepsKept s r per_row opened steps steps
kept_unswept s r per_row opened steps = record { rows = 0; few = omega arith; small = omega arith; within = λ files had. inl refl }
