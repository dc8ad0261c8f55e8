-- What the rows of a scan find, from what the caller's loop says.
use Rattle.std.proofs.Common.{◌≡◌, ℕ, ◌+◌, ◌-◌, ◌≤◌, ap, sym, subst, refl, ◌∙◌, inl, inr, arith}
use Rattle.std.proofs.lemmas.List.{length-map, take-map, drop-map}
use Rattle.std.specs.Prelude.{◌⊎◌, Some, None, Result, Ok, Err, IfErr, OnOk, List, [], ◌∷◌, ◌++◌, length, map, slice_range, take, drop}
use Rattle.std.specs.List.{flat_map, filter, sum_by}
use Rattle.morsel_meaning.specs.declared.fault.Fault.{Fault}
use Rattle.morsel_meaning.specs.declared.fault.Fault.TheVariants as faults
use Rattle.morsel_meaning.specs.Values.{Row}
use Rattle.morsel_grammar.specs.Dialect.{IsDialect}
use Rattle.morsel_outside.specs.Outside.{Outside}
use Rattle.morsel_outside.specs.declared.events.IoEvent.{IoEvent}
use Rattle.morsel_outside.specs.declared.events.IoEvent.TheVariants.{ReadAt, Wrote}
use Rattle.morsel_outside.specs.Actions.{Action, event_of, read_failures, write_failures}
use Rattle.morsel_scan.specs.Scans.{CsvScan}
use Rattle.morsel_scan.specs.Ahead.{asked_after, asked_up_to}
use Rattle.morsel_scan.specs.ScanRows.{followed_by}
use Rattle.morsel_scan.specs.StretchRows.{Gives, before_fault, collected}
use Rattle.morsel_scan.proofs.StretchLemmas.{Places, followed_by-ok}
use Rattle.morsel_read.specs.ScanReads.{FilesAsked, PiecesRead, sizes_in, asked_to, IsPiecesFaultOf, CountsFromFirst}
use Rattle.morsel_drive.proofs.TransferLemmas.{stays}
use Rattle.morsel_drive.specs.Lines.{IsSoundAxis}
use Rattle.morsel_drive.specs.Sweeping.{SweepsFew}
use Rattle.morsel_drive.specs.declared.progress.Progress.TheVariants.{Rows}
use Rattle.morsel_drive.specs.Driving.{is_reading, StopsFor, WritesRows, DrivesAxis, Drives}
use Rattle.morsel_join.specs.Sides.{KeptSide, rows_found}
use Rattle.morsel_join.proofs.SideLemmas.{found-append}
use Rattle.morsel_line.specs.Jobs.{Job}
use Rattle.morsel_line.specs.RowStages.{FoundRows, given_found}
use Rattle.morsel_line.specs.ScanJobs.{staged_text, job_axis, scan_axis, IsJobFault, IsJobEnd, IsPieceKind}
use Rattle.morsel_line.specs.ScanSources.{AskNextChunks, EndsInFailure, DidRead, ReadsJob}
use Rattle.morsel_line.specs.ScanRuns.{StopsScan, job_of}
use Rattle.morsel_line.proofs.LineLemmas.{sound}
use Rattle.morsel_line.proofs.RunLemmas.{AtEnd}
use Rattle.morsel_join_tasks.proofs.ReadLemmas.{all_given, asked_all, means_asked}
use Rattle.morsel_probe_run.specs.ProbeRuns.{AnswersFound, AreAllUpTo, SweepsFound, WritesFound, found_job}

never : (fault : Fault) (rows : List Row) → ◌≡◌ {A = Result (List Row) Fault} (Err fault) (Ok rows) → ⊥
never fault rows e = cc

-- what rows find is found by some rows
finds : (side : KeptSide) (gives : Places) (rows : List Row) → collected (map (given_found side) gives) ≡ Ok rows → (asked : List Row) × (collected gives ≡ Ok asked) × (rows ≡ rows_found side asked)
finds side [] rows e = ([], refl, (let k : [] ≡ rows = cc in sym k))
finds side (Err fault ∷ gives) rows e = absurd (never fault rows e)
finds side (Ok first ∷ gives) rows e =
    let both = followed_by-ok (Ok (rows_found side first)) (collected (map (given_found side) gives)) rows e in
    let later = finds side gives both.1 both.3 in
    let k : rows_found side first ≡ both.0 = let z = both.2 in cc in (
      first ++ later.0,
      ap (followed_by (Ok first)) later.1,
      both.4 ∙ ap (λ (rs : List Row). rs ++ both.1) (sym k) ∙ ap (λ (rs : List Row). rows_found side first ++ rs) later.2 ∙ sym (found-append side first later.0),
    )

pub found_of : (side : KeptSide) (gives : Places) (to : ℕ) (rows : List Row) → Gives (map (given_found side) gives) 0 to rows → (asked : List Row) × Gives gives 0 to asked × (rows ≡ rows_found side asked)
found_of side gives to rows given =
    let same : slice_range (map (given_found side) gives) 0 to ≡ map (given_found side) (slice_range gives 0 to) = ap (take (to - 0)) (drop-map (given_found side) 0 gives) ∙ take-map (given_found side) (to - 0) (drop 0 gives) in
    let it = finds side (slice_range gives 0 to) rows (ap collected (sym same) ∙ given.all) in (
      it.0,
      record {
        order = given.order;
        within = let w = given.within in let l = length-map gives (given_found side) in omega (arith, w, l);
        all = it.1;
      },
      it.2,
    )

-- what rows before a fault find is before that fault
before_found : (side : KeptSide) (gives : Places) → before_fault (map (given_found side) gives) ≡ rows_found side (before_fault gives)
before_found side [] = refl
before_found side (Err fault ∷ gives) = refl
before_found side (Ok rows ∷ gives) = ap (λ (rs : List Row). rows_found side rows ++ rs) (before_found side gives) ∙ sym (found-append side rows (before_fault gives))

-- how many bytes were asked is the same, whatever becomes of the rows
same_asked : (job : Job) (asked : ℕ) (events : List IoEvent) → asked_up_to (job_axis job) asked events ≡ asked_up_to (scan_axis job) asked events
same_asked job asked [] = refl
same_asked job asked (ReadAt file at len ∷ events) = same_asked job (asked_after (scan_axis job) asked file len) events
same_asked job asked (Wrote len ∷ events) = same_asked job asked events

-- why a run has a fault
stops_finding : (old new : PiecesRead) (actions : List Action) (result : Result ℕ Fault) → new.sources ≡ old.sources
    → ((number : ℕ) → new.fault ≡ Some (faults.ReadFault number) → EndsInFailure old.sources number (filter is_reading actions))
    → IfErr result (StopsFor (λ fault. (new.fault ≡ Some fault) × IsPiecesFaultOf new.sources fault) IsPieceKind actions)
    → IfErr result (StopsScan old.sources actions)
stops_finding old new actions (Ok n) same ends stops = tt
stops_finding old new actions (Err fault) same ends (inl write) = inl write
stops_finding old new actions (Err fault) same ends (inr (inl read)) =
    inr (inl (subst (λ (x : FilesAsked). IsPiecesFaultOf x fault) same read.1, λ number is. ends number (read.0 ∙ ap (λ (x : Fault). Some x) is)))
stops_finding old new actions (Err fault) same ends (inr (inr broke)) = inr (inr broke)

-- a number is that of what some rows find, which are what the scan means
answers_found : (s : CsvScan) (r : PiecesRead) (files : List (List ℕ)) (side : KeptSide) (given : ℕ) (actions : List Action) (result : Result ℕ Fault)
    → IsDialect s.options × CountsFromFirst s.scan.asked.slice × (length r.sources.names ≡ length files)
    → WritesRows (job_axis (found_job s r files side)) (IsJobEnd (found_job s r files side)) given actions result → AnswersFound (job_of s r files) side actions result
answers_found s r files side given actions (Ok n) fits (rows, gives, ends, text, count) =
    let job = job_of s r files in
    let found = found_of side (scan_axis job).gives given rows gives in
    let asked = same_asked (found_job s r files side) 0 (flat_map event_of actions) in
    let ends_there : IsJobEnd job given (asked_up_to (scan_axis job) 0 (flat_map event_of actions)) = subst (λ (n : ℕ). IsJobEnd job given n) asked ends in (
      found.0,
      text ∙ ap (staged_text (FoundRows side) s) found.2,
      count ∙ ap (λ (some : List Row). length some) found.2,
      means_asked job given (asked_up_to (scan_axis job) 0 (flat_map event_of actions)) found.0 fits.0 fits.1 fits.2 found.1 ends_there,
    )
answers_found s r files side given actions (Err fault) fits writes = tt

pub found_written : (s : CsvScan) (old new : PiecesRead) (side : KeptSide) (bound : ℕ) (before after : Outside) (result : Result ℕ Fault) → asked_to old ≡ 0 → old.fault ≡ None
    → Drives (DidRead old new before.sizes) (λ fault. (new.fault ≡ Some fault) × IsPiecesFaultOf new.sources fault) IsPieceKind (AtEnd after new)
    (λ actions. (job : Job) → ReadsJob old job before → (job.scan ≡ s) × (job.stage ≡ FoundRows side) → IsSoundAxis (job_axis job)
    → DrivesAxis (job_axis job) (IsJobFault job) (IsJobEnd job) new.given (ReadsJob new job after) (bound + (job_axis job).longest) old.sources.chunk actions result) before result after
    → WritesFound s old side bound before result after
found_written s old new side bound before after result none start d =
    let did = d.transfers.reads in record {
      actions = d.actions;
      does = d.transfers.does;
      each = d.transfers.each;
      to = did.to;
      reads = subst (λ n. AskNextChunks old.sources.files (sizes_in before.sizes old.sources.files) old.sources.chunk n (filter is_reading d.actions) did.to) none did.are;
      stops = stops_finding old new d.actions result did.same (did.failed start) d.stops;
      fine = fine_by result d.ends d.fine;
      all_asked = asked_by result d.ends;
      told = λ files had.
          let job : Job = found_job s old files side in
          let reads : ReadsJob old job before = record { given = had; names = refl; first = refl; opened = refl } in
          let axis = d.told_them job reads (refl, refl) (sound job had.fit) in record {
            answers = answers_found s old files side new.given d.actions result (had.fit, had.from_first, had.one_each) axis.writes;
            due = axis.due;
            front = axis.front;
          };
    }
  where
    fine_by : (result : Result ℕ Fault) → OnOk result (AtEnd after new) → OnOk result (sum_by write_failures d.actions ≡ 0)
        → OnOk result ((sum_by read_failures (filter is_reading d.actions) ≡ 0) × (sum_by write_failures d.actions ≡ 0))
    fine_by (Err fault) ends fine = tt
    fine_by (Ok n) ((all, none), suits) fine = (d.transfers.reads.fine none, fine)

    asked_by : (result : Result ℕ Fault) → OnOk result (AtEnd after new) → OnOk result ((d.transfers.reads.to ≡ sum_by (λ n. n) (sizes_in before.sizes old.sources.files)) ⊎ (old.sources.stop ≤ 4294967295))
    asked_by (Err fault) ends = tt
    asked_by (Ok n) ((all, none), suits) = on (asked_all after old new before.sizes d.transfers.reads.same (stays before after d.actions d.transfers.each d.transfers.does).sizes all (suits.opened none))
      where
        on : (asked_to new ≡ sum_by (λ n. n) (sizes_in before.sizes old.sources.files)) ⊎ (old.sources.stop ≤ 4294967295)
            → (d.transfers.reads.to ≡ sum_by (λ n. n) (sizes_in before.sizes old.sources.files)) ⊎ (old.sources.stop ≤ 4294967295)
        on (inl asked) = inl (d.transfers.reads.there none ∙ asked)
        on (inr past) = inr past

-- where a run has ended well, all rows before a fault are of places that were given
pub found_all : (s : CsvScan) (old new : PiecesRead) (side : KeptSide) (bound : ℕ) (before after : Outside) (result : Result ℕ Fault)
    → Drives (DidRead old new before.sizes) (λ fault. (new.fault ≡ Some fault) × IsPiecesFaultOf new.sources fault) IsPieceKind (AtEnd after new)
    (λ actions. (job : Job) → ReadsJob old job before → (job.scan ≡ s) × (job.stage ≡ FoundRows side) → IsSoundAxis (job_axis job)
    → DrivesAxis (job_axis job) (IsJobFault job) (IsJobEnd job) new.given (ReadsJob new job after) (bound + (job_axis job).longest) old.sources.chunk actions result) before result after
    → OnOk result (AreAllUpTo s old before new.given)
found_all s old new side bound before after (Err fault) d = tt
found_all s old new side bound before after (Ok n) d = λ files had rows gives.
    let job : Job = found_job s old files side in
    let reads : ReadsJob old job before = record { given = had; names = refl; first = refl; opened = refl } in
    let axis = d.told_them job reads (refl, refl) (sound job had.fit) in
    let written : WritesRows (job_axis job) (IsJobEnd job) new.given d.actions (Ok n) = axis.writes in
    all_given (job_of s old files) new.given (asked_up_to (job_axis job) 0 (flat_map event_of d.actions)) rows had.fit had.from_first had.one_each gives written.2

pub found_swept : (s : CsvScan) (r : PiecesRead) (side : KeptSide) (opened : Outside) (before after : ℕ)
    → SweepsFew Rows (sum_by (λ n. n) (sizes_in opened.sizes r.sources.files)) before after
    (λ rows. (job : Job) → ReadsJob r job opened → (job.scan ≡ s) × (job.stage ≡ FoundRows side) → IsSoundAxis (job_axis job) → rows ≤ length (before_fault (job_axis job).gives))
    → SweepsFound s r side opened before after
found_swept s r side opened before after few = record {
  rows = few.rows;
  few = few.few;
  small = few.small;
  within = λ files had.
      let job : Job = found_job s r files side in
      let reads : ReadsJob r job opened = record { given = had; names = refl; first = refl; opened = refl } in
      subst (λ (some : List Row). few.rows ≤ length some) (before_found side (scan_axis (job_of s r files)).gives) (few.within job reads (refl, refl) (sound job had.fit));
}

-- nothing was done
pub found_unswept : (s : CsvScan) (r : PiecesRead) (side : KeptSide) (opened : Outside) (steps : ℕ) → SweepsFound s r side opened steps steps
found_unswept s r side opened steps = record { rows = 0; few = omega arith; small = omega arith; within = λ files had. omega arith }
