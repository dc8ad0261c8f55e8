-- Runs of queries of one scan that wrote rows, or stopped at a fault of a call or of the files.
use Rattle.std.proofs.Common.{◌≡◌, ◌⊎◌, ℕ, ◌+◌, ◌-◌, ◌*◌, ◌^◌, ◌<◌, ◌≤◌, ap, sym, subst, refl, ◌∙◌, inl, inr, arith}
use Rattle.std.proofs.Math.Nat.{min-le_left, le-mul_of_pos_right, mul_comm, mul-add}
use Rattle.std.specs.Prelude.{None, Result, Ok, Err, IfOk, IfErr, OnOk, IsOkUnless, min, List, [], map, length}
use Rattle.std.specs.List.{flat_map, filter, sum_by}
use Rattle.morsel_meaning.specs.declared.fault.Fault.{Fault}
use Rattle.morsel_meaning.specs.declared.fault.Fault.TheVariants as faults
use Rattle.morsel_grammar.specs.Dialect.{IsDialect}
use Rattle.morsel_outside.specs.Outside.{Outside, with_sink}
use Rattle.morsel_outside.specs.Actions.{Action, event_of, text_by, read_failures, write_failures}
use Rattle.morsel_outside.proofs.TransferLemmas.{AreTransfers}
use Rattle.morsel_scan.specs.Ahead.{ReadsAhead, asked_up_to}
use Rattle.morsel_scan.proofs.AheadLemmas.{reads_within}
use Rattle.morsel_read.specs.ScanReads.{sizes_in, CountsFromFirst}
use Rattle.morsel_drive.specs.Lines.{IsDue}
use Rattle.morsel_drive.specs.Driving.{is_reading}
use Rattle.morsel_drive.proofs.TransferLemmas.{are_transfers}
use Rattle.morsel_line.specs.Jobs.{Job}
use Rattle.morsel_line.specs.ScanJobs.{scan_axis, IsJobFault}
use Rattle.morsel_line.specs.ScanSources.{AskNextChunks}
use Rattle.morsel_line.specs.ScanRuns.{MeansRows, AnswersRows, StopsScan, WritesScan, WritesJob}
use Rattle.morsel_sink.specs.declared.spec.SinkFormat.{SinkFormat}
use Rattle.morsel_sink.specs.declared.spec.SinkFormat.TheVariants as formats
use Rattle.morsel_query.specs.RunOptions.{RunOptions, pieces_ahead}
use Rattle.morsel_query.specs.Queries.{FileScan, QueryParts}
use Rattle.morsel_query.specs.Plans.{query_fault}
use Rattle.morsel_query.specs.Meanings.{csv_scan, text_of, IsValid}
use Rattle.morsel_engine.specs.Courses.{file_numbers, SidesAsked}
use Rattle.morsel_engine.specs.Stages.{ScansFiles, bytes_bound}
use Rattle.morsel_engine.specs.Runs.{TellsBytes, axis_of, Answers, HasCauseInRun, IsFrontOfRows, NoneRises, bytes_ahead, Runs}
use Rattle.morsel_engine.proofs.ToldLemmas.{sizes_opened, are_told}
use Rattle.morsel_engine.proofs.AskLemmas.{ask_next, are_short, asks_up_to, failures_read, FailsAt, fails_on}
use Rattle.morsel_engine.proofs.ScanLemmas.{Begun, GoesOn, goes_on, AsksOn, none_fail, stands_none, runs_on, runs_begun}
use Rattle.morsel_engine.proofs.OpenScanLemmas.{OpenScan, numbers_of, reader_of, open_job, IsOfQuery, told_back, had_nothing, events_asked, means_asked, valid_rows, no_fault, whole, cause, out_of_memory}

-- a bound for each piece that may be ahead is more than the bound for all, and one longest record
positive : (p c : ℕ) → 0 < p * c → 0 < p
positive Rattle.std.specs.Prelude.zero c some = absurd (let none : 0 * c ≡ 0 = omega arith in omega (arith, some, none))
positive (Rattle.std.specs.Prelude.suc p) c some = omega arith

bounded : (p c l : ℕ) → 0 < min (p * c) (2 ^ 64 - 1) → min (p * c) (2 ^ 64 - 1) + l ≤ p * (c + l)
bounded p c l some =
    let low = min-le_left (p * c) (2 ^ 64 - 1) in
    let more : l ≤ l * p = le-mul_of_pos_right l (positive p c (omega (arith, low, some))) in
    let swap = mul_comm l p in let sum = mul-add p c l in omega (arith, low, more, swap, sum)

-- the scan of a query that has no other, whose sources were opened one after the other
abbrev pub open_alone : Outside → FileScan → List (List ℕ) → OpenScan
open_alone old left files = record { scan = left; first = 0; number = length old.sizes; files = files }

-- the query
abbrev pub into_ndjson : FileScan → List ℕ → QueryParts
into_ndjson left name = record { left = left; join = None; group = None; sink = record { name = name; format = formats.NdJson } }

-- what a run of a query into NDJSON did after its beginning
pub record Wrote (old : Outside) (left : FileScan) (name : List ℕ) (options : RunOptions) (files : List (List ℕ)) (now : Outside) (result : Result ℕ Fault) (new : Outside) : Type 0 where
  pub fit : IsDialect (csv_scan left).options
  pub from_first : CountsFromFirst left.asked.slice
  pub one_each : length left.sources ≡ length files
  pub some : 0 < length files
  pub begun : Begun old (into_ndjson left name) files now
  pub bound : 0 < bytes_bound options
  pub w : WritesScan (csv_scan left) (reader_of options (open_alone old left files)) (bytes_bound options) now result new

module _ (old : Outside) (left : FileScan) (name : List ℕ) (options : RunOptions) (files : List (List ℕ)) (now : Outside) (result : Result ℕ Fault) (new : Outside)
    (wrote : Wrote old left name options files now result new) where
  abbrev query : QueryParts
  query = into_ndjson left name

  abbrev actions : List Action
  actions = wrote.w.actions

  abbrev alone : OpenScan
  alone = open_alone old left files

  abbrev job : Job
  job = open_job options alone

  abbrev asked_to : SidesAsked
  asked_to = record { left = wrote.w.to; right = 0 }

  each : AreTransfers actions
  each = are_transfers actions wrote.w.each

  is_alone : IsOfQuery old now query files alone
  is_alone = record {
    fit = wrote.fit;
    from_first = wrote.from_first;
    one_each = wrote.one_each;
    some = wrote.some;
    number = omega arith;
    within = omega arith;
    sizes = ap (λ (x : List ℕ). sizes_in x (numbers_of alone)) wrote.begun.sizes ∙ sizes_opened old.sizes files;
    told = λ told. are_told old now files told.0 wrote.begun.sizes wrote.begun.held (wrote.begun.sized wrote.some) told.1;
    cause = λ fault has. has;
    few = λ valid. valid.few;
    means = λ valid. (valid.rows, valid.means);
  }

  asks : AskNextChunks (numbers_of alone) (map length files) options.chunk_bytes 0 (filter is_reading actions) wrote.w.to
  asks = subst (λ (x : List ℕ). AskNextChunks (numbers_of alone) x options.chunk_bytes 0 (filter is_reading actions) wrote.w.to) is_alone.sizes wrote.w.reads

  fails : FailsAt (length old.sizes) (length files) old.failed actions
  fails = fails_on (length old.sizes) (length files) (map length files) options.chunk_bytes 0 wrote.w.to old.failed actions each asks

  asks_on : AsksOn old query options files actions asked_to
  asks_on =
      let next = ask_next (numbers_of alone) (map length files) options.chunk_bytes 0 wrote.w.to actions each asks in record {
        once = asks_up_to (length old.sizes) (length files) (map length files) options.chunk_bytes wrote.w.to (flat_map event_of actions) next;
        short = are_short (numbers_of alone) (map length files) options.chunk_bytes 0 wrote.w.to (flat_map event_of actions) next;
        fails = fails;
      }

  on : GoesOn old query files actions new
  on = goes_on old now new query files actions wrote.begun each wrote.w.does

  -- what is told after the run was told before it
  told_of : TellsBytes new → WritesJob job (bytes_bound options) options.chunk_bytes actions result
  told_of told = wrote.w.told files (had_nothing old now query options files alone is_alone now refl refl (told_back now new (on.opened.held ∙ sym wrote.begun.held) told))

  asked : asked_up_to (scan_axis job) 0 (flat_map event_of actions) ≡ wrote.w.to
  asked = events_asked old now query options files alone is_alone wrote.w.to actions each asks

  ahead : TellsBytes new
      → (let axis = axis_of query (length old.sizes) files in ReadsAhead axis (bytes_ahead options axis) options.chunk_bytes 0 axis.head (flat_map event_of actions))
  ahead told =
      let axis = scan_axis job in
      reads_within axis (bytes_bound options + axis.longest) (bytes_ahead options axis) options.chunk_bytes 0 axis.head (flat_map event_of actions)
      (bounded (pieces_ahead options) options.chunk_bytes axis.longest wrote.bound) (told_of told).front.ahead

  front : TellsBytes new → IsFrontOfRows query files (flat_map text_by actions)
  front told = let stops = (told_of told).front in record {
    later = stops.rest;
    front = stops.front;
    valid = λ valid. (stops.rest, stops.front ∙ ap (text_of query) (valid_rows old now query options files alone is_alone valid valid.rows valid.means));
  }

  caused : IfErr result (HasCauseInRun old query files asked_to new)
  caused = by result wrote.w.stops (λ told. (told_of told).due)
    where
      by : (result : Result ℕ Fault) → IfErr result (StopsScan (reader_of options alone).sources actions) → (TellsBytes new → IfErr result (IsDue (IsJobFault job))) → IfErr result (HasCauseInRun old query files asked_to new)
      by (Ok n) stops due = tt
      by (Err fault) stops due = cause old now query options files alone is_alone new [] actions on each asked_to fault stops due

  complete : TellsBytes new → IsValid query files → NoneRises old new → IsOkUnless result faults.OutOfMemory
  complete told valid none = by result caused (told_of told).due
    where
      by : (result : Result ℕ Fault) → IfErr result (HasCauseInRun old query files asked_to new) → IfErr result (IsDue (IsJobFault job)) → IsOkUnless result faults.OutOfMemory
      by (Ok n) has due = tt
      by (Err fault) has due = out_of_memory old new query files asked_to fault has none (no_fault old now query options files alone is_alone fault valid due)

  answers : IfOk result (Answers old query files asked_to new)
  answers = by result wrote.w.fine wrote.w.all_asked (λ told. (told_of told).answers)
    where
      by : (result : Result ℕ Fault) → OnOk result ((sum_by read_failures (filter is_reading actions) ≡ 0) × (sum_by write_failures actions ≡ 0))
          → OnOk result ((wrote.w.to ≡ sum_by (λ n. n) (sizes_in now.sizes (numbers_of alone))) ⊎ ((reader_of options alone).sources.stop ≤ 4294967295))
          → (TellsBytes new → AnswersRows job actions result) → IfOk result (Answers old query files asked_to new)
      by (Err fault) fine all rows = tt
      by (Ok n) fine all rows = record {
        begun = on.has_begun;
        read_well = none_fail old new query files actions fails ((failures_read actions each).0 ∙ fine.0) on;
        write_well = stands_none (sum_by write_failures actions) old.write_faults new.write_faults fine.1 on.write_faults;
        whole = λ none. whole old now query options files alone is_alone wrote.w.to none all;
        text = λ told. let r = rows told in record {
          rows = r.0;
          counted = r.2;
          means = means_asked old now query options files alone is_alone wrote.w.to r.0 (subst (λ (n : ℕ). MeansRows job n r.0) asked r.3);
          made = on.made ∙ ap (with_sink old.made name) r.1;
        };
      }

  pub runs_written : query_fault query ≡ None → Runs old query options result new
  runs_written planned = runs_on old new query options files actions asked_to result planned asks_on on ahead answers caused front tt complete

-- a run that made its sink, whatever follows
pub runs_scanned : (format : SinkFormat) (old : Outside) (left : FileScan) (name : List ℕ) (options : RunOptions) (files : List (List ℕ)) (now : Outside) (result : Result ℕ Fault) (new : Outside)
    → (let query : QueryParts = record { left = left; join = None; group = None; sink = record { name = name; format = format } } in
    query_fault query ≡ None → CountsFromFirst left.asked.slice → 0 < length files → length left.sources ≡ length files → Begun old query files now
    → ScansFiles now (csv_scan left) left.sources (file_numbers (length old.sizes) (length files)) options result new → Runs old query options result new)
runs_scanned formats.NdJson old left name options files now result new planned from some one_each begun (inl (is, same)) =
    subst (λ (r : Result ℕ Fault). Runs old (into_ndjson left name) options r new) (sym is) (subst (Runs old (into_ndjson left name) options (Err faults.OutOfMemory)) (sym same)
    (runs_begun old now (into_ndjson left name) options files planned begun))
runs_scanned formats.NdJson old left name options files now result new planned from some one_each begun (inr (fit, bound, w)) =
    runs_written old left name options files now result new (record { fit = fit; from_first = from; one_each = one_each; some = some; begun = begun; bound = bound; w = w }) planned
