-- One scan of a query whose files are open: what it means as far as it was asked, and why it has a fault.
use Rattle.std.proofs.Common.{◌≡◌, ◌⊎◌, ℕ, ◌+◌, ◌-◌, ◌^◌, ◌<◌, ◌≤◌, ap, sym, subst, refl, ◌∙◌, inl, inr, arith}
use Rattle.std.proofs.lemmas.List.Sums.{sum_by-append, fold-append}
use Rattle.std.specs.Prelude.{Option, None, Ok, List, [], ◌∷◌, ◌++◌, map, length, slice_index}
use Rattle.std.specs.List.{All, fold, flat_map, filter, sum_by}
use Rattle.morsel_meaning.specs.declared.fault.Fault.{Fault}
use Rattle.morsel_meaning.specs.declared.fault.Fault.TheVariants as faults
use Rattle.morsel_meaning.specs.declared.fault.ComputeKind.TheVariants as kinds
use Rattle.morsel_meaning.specs.Values.{Row, kinds_of}
use Rattle.morsel_grammar.specs.Dialect.{IsDialect}
use Rattle.morsel_grammar.specs.Rows.{IsOfGrammar}
use Rattle.morsel_outside.specs.declared.io.FileNo.{FileNo}
use Rattle.morsel_outside.specs.Outside.{Outside}
use Rattle.morsel_outside.specs.Actions.{Action, Rises, event_of, read_failures, write_failures, failed_after}
use Rattle.morsel_outside.proofs.TransferLemmas.{AreTransfers}
use Rattle.morsel_scan.specs.FileReads.{IsTold}
use Rattle.morsel_scan.specs.ScanRows.{total_rows}
use Rattle.morsel_scan.specs.CsvScans.{csv_sources, csv_scan_rows}
use Rattle.morsel_scan.specs.Ahead.{asked_up_to}
use Rattle.morsel_scan.specs.StretchRows.{collected, before_fault}
use Rattle.morsel_scan.proofs.AxisFileLemmas.{gives_scan}
use Rattle.morsel_scan.proofs.StretchLemmas.{gives_all}
use Rattle.morsel_read.specs.ScanReads.{PiecesRead, pieces_at_start, files_asked, sizes_in, IsPiecesFaultOf, CountsFromFirst, AreTold, HasGivenRows, slice_stop}
use Rattle.morsel_drive.specs.Lines.{IsDue}
use Rattle.morsel_drive.specs.Driving.{is_reading}
use Rattle.morsel_line.specs.Jobs.{Job}
use Rattle.morsel_line.specs.ScanJobs.{scan_text, scan_axis, IsJobFault}
use Rattle.morsel_line.specs.ScanSources.{opened_as, AskNextChunks, EndsInFailure}
use Rattle.morsel_line.specs.ScanRuns.{MeansRows, StopsScan, job_of}
use Rattle.morsel_query.specs.RunOptions.{RunOptions}
use Rattle.morsel_query.specs.Queries.{FileFormat, CsvFiles, FileScan, QueryParts, fields_of_format}
use Rattle.morsel_query.specs.QueryFlaws.{sources_of}
use Rattle.morsel_query.specs.Meanings.{csv_scan, dialect_of, rows_by_format, rows_over, height_by_format, height_over, AreOfFormat, IsValid}
use Rattle.morsel_query.specs.CsvCauses.{CsvCause, QueryCause}
use Rattle.morsel_causes.specs.FileFaults.{TellsOfQuery}
use Rattle.morsel_causes.proofs.ValidLemmas.{valid_files, files_with_rows}
use Rattle.morsel_causes.proofs.CauseLemmas.{each_cause}
use Rattle.morsel_engine.specs.Courses.{file_numbers, SidesAsked}
use Rattle.morsel_engine.specs.Runs.{TellsBytes, ScansAsked, HasCauseInRun, NoneRises}
use Rattle.morsel_engine.proofs.ToldLemmas.{sum_lengths, has_given_nothing}
use Rattle.morsel_engine.proofs.OpenLemmas.{length_numbers}
use Rattle.morsel_engine.proofs.AskLemmas.{ask_next, asked_to_end, failures_read, ends_in_failure, fails_last, number_of}
use Rattle.morsel_engine.proofs.PastLemmas.{all_before_fault}
use Rattle.morsel_engine.proofs.ScanLemmas.{GoesOn, rises_some}

-- the words of a query, for CSV files
pub means_csv : (format : FileFormat) (scan : FileScan) (first : ℕ) (files : List (List ℕ)) → rows_by_format format scan first files ≡ csv_scan_rows (csv_scan scan) first scan.sources files
means_csv (CsvFiles fields options) scan first files = refl

pub height_csv : (format : FileFormat) (scan : FileScan) (first : ℕ) (files : List (List ℕ)) → height_by_format format scan first files ≡ total_rows (csv_sources (csv_scan scan) first scan.sources files)
height_csv (CsvFiles fields options) scan first files = refl

of_format : (format : FileFormat) (scan : FileScan) (files : List (List ℕ)) → scan.format ≡ format → All (IsOfGrammar (csv_scan scan).options (kinds_of (csv_scan scan).scan.fields)) files → AreOfFormat format files
of_format (CsvFiles fields options) scan files is all =
    subst (λ (f : FileFormat). All (IsOfGrammar (dialect_of f) (kinds_of (fields_of_format f))) files) is all

-- a scan of a query, and its open files
pub record OpenScan : Type 0 where
  pub scan : FileScan
  pub first : ℕ  -- the number of its first source within the query
  pub number : ℕ  -- the number of its first file as it was opened
  pub files : List (List ℕ)  -- what they contain

-- the numbers of its files
abbrev pub numbers_of : OpenScan → List FileNo
numbers_of open_scan = file_numbers open_scan.number (length open_scan.files)

-- their reader, which has read nothing
abbrev pub reader_of : RunOptions → OpenScan → PiecesRead
reader_of options open_scan = pieces_at_start (files_asked (csv_scan open_scan.scan) open_scan.scan.sources (numbers_of open_scan) open_scan.first options.chunk_bytes)

abbrev pub open_job : RunOptions → OpenScan → Job
open_job options open_scan = job_of (csv_scan open_scan.scan) (reader_of options open_scan) open_scan.files

-- the rows before its first fault
abbrev pub open_rows : RunOptions → OpenScan → List Row
open_rows options open_scan = before_fault (scan_axis (open_job options open_scan)).gives

-- it is one of a query whose files were opened in this outside
pub record IsOfQuery (old now : Outside) (query : QueryParts) (files : List (List ℕ)) (open_scan : OpenScan) : Type 0 where
  pub fit : IsDialect (csv_scan open_scan.scan).options
  pub from_first : CountsFromFirst open_scan.scan.asked.slice
  pub one_each : length open_scan.scan.sources ≡ length open_scan.files
  pub some : 0 < length open_scan.files
  pub number : open_scan.number ≡ length old.sizes + open_scan.first
  pub within : open_scan.first + length open_scan.files ≤ length files
  pub sizes : sizes_in now.sizes (numbers_of open_scan) ≡ map length open_scan.files
  pub told : TellsBytes now → AreTold now (numbers_of open_scan) open_scan.files
  pub cause : (fault : Fault) → CsvCause (csv_scan open_scan.scan) open_scan.first open_scan.scan.sources open_scan.files fault → QueryCause query files fault
  pub few : IsValid query files → height_over open_scan.scan open_scan.first open_scan.files ≤ 4294967295
  pub means : IsValid query files → (rows : List Row) × (rows_over open_scan.scan open_scan.first open_scan.files ≡ Ok rows)

-- files are told in any outside that has them
told_over : (o other : Outside) (numbers : List FileNo) (files : List (List ℕ)) → other.sizes ≡ o.sizes → other.held ≡ o.held → AreTold o numbers files → AreTold other numbers files
told_over o other [] [] sizes held told = tt
told_over o other [] (bytes ∷ files) sizes held told = absurd told
told_over o other (number ∷ numbers) [] sizes held told = absurd told
told_over o other (number ∷ numbers) (bytes ∷ files) sizes held (is, size, told) = (
  subst (λ (h : Option (List (List ℕ))). IsTold h number.0 bytes) (sym held) is,
  ap (λ (xs : List ℕ). slice_index xs number.0) sizes ∙ size,
  told_over o other numbers files sizes held told,
)

-- what is told in another outside was told in this one
pub told_back : (o other : Outside) → other.held ≡ o.held → TellsBytes other → TellsBytes o
told_back o other held told = (told.0, sym held ∙ told.1)

module _ (old now : Outside) (query : QueryParts) (options : RunOptions) (files : List (List ℕ)) (open_scan : OpenScan) (is : IsOfQuery old now query files open_scan) where
  abbrev scan : FileScan
  scan = open_scan.scan

  abbrev job : Job
  job = open_job options open_scan

  -- in any outside that has the files the reader has given nothing
  pub had_nothing : (other : Outside) → other.sizes ≡ now.sizes → other.held ≡ now.held → TellsBytes other → HasGivenRows (csv_scan scan) open_scan.files other (reader_of options open_scan)
  had_nothing other sizes held told =
      has_given_nothing (csv_scan scan) scan.sources open_scan.files (numbers_of open_scan) open_scan.first options.chunk_bytes other is.fit is.from_first is.one_each is.some
      (told_over now other (numbers_of open_scan) open_scan.files sizes held (is.told (told_back now other held told)))

  -- how many bytes the reads asked
  pub events_asked : (to : ℕ) (actions : List Action) → AreTransfers actions → AskNextChunks (numbers_of open_scan) (map length open_scan.files) options.chunk_bytes 0 (filter is_reading actions) to
      → asked_up_to (scan_axis job) 0 (flat_map event_of actions) ≡ to
  events_asked to actions each asks =
      asked_to_end (scan_axis job) (numbers_of open_scan) (map length open_scan.files) options.chunk_bytes 0 to (flat_map event_of actions) refl
      (ask_next (numbers_of open_scan) (map length open_scan.files) options.chunk_bytes 0 to actions each asks)

  -- rows that were given are what the scan means, as far as it was asked
  pub means_asked : (asked : ℕ) (rows : List Row) → MeansRows job asked rows → ScansAsked scan open_scan.first asked open_scan.files rows
  means_asked asked rows (inl (all, gives, meant, few)) = inl (record {
    all = all;
    gives = gives;
    of_format = of_format scan.format scan open_scan.files refl (files_with_rows (csv_scan scan) open_scan.first scan.sources open_scan.files rows is.fit is.one_each meant);
    few = few;
    means = means_csv scan.format scan open_scan.first open_scan.files ∙ meant;
  })
  means_asked asked rows (inr (given, gives, end, later)) = inr (record {
    given = given;
    gives = gives;
    ends = end;
    means = λ fine. means_csv scan.format scan open_scan.first open_scan.files ∙ later fine;
  })

  -- and they are all before the first fault
  pub all_rows : (asked : ℕ) (rows : List Row) → MeansRows job asked rows → open_rows options open_scan ≡ rows
  all_rows asked rows means = all_before_fault job asked rows is.fit is.from_first is.one_each means

  few_rows : IsValid query files → total_rows (csv_sources (csv_scan scan) open_scan.first scan.sources open_scan.files) ≤ 4294967295
  few_rows valid = subst (λ (n : ℕ). n ≤ 4294967295) (height_csv scan.format scan open_scan.first open_scan.files) (is.few valid)

  -- over valid files these are the rows that the scan means
  pub valid_rows : IsValid query files → (rows : List Row) → rows_over scan open_scan.first open_scan.files ≡ Ok rows → open_rows options open_scan ≡ rows
  valid_rows valid rows meant =
      let gives = (scan_axis job).gives in
      let all : collected gives ≡ Ok rows = gives_scan (csv_scan scan) is.fit open_scan.first 0 scan.sources open_scan.files (opened_as (numbers_of open_scan)) (scan_text (csv_scan scan)) (few_rows valid)
      ∙ sym (means_csv scan.format scan open_scan.first open_scan.files) ∙ meant in
      (gives_all gives rows).1 all

  -- valid files have no fault
  pub no_fault : (fault : Fault) → IsValid query files → IsDue (IsJobFault job) fault → IsDue (λ due. ⊥) fault
  no_fault fault valid due =
      let meant = is.means valid in
      valid_files (csv_scan scan) open_scan.first scan.sources open_scan.files meant.0 fault is.fit is.one_each (few_rows valid)
      (sym (means_csv scan.format scan open_scan.first open_scan.files) ∙ meant.1) due

  -- all bytes were asked, where there is no slice
  pub whole : (to : ℕ) → scan.asked.slice ≡ None
      → (to ≡ sum_by (λ n. n) (sizes_in now.sizes (numbers_of open_scan))) ⊎ ((reader_of options open_scan).sources.stop ≤ 4294967295) → to ≡ sum_by length open_scan.files
  whole to none (inl all) = all ∙ ap (sum_by (λ n. n)) is.sizes ∙ sum_lengths open_scan.files
  whole to none (inr past) = absurd (let stop : (reader_of options open_scan).sources.stop ≡ 2 ^ 64 - 1 = ap slice_stop none in omega (arith, past, stop))

  -- why a part of a run has a fault, where the run did something before it
  module _ (new : Outside) (before part : List Action) (on : GoesOn old query files (before ++ part) new) (each : AreTransfers part) (asked : SidesAsked) where
    -- a read that failed
    rises_reading : (number : ℕ) → EndsInFailure (reader_of options open_scan).sources number (filter is_reading part)
        → (number < length (sources_of query)) × (number ≤ length files) × Rises old.read_faults new.read_faults × (new.failed ≡ length old.sizes + number)
    rises_reading number end =
        let of = number_of open_scan.number (length open_scan.files) end.source end.file end.is in
        let same = failures_read part each in
        let first = end.number_is in let less = of.1 in let place = of.0 in let all = on.has_begun.all in let within = is.within in let opened = is.number in
        let more = fails_last end.file end.at end.len end.before (filter is_reading part) end.split in let sum = same.0 in
        let whole_sum = sum_by-append read_failures before part in (
          omega (arith, first, less, all, within),
          omega (arith, first, less, within),
          rises_some (sum_by read_failures (before ++ part)) old.read_faults new.read_faults (omega (arith, more, sum, whole_sum)) on.read_faults,
          on.failed ∙ fold-append failed_after old.failed before part ∙ same.1 (fold failed_after old.failed before)
              ∙ ends_in_failure open_scan.number (length open_scan.files) (fold failed_after old.failed before) end.file end.at end.len end.before (filter is_reading part) end.split
              ∙ (omega (arith, place, first, opened)),
        )

    rises_writing : 0 < sum_by write_failures part → Rises old.write_faults new.write_faults
    rises_writing more = rises_some (sum_by write_failures (before ++ part)) old.write_faults new.write_faults (let all = sum_by-append write_failures before part in omega (arith, more, all)) on.write_faults

    -- a fault of the files
    of_files : (fault : Fault) → TellsOfQuery fault → (TellsBytes new → IsDue (IsJobFault job) fault) → TellsBytes new
        → IsDue (CsvCause (csv_scan scan) open_scan.first scan.sources open_scan.files) fault
    of_files fault tells due told = each_cause (csv_scan scan) open_scan.first scan.sources open_scan.files fault is.fit is.one_each tells (due told)

    of_source : (file code : ℕ) → IsPiecesFaultOf (reader_of options open_scan).sources (faults.Unsupported file code) → (file < length (sources_of query)) × ((code ≡ 31) ⊎ (code ≡ 40))
    of_source file code (source, less, of) =
        let number = of.0 in let n = length_numbers open_scan.number (length open_scan.files) in let all = on.has_begun.all in let within = is.within in
        (omega (arith, less, number, n, all, within), of.1)

    pub cause : (fault : Fault) → StopsScan (reader_of options open_scan).sources part fault → (TellsBytes new → IsDue (IsJobFault job) fault) → HasCauseInRun old query files asked new fault
    cause faults.OutOfMemory stops due = tt
    cause (faults.ReadFault number) (inl write) due = absurd write
    cause (faults.ReadFault number) (inr (inl read)) due = rises_reading number (read.1 number refl)
    cause (faults.ReadFault number) (inr (inr broke)) due = absurd broke
    cause faults.WriteFault (inl write) due = (on.has_begun.all, rises_writing write)
    cause faults.WriteFault (inr (inl read)) due = absurd read.0.2
    cause faults.WriteFault (inr (inr broke)) due = absurd broke
    cause (faults.Malformed file at) stops due = record { kind = tt; begun = on.has_begun; cause = λ told. inl (is.cause _ (of_files (faults.Malformed file at) tt due told)) }
    cause (faults.Unsupported file code) (inl write) due = absurd write
    cause (faults.Unsupported file code) (inr (inl read)) due = record { kind = of_source file code read.0; begun = on.has_begun; cause = λ told. inl (is.cause _ (of_files (faults.Unsupported file code) tt due told)) }
    cause (faults.Unsupported file code) (inr (inr broke)) due = absurd broke
    cause (faults.ComputeError kinds.NotUtf8 file at) stops due = record { kind = tt; begun = on.has_begun; cause = λ told. inl (is.cause _ (of_files (faults.ComputeError kinds.NotUtf8 file at) tt due told)) }
    cause (faults.ComputeError kinds.IllTyped file at) stops due = record { kind = tt; begun = on.has_begun; cause = λ told. inl (is.cause _ (of_files (faults.ComputeError kinds.IllTyped file at) tt due told)) }
    cause (faults.ComputeError kinds.IndexTooLarge file at) stops due = record { kind = tt; begun = on.has_begun; cause = λ told. inl (is.cause _ (of_files (faults.ComputeError kinds.IndexTooLarge file at) tt due told)) }
    cause (faults.ComputeError kinds.TooManyRows file at) (inl write) due = absurd write
    cause (faults.ComputeError kinds.TooManyRows file at) (inr (inl read)) due =
        record { kind = read.0; begun = on.has_begun; cause = λ told. inl (is.cause _ (of_files (faults.ComputeError kinds.TooManyRows file at) read.0 due told)) }
    cause (faults.ComputeError kinds.TooManyRows file at) (inr (inr broke)) due = absurd broke
    cause (faults.InvalidQuery why) (inl write) due = absurd write
    cause (faults.InvalidQuery why) (inr (inl read)) due = absurd read.0.2
    cause (faults.InvalidQuery why) (inr (inr broke)) due = absurd broke
    cause (faults.ColumnNotFound name) (inl write) due = absurd write
    cause (faults.ColumnNotFound name) (inr (inl read)) due = absurd read.0.2
    cause (faults.ColumnNotFound name) (inr (inr broke)) due = absurd broke
    cause (faults.SchemaMismatch name) (inl write) due = absurd write
    cause (faults.SchemaMismatch name) (inr (inl read)) due = absurd read.0.2
    cause (faults.SchemaMismatch name) (inr (inr broke)) due = absurd broke
    cause (faults.Duplicate name) (inl write) due = absurd write
    cause (faults.Duplicate name) (inr (inl read)) due = absurd read.0.2
    cause (faults.Duplicate name) (inr (inr broke)) due = absurd broke
    cause faults.QueryText (inl write) due = absurd write
    cause faults.QueryText (inr (inl read)) due = absurd read.0.2
    cause faults.QueryText (inr (inr broke)) due = absurd broke
    cause faults.Usage (inl write) due = absurd write
    cause faults.Usage (inr (inl read)) due = absurd read.0.2
    cause faults.Usage (inr (inr broke)) due = absurd broke
    cause (faults.ComputeError kinds.NegativeSlice file at) (inl write) due = absurd write
    cause (faults.ComputeError kinds.NegativeSlice file at) (inr (inl read)) due = absurd read.0.2
    cause (faults.ComputeError kinds.NegativeSlice file at) (inr (inr broke)) due = absurd broke
    cause (faults.ComputeError kinds.SumTooLarge file at) (inl write) due = absurd write
    cause (faults.ComputeError kinds.SumTooLarge file at) (inr (inl read)) due = absurd read.0.2
    cause (faults.ComputeError kinds.SumTooLarge file at) (inr (inr broke)) due = absurd broke
    cause (faults.ComputeError kinds.LenTooLarge file at) (inl write) due = absurd write
    cause (faults.ComputeError kinds.LenTooLarge file at) (inr (inl read)) due = absurd read.0.2
    cause (faults.ComputeError kinds.LenTooLarge file at) (inr (inr broke)) due = absurd broke
    cause (faults.ComputeError kinds.TooManyGroups file at) (inl write) due = absurd write
    cause (faults.ComputeError kinds.TooManyGroups file at) (inr (inl read)) due = absurd read.0.2
    cause (faults.ComputeError kinds.TooManyGroups file at) (inr (inr broke)) due = absurd broke
    cause (faults.ComputeError kinds.FooterTooLarge file at) (inl write) due = absurd write
    cause (faults.ComputeError kinds.FooterTooLarge file at) (inr (inl read)) due = absurd read.0.2
    cause (faults.ComputeError kinds.FooterTooLarge file at) (inr (inr broke)) due = absurd broke

-- no fault of files is due: it is that memory is out, where no call failed
pub out_of_memory : (old new : Outside) (query : QueryParts) (files : List (List ℕ)) (asked : SidesAsked) (fault : Fault) → HasCauseInRun old query files asked new fault → NoneRises old new → IsDue (λ due. ⊥) fault
    → fault ≡ faults.OutOfMemory
out_of_memory old new query files asked faults.OutOfMemory has none due = refl
out_of_memory old new query files asked (faults.ReadFault number) has none due = absurd (none.reads has.2)
out_of_memory old new query files asked faults.WriteFault has none due = absurd (none.writes has.1)
out_of_memory old new query files asked (faults.Malformed file at) has none due = absurd due
out_of_memory old new query files asked (faults.Unsupported file code) has none due = absurd due
out_of_memory old new query files asked (faults.ComputeError kind file at) has none due = absurd due
out_of_memory old new query files asked (faults.InvalidQuery why) has none due = absurd due
out_of_memory old new query files asked (faults.ColumnNotFound column) has none due = absurd due
out_of_memory old new query files asked (faults.SchemaMismatch column) has none due = absurd due
out_of_memory old new query files asked (faults.Duplicate column) has none due = absurd due
out_of_memory old new query files asked faults.QueryText has none due = absurd due
out_of_memory old new query files asked faults.Usage has none due = absurd due
