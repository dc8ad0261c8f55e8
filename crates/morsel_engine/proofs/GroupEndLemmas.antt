-- Runs of queries with a group-by, from where their last scan is read to what they answer and leave.
use Rattle.std.proofs.Common.{◌≡◌, ◌⊎◌, ℕ, ◌<◌, ◌≤◌, ap, sym, subst, refl, ◌∙◌, inl, inr, arith, append-nil}
use Rattle.std.proofs.lemmas.List.Concat.{flat_map-append}
use Rattle.std.proofs.lemmas.List.Elements.{filter-append}
use Rattle.std.proofs.lemmas.List.Sums.{sum_by-append}
use Rattle.std.specs.Prelude.{Option, None, Some, Result, Ok, Err, List, [], ◌++◌, map, length}
use Rattle.std.specs.List.{flat_map, filter, sum_by}
use Rattle.morsel_meaning.specs.declared.fault.Fault.{Fault}
use Rattle.morsel_meaning.specs.declared.fault.Fault.TheVariants as faults
use Rattle.morsel_meaning.specs.declared.fault.ComputeKind.TheVariants as kinds
use Rattle.morsel_meaning.specs.declared.value.Field.{Field}
use Rattle.morsel_meaning.specs.Values.{Row}
use Rattle.morsel_outside.specs.declared.events.IoEvent.{IoEvent}
use Rattle.morsel_outside.specs.Outside.{Outside, with_sink}
use Rattle.morsel_outside.specs.Actions.{Action, Does, Rises, event_of, text_by, read_failures, write_failures}
use Rattle.morsel_outside.proofs.ActionLemmas.{does-append}
use Rattle.morsel_outside.proofs.DoesLemmas.{does-nothing}
use Rattle.morsel_outside.proofs.TransferLemmas.{AreTransfers}
use Rattle.morsel_read.specs.ScanReads.{HasGivenRows, sizes_in}
use Rattle.morsel_drive.specs.Lines.{Each, IsReading, IsDue}
use Rattle.morsel_drive.specs.Driving.{is_reading, IsWriting}
use Rattle.morsel_drive.proofs.TransferLemmas.{IsEither, each-append, are_transfers, either_reading, either_writing, stays, filter_readings, filter_writings, readings_write_nothing}
use Rattle.morsel_drain.specs.Pouring.{StopsWritesFor}
use Rattle.morsel_line.specs.Jobs.{Job}
use Rattle.morsel_line.specs.RowStages.{GivenRows}
use Rattle.morsel_line.specs.ScanJobs.{IsJobFault, IsPieceKind}
use Rattle.morsel_line.specs.ScanSources.{AskNextChunks}
use Rattle.morsel_line.specs.ScanRuns.{JobGives, MeansRows, StopsScan}
use Rattle.morsel_group.specs.Asked.{GroupAsked}
use Rattle.morsel_group.specs.Grouping.{Grouped}
use Rattle.morsel_group.specs.GroupCauses.{FitsGroups, GroupCause}
use Rattle.morsel_group_units.specs.GroupAsks.{GroupRulesSeen, rules_output, rules_shape}
use Rattle.morsel_group_reads.proofs.SaysLemmas.{SaysOf}
use Rattle.morsel_emit_run.specs.EmitRuns.{WritesPlaceRows}
use Rattle.morsel_join_plan.specs.PhaseRuns.{KeepsScan}
use Rattle.morsel_join_plan.specs.JoinRuns.{IsLeftSo}
use Rattle.morsel_group_plan.specs.GroupRuns.{EndsGroups, GroupsRows, IsLastFault, WritesGroups}
use Rattle.morsel_sink.specs.declared.spec.SinkFormat.TheVariants as formats
use Rattle.morsel_query.specs.RunOptions.{RunOptions}
use Rattle.morsel_query.specs.Queries.{FileScan, JoinPart, QueryParts}
use Rattle.morsel_query.specs.Plans.{fields_of_input, query_fault}
use Rattle.morsel_query.specs.Meanings.{csv_scan, rows_over, MeansBy, shape_over, text_of, IsValid}
use Rattle.morsel_causes.proofs.GroupLemmas.{groups_fit}
use Rattle.morsel_engine.specs.Courses.{SidesAsked}
use Rattle.morsel_engine.specs.Runs.{TellsBytes, MeansAskedBy, IsAskedWhole, AreAskedWhole, HasCauseInRun, IsFrontOfMeaning, IsFrontOfText, LeavesNoRow, NoneRises, ReadsAheadBy, IsFrontBy, Runs}
use Rattle.morsel_engine.proofs.AskLemmas.{failures_read}
use Rattle.morsel_engine.proofs.RunLemmas.{no_row_left}
use Rattle.morsel_engine.proofs.ScanLemmas.{Begun, GoesOn, goes_on, AsksOn, none_fail, rises_some, stands_none, runs_on}
use Rattle.morsel_engine.proofs.OpenScanLemmas.{OpenScan, numbers_of, reader_of, open_job, open_rows, IsOfQuery, told_back, had_nothing, events_asked, all_rows, valid_rows, no_fault, whole, cause, out_of_memory}
use Rattle.morsel_engine.proofs.JoinLemmas.{join_scan}
use Rattle.morsel_engine.proofs.JoinRunLemmas.{no_write_fails, stops_kept, answer_as}
use Rattle.morsel_engine.proofs.JoinStayLemmas.{AreSame}

-- a query with a group-by, and with a join or without, into NDJSON
abbrev pub grouped_query : FileScan → Option JoinPart → GroupAsked → List ℕ → QueryParts
grouped_query left join group name = record { left = left; join = join; group = Some group; sink = record { name = name; format = formats.NdJson } }

-- what is asked of its group-by
abbrev pub rules_of_group : FileScan → Option JoinPart → GroupAsked → GroupRulesSeen
rules_of_group left join group = record { columns = fields_of_input left join; asked = group }

-- of such a query no read has to be in time
grouped_ahead : (join : Option JoinPart) (group : GroupAsked) (query : QueryParts) (options : RunOptions) (number : ℕ) (files : List (List ℕ)) (events : List IoEvent) → ReadsAheadBy join (Some group) query options number files events
grouped_ahead None group query options number files events = tt
grouped_ahead (Some join) group query options number files events = tt

-- and a text that is left is only over valid files a beginning
grouped_front : (join : Option JoinPart) (group : GroupAsked) (query : QueryParts) (files : List (List ℕ)) (text : List ℕ) → (IsValid query files → IsFrontOfMeaning query files text) → IsFrontBy join (Some group) query files text
grouped_front None group query files text is = is
grouped_front (Some join) group query files text is = is

-- over valid files rows that were read are those that their scan means
pub valid_input : (old now : Outside) (query : QueryParts) (options : RunOptions) (files : List (List ℕ)) (open_scan : OpenScan) → IsOfQuery old now query files open_scan → (to : ℕ) (rows : List Row)
    → MeansRows (open_job options open_scan) to rows → IsValid query files → rows_over open_scan.scan open_scan.first open_scan.files ≡ Ok rows
valid_input old now query options files open_scan is to rows means valid =
    let all : open_rows options open_scan ≡ rows = all_rows old now query options files open_scan is to rows means in
    let meant = is.means valid in
    let same : open_rows options open_scan ≡ meant.0 = valid_rows old now query options files open_scan is valid meant.0 meant.1 in
    meant.1 ∙ ap (λ (xs : List Row). Ok xs) (sym same ∙ all)

-- a group-by of these rows says what one says of rows that the query groups, as far as its files were asked; and over valid files those are what it means to group
pub record IsInput (left : FileScan) (join : Option JoinPart) (group : GroupAsked) (name : List ℕ) (rules : GroupRulesSeen) (asked : SidesAsked) (files : List (List ℕ)) (rows : List Row) : Type 0 where
  pub whole : List Row  -- the same rows, with all of their columns
  pub asked_means : MeansAskedBy left join asked files whole
  pub valid_means : IsValid (grouped_query left join group name) files → MeansBy left join files whole
  pub says : SaysOf (rules_shape rules) (shape_over left join group) rows whole

-- the last scan of a run, which has read others before it, and what is asked of all when it is read
pub record LastScan (old now : Outside) (left : FileScan) (join : Option JoinPart) (group : GroupAsked) (name : List ℕ) (options : RunOptions) (files : List (List ℕ)) (last : OpenScan) (first : List Action) (before : Outside)
    : Type 0 where
  pub begun : Begun old (grouped_query left join group name) files now
  pub planned : query_fault (grouped_query left join group name) ≡ None
  pub is_last : IsOfQuery old now (grouped_query left join group name) files last
  pub does : Does now first before
  pub reading : Each IsReading first
  pub fine : sum_by read_failures first ≡ 0
  pub same : AreSame now before
  pub sides : ℕ → SidesAsked  -- how many bytes of each side were asked, where so many of this scan were
  pub asks : (to : ℕ) (later : List Action) → Each IsEither later → AskNextChunks (numbers_of last) (map length last.files) options.chunk_bytes 0 (filter is_reading later) to
      → AsksOn old (grouped_query left join group name) options files (first ++ later) (sides to)

-- what its rows are, in the group-by
pub record GivesInput (left : FileScan) (join : Option JoinPart) (group : GroupAsked) (name : List ℕ) (rules : GroupRulesSeen) (options : RunOptions) (files : List (List ℕ)) (last : OpenScan) (before : Outside)
    (sides : ℕ → SidesAsked) (is_input : ℕ → List (List ℕ) → List Row → Type 0) : Type 0 where
  pub output : rules_output rules ≡ rules_output (rules_of_group left join group)
  pub whole : (to : ℕ) → IsAskedWhole last.scan to last.files → AreAskedWhole left join (sides to) files
  pub input : TellsBytes before → (given to : ℕ) (rows : List Row) → ((found : List Row) → JobGives (open_job options last) given found → MeansRows (open_job options last) to found)
      → is_input given last.files rows → IsInput left join group name rules (sides to) files rows

-- some of its files was read, and then some rows of the group-by were written
pub record GroupStage (options : RunOptions) (before : Outside) (last : OpenScan) (to : ℕ) (reads later : List Action) (new : Outside) : Type 0 where
  pub does : Does before (reads ++ later) new
  pub reading : Each IsReading reads
  pub writing : Each IsWriting later
  pub asks : AskNextChunks (numbers_of last) (map length last.files) options.chunk_bytes 0 reads to

module _ (old now : Outside) (left : FileScan) (join : Option JoinPart) (group : GroupAsked) (name : List ℕ) (options : RunOptions) (files : List (List ℕ)) (last : OpenScan) (first : List Action) (before : Outside)
    (run : LastScan old now left join group name options files last first before) where
  abbrev query : QueryParts
  query = grouped_query left join group name

  abbrev job : Job
  job = open_job options last

  module _ (to : ℕ) (reads later : List Action) (new : Outside) (stage : GroupStage options before last to reads later new) where
    abbrev actions : List Action
    actions = first ++ (reads ++ later)

    abbrev asked_to : SidesAsked
    asked_to = run.sides to

    either : Each IsEither (reads ++ later)
    either = each-append IsEither reads later (either_reading reads stage.reading) (either_writing later stage.writing)

    each : AreTransfers actions
    each = are_transfers actions (each-append IsEither first (reads ++ later) (either_reading first run.reading) either)

    only_reads : filter is_reading (reads ++ later) ≡ reads
    only_reads = filter-append is_reading reads later ∙ ap (λ (xs : List Action). xs ++ filter is_reading later) (filter_readings reads stage.reading)
        ∙ ap (λ (xs : List Action). reads ++ xs) (filter_writings later stage.writing) ∙ append-nil reads

    asks_on : AsksOn old query options files actions asked_to
    asks_on = run.asks to (reads ++ later) either
        (subst (λ (xs : List Action). AskNextChunks (numbers_of last) (map length last.files) options.chunk_bytes 0 xs to) (sym only_reads) stage.asks)

    on : GoesOn old query files actions new
    on = goes_on old now new query files actions run.begun each (does-append now before new first (reads ++ later) run.does stage.does)

    text_then : flat_map text_by actions ≡ flat_map text_by later
    text_then = flat_map-append text_by first (reads ++ later) ∙ ap (λ (text : List ℕ). text ++ flat_map text_by (reads ++ later)) (readings_write_nothing first run.reading)
        ∙ flat_map-append text_by reads later ∙ ap (λ (text : List ℕ). text ++ flat_map text_by later) (readings_write_nothing reads stage.reading)

    -- what is left of the text, over valid files
    abbrev IsFront : Type 0
    IsFront = TellsBytes new → IsValid query files → IsFrontOfMeaning query files (flat_map text_by later)

    front_by : IsFront → TellsBytes new → IsFrontOfText query files (flat_map text_by actions)
    front_by front told = grouped_front join group query files (flat_map text_by actions) (λ valid. subst (IsFrontOfMeaning query files) (sym text_then) (front told valid))

    -- memory is out
    runs_out : IsFront → Runs old query options (Err faults.OutOfMemory) new
    runs_out front = runs_on old new query options files actions asked_to (Err faults.OutOfMemory) run.planned asks_on on
        (λ told. grouped_ahead join group query options (length old.sizes) files (flat_map event_of actions)) tt tt (front_by front) tt (λ told valid none. refl)

    -- a fault that has its cause
    runs_failed : (fault : Fault) → IsFront → HasCauseInRun old query files asked_to new fault → LeavesNoRow old query new fault
        → (TellsBytes new → IsValid query files → NoneRises old new → fault ≡ faults.OutOfMemory) → Runs old query options (Err fault) new
    runs_failed fault front caused left_so complete =
        runs_on old new query options files actions asked_to (Err fault) run.planned asks_on on
        (λ told. grouped_ahead join group query options (length old.sizes) files (flat_map event_of actions)) tt caused (front_by front) left_so complete

    -- a write failed
    runs_unwritten : IsFront → 0 < sum_by write_failures later → Runs old query options (Err faults.WriteFault) new
    runs_unwritten front more =
        let rises : Rises old.write_faults new.write_faults =
        rises_some (sum_by write_failures actions) old.write_faults new.write_faults
        (let sum = sum_by-append write_failures first (reads ++ later) in let rest = sum_by-append write_failures reads later in omega (arith, sum, rest, more)) on.write_faults in
        runs_failed faults.WriteFault front (on.has_begun.all, rises) tt (λ told valid none. absurd (none.writes rises))

    -- rows are answered
    runs_ended : (count : ℕ) (groups : List Row) → IsFront
        → (TellsBytes new → (rows : List Row) × MeansAskedBy left join asked_to files rows × Grouped (shape_over left join group) rows groups × FitsGroups (shape_over left join group) rows)
        → (TellsBytes new → (flat_map text_by later ≡ text_of query groups) × (count ≡ length groups))
        → sum_by read_failures reads ≡ 0 → sum_by write_failures later ≡ 0
        → AreAskedWhole left join asked_to files → Runs old query options (Ok count) new
    runs_ended count groups front means wrote none_read none_write asked_whole =
        let first_read = run.fine in
        let then_read : sum_by read_failures (reads ++ later) ≡ 0 = (failures_read (reads ++ later) (are_transfers (reads ++ later) either)).0 ∙ ap (sum_by read_failures) only_reads ∙ none_read in
        let read_sum = sum_by-append read_failures first (reads ++ later) in
        let no_first = no_write_fails first run.reading in let no_write = no_write_fails reads stage.reading in
        let write_sum = sum_by-append write_failures first (reads ++ later) in let then_sum = sum_by-append write_failures reads later in
        runs_on old new query options files actions asked_to (Ok count) run.planned asks_on on
        (λ told. grouped_ahead join group query options (length old.sizes) files (flat_map event_of actions))
        (record {
          begun = on.has_begun;
          read_well = none_fail old new query files actions asks_on.fails (omega (arith, first_read, then_read, read_sum)) on;
          write_well = stands_none (sum_by write_failures actions) old.write_faults new.write_faults (omega (arith, no_first, write_sum, then_sum, no_write, none_write)) on.write_faults;
          whole = asked_whole;
          text = λ told. record {
            rows = groups;
            counted = (wrote told).1;
            means = let (rows, asked_means, grouped, fits) = means told in record { input = rows; means = asked_means; grouped = grouped; fits = fits };
            made = on.made ∙ ap (with_sink old.made name) (text_then ∙ (wrote told).0);
          };
        })
        tt (front_by front) tt (λ told valid none. tt)

  -- a stage in which nothing was written
  module _ (to : ℕ) (reads : List Action) (new : Outside) (stage : GroupStage options before last to reads [] new) where
    front_none : IsFront to reads [] new stage
    front_none told valid = record { rows = valid.rows; means = valid.means; rest = text_of query valid.rows; front = refl }

    made_none : (fault : Fault) → LeavesNoRow old query new fault
    made_none fault = no_row_left old query new fault (inr ((on to reads [] new stage).made ∙ ap (with_sink old.made name) (text_then to reads [] new stage)))

    pub read_out : Runs old query options (Err faults.OutOfMemory) new
    read_out = runs_out to reads [] new stage front_none

    -- a read failed, or what was read has a fault
    pub read_failed : (fault : Fault) → StopsScan (reader_of options last).sources reads fault → (TellsBytes new → IsDue (IsJobFault job) fault) → Runs old query options (Err fault) new
    read_failed fault stops due =
        let caused : HasCauseInRun old query files (run.sides to) new fault =
        cause old now query options files last run.is_last new first reads (subst (λ (xs : List Action). GoesOn old query files (first ++ xs) new) (append-nil reads) (on to reads [] new stage))
        (are_transfers reads (either_reading reads stage.reading)) (run.sides to) fault stops due in
        runs_failed to reads [] new stage fault front_none caused (made_none fault)
        (λ told valid none. out_of_memory old new query files (run.sides to) fault caused none (no_fault old now query options files last run.is_last fault valid (due told)))

    -- the rows have no group-by
    group_cause : (rules : GroupRulesSeen) (fault : Fault) (rows : List Row) → (TellsBytes new → IsInput left join group name rules (run.sides to) files rows) → GroupCause (rules_shape rules) rows fault
        → HasCauseInRun old query files (run.sides to) new fault
    group_cause rules (faults.ComputeError kinds.SumTooLarge file at) rows is has = record {
      kind = (has.0, has.1);
      begun = (on to reads [] new stage).has_begun;
      cause = λ told. inr ((is told).whole, (is told).asked_means, (is told).says.cause (faults.ComputeError kinds.SumTooLarge file at) has);
    }
    group_cause rules (faults.ComputeError kinds.LenTooLarge file at) rows is has = record {
      kind = (has.0, has.1);
      begun = (on to reads [] new stage).has_begun;
      cause = λ told. inr ((is told).whole, (is told).asked_means, (is told).says.cause (faults.ComputeError kinds.LenTooLarge file at) has);
    }
    group_cause rules (faults.ComputeError kinds.TooManyGroups file at) rows is has = record {
      kind = (has.0, has.1);
      begun = (on to reads [] new stage).has_begun;
      cause = λ told. inr ((is told).whole, (is told).asked_means, (is told).says.cause (faults.ComputeError kinds.TooManyGroups file at) has);
    }
    group_cause rules (faults.ComputeError kinds.NegativeSlice file at) rows is has = absurd has
    group_cause rules (faults.ComputeError kinds.NotUtf8 file at) rows is has = absurd has
    group_cause rules (faults.ComputeError kinds.IllTyped file at) rows is has = absurd has
    group_cause rules (faults.ComputeError kinds.TooManyRows file at) rows is has = absurd has
    group_cause rules (faults.ComputeError kinds.IndexTooLarge file at) rows is has = absurd has
    group_cause rules (faults.ComputeError kinds.FooterTooLarge file at) rows is has = absurd has
    group_cause rules faults.OutOfMemory rows is has = absurd has
    group_cause rules (faults.ReadFault file) rows is has = absurd has
    group_cause rules faults.WriteFault rows is has = absurd has
    group_cause rules (faults.InvalidQuery why) rows is has = absurd has
    group_cause rules (faults.Malformed file at) rows is has = absurd has
    group_cause rules (faults.Unsupported file code) rows is has = absurd has
    group_cause rules (faults.ColumnNotFound column) rows is has = absurd has
    group_cause rules (faults.SchemaMismatch column) rows is has = absurd has
    group_cause rules (faults.Duplicate column) rows is has = absurd has
    group_cause rules faults.QueryText rows is has = absurd has
    group_cause rules faults.Usage rows is has = absurd has

    runs_groupless : (rules : GroupRulesSeen) (fault : Fault) (rows : List Row) → (TellsBytes new → IsInput left join group name rules (run.sides to) files rows) → GroupCause (rules_shape rules) rows fault
        → Runs old query options (Err fault) new
    runs_groupless rules fault rows is has =
        runs_failed to reads [] new stage fault front_none (group_cause rules fault rows is has) (made_none fault)
        (λ told valid none. let input = is told in
        absurd ((groups_fit (shape_over left join group) input.whole).0 (valid.groups_fit input.whole (input.valid_means valid)) fault (input.says.cause fault has)))

  -- its files were read to their end
  pub stage_read : (result : Result ℕ Fault) (new : Outside) (k : KeepsScan (csv_scan last.scan) (reader_of options last) before result new) → GroupStage options before last k.to k.reads [] new
  stage_read result new k = record {
    does = subst (λ (actions : List Action). Does before actions new) (sym (append-nil k.reads)) k.does;
    reading = k.each;
    writing = tt;
    asks = subst (λ (sizes : List ℕ). AskNextChunks (numbers_of last) sizes options.chunk_bytes 0 k.reads k.to)
        (ap (λ (sizes : List ℕ). sizes_in sizes (numbers_of last)) run.same.0 ∙ run.is_last.sizes) k.asks;
  }

  -- or not
  pub not_read : (fault : Fault) (new : Outside) → KeepsScan (csv_scan last.scan) (reader_of options last) before (Err fault) new → Runs old query options (Err fault) new
  not_read fault new k = read_failed k.to k.reads new (stage_read (Err fault) new k) fault (stops_kept (reader_of options last).sources k.reads fault k.each k.stops)
      (λ told. (k.told last.files (had_nothing old now query options files last run.is_last before run.same.0 run.same.1 (told_back before new k.leaves.held told))).due)

  module _ (rules : GroupRulesSeen) (is_input : ℕ → List (List ℕ) → List Row → Type 0) (gives : GivesInput left join group name rules options files last before run.sides is_input) (given : ℕ) (between : Outside)
      (k : KeepsScan (csv_scan last.scan) (reader_of options last) before (Ok given) between) where
    stage_then : GroupStage options before last k.to k.reads [] between
    stage_then = stage_read (Ok given) between k

    told_before : TellsBytes between → TellsBytes before
    told_before told = told_back before between k.leaves.held told

    had : TellsBytes between → HasGivenRows (csv_scan last.scan) last.files before (reader_of options last)
    had told = had_nothing old now query options files last run.is_last before run.same.0 run.same.1 (told_before told)

    -- rows that the bytes give that were given are those that the scan means
    means_given : TellsBytes between → (rows : List Row) → JobGives job given rows → MeansRows job k.to rows
    means_given told rows given_rows =
        subst (λ (n : ℕ). MeansRows job n rows)
        (events_asked old now query options files last run.is_last k.to k.reads (are_transfers k.reads (either_reading k.reads k.each))
        (subst (λ (actions : List Action). AskNextChunks (numbers_of last) (map length last.files) options.chunk_bytes 0 actions k.to) (sym (filter_readings k.reads k.each)) stage_then.asks))
        ((k.told last.files (had told)).means rows given_rows)

    input_given : (rows : List Row) → (HasGivenRows (csv_scan last.scan) last.files before (reader_of options last) → is_input given last.files rows) → TellsBytes between
        → IsInput left join group name rules (run.sides k.to) files rows
    input_given rows is told = gives.input (told_before told) given k.to rows (means_given told) (is (had told))

    module _ (result : Result ℕ Fault) (new : Outside) (w : WritesGroups (is_input given) (join_scan options last) rules before between result new) where
      told_then : TellsBytes new → TellsBytes between
      told_then told = told_back between new (stays between new w.writes.actions (either_writing w.writes.actions w.writes.each) w.writes.does).held told

      stage_written : GroupStage options before last k.to k.reads w.writes.actions new
      stage_written = record {
        does = does-append before between new k.reads w.writes.actions k.does w.writes.does;
        reading = k.each;
        writing = w.writes.each;
        asks = stage_then.asks;
      }

      input_then : TellsBytes new → IsInput left join group name rules (run.sides k.to) files w.rows
      input_then told = input_given w.rows (w.are last.files) (told_then told)

      wrote_so : TellsBytes new → WritesPlaceRows (GivenRows (rules_output (rules_of_group left join group)) w.groups) job w.writes.actions result
      wrote_so told = subst (λ (output : List Field). WritesPlaceRows (GivenRows output w.groups) job w.writes.actions result) gives.output (w.writes.told last.files (had (told_then told)))

      front_then : IsFront k.to k.reads w.writes.actions new stage_written
      front_then told valid = let stops = wrote_so told in let input = input_then told in record {
        rows = w.groups;
        means = record { input = input.whole; means = input.valid_means valid; grouped = input.says.grouped w.groups w.grouped };
        rest = stops.rest;
        front = stops.front;
      }

    -- not all rows of the group-by were written
    unwritten : (fault : Fault) (new : Outside) (w : WritesGroups (is_input given) (join_scan options last) rules before between (Err fault) new) → IsLastFault fault
        → StopsWritesFor IsPieceKind w.writes.actions fault → Runs old query options (Err fault) new
    unwritten faults.OutOfMemory new w end stops = runs_out k.to k.reads w.writes.actions new (stage_written (Err faults.OutOfMemory) new w) (front_then (Err faults.OutOfMemory) new w)
    unwritten faults.WriteFault new w end (inl more) = runs_unwritten k.to k.reads w.writes.actions new (stage_written (Err faults.WriteFault) new w) (front_then (Err faults.WriteFault) new w) more
    unwritten faults.WriteFault new w end (inr broke) = absurd broke
    unwritten (faults.ReadFault file) new w end stops = absurd end
    unwritten (faults.InvalidQuery why) new w end stops = absurd end
    unwritten (faults.Malformed file at) new w end stops = absurd end
    unwritten (faults.Unsupported file code) new w end stops = absurd end
    unwritten (faults.ColumnNotFound column) new w end stops = absurd end
    unwritten (faults.SchemaMismatch column) new w end stops = absurd end
    unwritten (faults.Duplicate column) new w end stops = absurd end
    unwritten (faults.ComputeError kind file at) new w end stops = absurd end
    unwritten faults.QueryText new w end stops = absurd end
    unwritten faults.Usage new w end stops = absurd end

    -- all of its bytes were asked, or its slice ends before
    all_then : (k.to ≡ sum_by (λ n. n) (sizes_in before.sizes (numbers_of last))) ⊎ ((reader_of options last).sources.stop ≤ 4294967295)
        → (k.to ≡ sum_by (λ n. n) (sizes_in now.sizes (numbers_of last))) ⊎ ((reader_of options last).sources.stop ≤ 4294967295)
    all_then (inl all) = inl (all ∙ ap (λ (sizes : List ℕ). sum_by (λ n. n) (sizes_in sizes (numbers_of last))) run.same.0)
    all_then (inr past) = inr past

    writes_groups : (result : Result ℕ Fault) (new : Outside) → WritesGroups (is_input given) (join_scan options last) rules before between result new → Runs old query options result new
    writes_groups (Ok count) new w =
        runs_ended k.to k.reads w.writes.actions new (stage_written (Ok count) new w) count w.groups (front_then (Ok count) new w)
        (λ told. let input = input_then (Ok count) new w told in (input.whole, input.asked_means, input.says.grouped w.groups w.grouped, input.says.fits w.fits))
        (λ told. (wrote_so (Ok count) new w told).answers) k.fine w.writes.fine
        (gives.whole k.to (λ none. whole old now query options files last run.is_last k.to none (all_then k.all_asked)))
    writes_groups (Err fault) new w = unwritten fault new w w.last w.writes.stops

    -- the last part of the run
    ends_groups : (result : Result ℕ Fault) (new : Outside) → EndsGroups (is_input given) (join_scan options last) rules before between result new → Runs old query options result new
    ends_groups result new (inl (is, same)) = answer_as old query options result (Err faults.OutOfMemory) new between is same (read_out k.to k.reads between stage_then)
    ends_groups result new (inr (inl (fault, is, same, none))) =
        answer_as old query options result (Err fault) new between is same (runs_groupless k.to k.reads between stage_then rules fault none.rows (input_given none.rows (none.are last.files)) none.cause)
    ends_groups result new (inr (inr w)) = writes_groups result new w

  -- nothing of the last scan was read
  stage_first : GroupStage options before last 0 [] [] before
  stage_first = record { does = does-nothing before; reading = tt; writing = tt; asks = refl }

  -- the run from there
  pub runs_rows : (rules : GroupRulesSeen) (is_input : ℕ → List (List ℕ) → List Row → Type 0) → GivesInput left join group name rules options files last before run.sides is_input → (result : Result ℕ Fault) (new : Outside)
      → GroupsRows is_input (join_scan options last) rules before result new → Runs old query options result new
  runs_rows rules is_input gives result new groups = by groups.course
    where
      by : IsLeftSo before result new
          ⊎ (((fault : Fault) × KeepsScan (csv_scan last.scan) (reader_of options last) before (Err fault) new × (result ≡ Err fault))
          ⊎ ((given : ℕ) × (between : Outside) × KeepsScan (csv_scan last.scan) (reader_of options last) before (Ok given) between
          × EndsGroups (is_input given) (join_scan options last) rules before between result new))
          → Runs old query options result new
      by (inl (is, same)) = answer_as old query options result (Err faults.OutOfMemory) new before is same (read_out 0 [] before stage_first)
      by (inr (inl (fault, k, is))) = answer_as old query options result (Err fault) new new is refl (not_read fault new k)
      by (inr (inr (given, between, k, ends))) = ends_groups rules is_input gives given between k result new ends
