-- Runs of queries with a join, from their open files to what they answer and leave.
use Rattle.std.proofs.Common.{◌≡◌, ◌⊎◌, ℕ, ◌+◌, ◌≤◌, ap, sym, subst, refl, ◌∙◌, inl, inr, arith, append-nil, append_assoc}
use Rattle.std.proofs.lemmas.List.Concat.{flat_map-append}
use Rattle.std.proofs.lemmas.List.Sums.{sum_by-append, sum_by-cons}
use Rattle.std.specs.Prelude.{Bool, true, false, Option, None, Result, Ok, Err, List, [], ◌∷◌, ◌++◌, map, length}
use Rattle.std.specs.List.{flat_map, filter, fold, sum_by}
use Rattle.morsel_meaning.specs.declared.fault.Fault.{Fault}
use Rattle.morsel_meaning.specs.declared.fault.Fault.TheVariants as faults
use Rattle.morsel_meaning.specs.Values.{Row}
use Rattle.morsel_outside.specs.declared.events.IoEvent.{IoEvent}
use Rattle.morsel_outside.specs.Outside.{Outside, with_sink}
use Rattle.morsel_outside.specs.Actions.{Action, ReadingRange, FailedReadingRange, event_of, text_by, read_failures, write_failures, failed_after}
use Rattle.morsel_outside.proofs.TransferLemmas.{AreTransfers}
use Rattle.morsel_read.specs.ScanReads.{FilesAsked, sizes_in}
use Rattle.morsel_drive.specs.Lines.{Each, IsReading, IsDue}
use Rattle.morsel_drive.specs.Driving.{is_reading, IsWriteStop}
use Rattle.morsel_drive.proofs.TransferLemmas.{IsEither, each-append, are_transfers, either_reading, either_writing, stays, filter_readings, readings_write_nothing}
use Rattle.morsel_drain.specs.Pouring.{StopsWritesFor}
use Rattle.morsel_join.specs.declared.rules.JoinRules.{JoinRules}
use Rattle.morsel_join.specs.Rows.{keeps_left}
use Rattle.morsel_join.specs.Sides.{KeptSide, wants_kept}
use Rattle.morsel_line.specs.ScanJobs.{IsJobFault, IsPieceKind}
use Rattle.morsel_line.specs.ScanSources.{AskNextChunks, EndsInFailure}
use Rattle.morsel_line.specs.ScanRuns.{StopsScan}
use Rattle.morsel_join_plan.specs.PhaseRuns.{KeepsScan, StopsKeeping, WritesAlone, WritesFound}
use Rattle.morsel_join_plan.specs.JoinRuns.{HasKept, and_more, IsLeftSo, EndsJoin, WritesJoin, JoinsScans}
use Rattle.morsel_query.specs.RunOptions.{RunOptions}
use Rattle.morsel_query.specs.Queries.{FileScan, JoinPart, QueryParts}
use Rattle.morsel_query.specs.Plans.{query_fault}
use Rattle.morsel_query.specs.Meanings.{csv_scan, rows_over, MeansBy, Meaning, text_of, IsValid}
use Rattle.morsel_engine.specs.Courses.{AsksUpTo, AsksSides, SidesAsked, IsShort}
use Rattle.morsel_engine.specs.Stages.{bytes_bound}
use Rattle.morsel_engine.specs.Runs.{TellsBytes, ScansAsked, MeansAskedBy, MeansAsked, IsAskedWhole, AreAskedWhole, HasCauseInRun, IsFrontOfMeaning, IsFrontOfText, LeavesNoRowBy, ReadsAheadBy, Runs}
use Rattle.morsel_engine.proofs.AskLemmas.{ask_next, are_short, asks_up_to, failures_read, fails_on}
use Rattle.morsel_engine.proofs.ScanLemmas.{Begun, GoesOn, goes_on, AsksOn, none_fail, stands_none, runs_on}
use Rattle.morsel_engine.proofs.OpenScanLemmas.{OpenScan, numbers_of, reader_of, open_job, open_rows, IsOfQuery, had_nothing, means_asked, valid_rows, no_fault, whole, cause, out_of_memory, told_back}
use Rattle.morsel_engine.proofs.JoinSideLemmas.{fails_within, fails-append}
use Rattle.morsel_engine.proofs.JoinLemmas.{side_kept, joined_rows, join_text, join_scan, Stage, Ended, stage_none, stage_kept, stage_found, had_asked, ended_found, reads_both, stage_alone, ended_alone}

-- how many bytes of each side were asked, of the one that is kept and of the other
abbrev pub sides_asked : Bool → ℕ → ℕ → SidesAsked
sides_asked true kept asked = record { left = kept; right = asked }
sides_asked false kept asked = record { left = asked; right = kept }

-- the two scans are the sides of a join
pub record AreSides (is_left : Bool) (rules : JoinRules) (old : Outside) (left : FileScan) (join : Option JoinPart) (files : List (List ℕ)) (kept asked : OpenScan) : Type 0 where
  pub once : (to other : ℕ) (first later : List IoEvent) → AsksUpTo kept.number (map length kept.files) to first → AsksUpTo asked.number (map length asked.files) other later
      → AsksSides left join (length old.sizes) (map length files) (sides_asked is_left to other) (first ++ later)
  pub means : (to other : ℕ) (rows others : List Row) → ScansAsked kept.scan kept.first to kept.files rows → ScansAsked asked.scan asked.first other asked.files others
      → MeansAskedBy left join (sides_asked is_left to other) files (joined_rows (side_kept is_left rules rows) others)
  pub whole : (to other : ℕ) → IsAskedWhole kept.scan to kept.files → IsAskedWhole asked.scan other asked.files → AreAskedWhole left join (sides_asked is_left to other) files
  pub meaning : (rows others : List Row) → rows_over kept.scan kept.first kept.files ≡ Ok rows → rows_over asked.scan asked.first asked.files ≡ Ok others
      → MeansBy left join files (joined_rows (side_kept is_left rules rows) others)

-- the rows of the join are those of the query, which has no group-by
pub record IsUngrouped (rules : JoinRules) (options : RunOptions) (old : Outside) (query : QueryParts) (files : List (List ℕ)) : Type 0 where
  pub ahead : (events : List IoEvent) → ReadsAheadBy query.join query.group query options (length old.sizes) files events
  pub asked : (to : SidesAsked) (rows : List Row) → MeansAskedBy query.left query.join to files rows → MeansAsked query to files rows
  pub meaning : (rows : List Row) → MeansBy query.left query.join files rows → Meaning query files rows
  pub text : (rows : List Row) → join_text rules rows ≡ text_of query rows
  pub front : (text : List ℕ) → (IsValid query files → IsFrontOfMeaning query files text) → IsFrontOfText query files text
  pub head : (result : Result ℕ Fault) (new : Outside) → LeavesNoRowBy query.group old query result new

-- reads write nothing, and so no write among them failed
pub no_write_fails : (actions : List Action) → Each IsReading actions → sum_by write_failures actions ≡ 0
no_write_fails [] each = refl
no_write_fails (ReadingRange file at len ∷ actions) (here, later) = let sum = sum_by-cons write_failures (ReadingRange file at len) actions in let rest = no_write_fails actions later in omega (arith, sum, rest)
no_write_fails (FailedReadingRange file at len ∷ actions) (here, later) =
    let sum = sum_by-cons write_failures (FailedReadingRange file at len) actions in let rest = no_write_fails actions later in omega (arith, sum, rest)
no_write_fails (action ∷ actions) (here, later) = absurd here

-- why a side is not kept, as of a scan
pub stops_kept : (sources : FilesAsked) (reads : List Action) (fault : Fault) → Each IsReading reads → StopsKeeping sources reads fault → StopsScan sources reads fault
stops_kept sources reads fault each (inl is) = inl (subst (IsWriteStop reads) (sym is) tt)
stops_kept sources reads fault each (inr (inl (read, ends))) =
    inr (inl (read, λ number same. subst (λ (actions : List Action). EndsInFailure sources number actions) (sym (filter_readings reads each)) (ends number same)))
stops_kept sources reads fault each (inr (inr broke)) = inr (inr broke)

-- and why the kept rows that none finds are not written
stops_alone : (sources : FilesAsked) (writes : List Action) (fault : Fault) → StopsWritesFor IsPieceKind writes fault → StopsScan sources writes fault
stops_alone sources writes fault (inl write) = inl write
stops_alone sources writes fault (inr broke) = inr (inr broke)

-- the answer and the outside, as they are told
pub answer_as : (old : Outside) (query : QueryParts) (options : RunOptions) (result found : Result ℕ Fault) (new then_ : Outside) → result ≡ found → new ≡ then_ → Runs old query options found then_
    → Runs old query options result new
answer_as old query options result found new then_ is same runs =
    subst (λ (r : Result ℕ Fault). Runs old query options r new) (sym is) (subst (Runs old query options found) (sym same) runs)

-- what reads of both sides ask, of the one that is kept and then of the other, whatever is written among them
module _ (is_left : Bool) (rules : JoinRules) (old now : Outside) (query : QueryParts) (options : RunOptions) (files : List (List ℕ)) (kept asked : OpenScan)
    (kept_is : IsOfQuery old now query files kept) (asked_is : IsOfQuery old now query files asked) (sides : AreSides is_left rules old query.left query.join files kept asked) where
  pub asks_both : (to other : ℕ) (first later : List Action) → Each IsEither first → Each IsEither later → AskNextChunks (numbers_of kept) (map length kept.files) options.chunk_bytes 0 (filter is_reading first) to
      → AskNextChunks (numbers_of asked) (map length asked.files) options.chunk_bytes 0 (filter is_reading later) other → AsksOn old query options files (first ++ later) (sides_asked is_left to other)
  asks_both to other first later first_each later_each first_asks later_asks =
      let first_are = are_transfers first first_each in let later_are = are_transfers later later_each in
      let one = ask_next (numbers_of kept) (map length kept.files) options.chunk_bytes 0 to first first_are first_asks in
      let two = ask_next (numbers_of asked) (map length asked.files) options.chunk_bytes 0 other later later_are later_asks in
      let split = flat_map-append event_of first later in record {
        once = subst (λ (events : List IoEvent). AsksSides query.left query.join (length old.sizes) (map length files) (sides_asked is_left to other) events) (sym split)
            (sides.once to other (flat_map event_of first) (flat_map event_of later)
            (asks_up_to kept.number (length kept.files) (map length kept.files) options.chunk_bytes to (flat_map event_of first) one)
            (asks_up_to asked.number (length asked.files) (map length asked.files) options.chunk_bytes other (flat_map event_of later) two));
        short = subst (Each (IsShort options.chunk_bytes)) (sym split) (each-append (IsShort options.chunk_bytes) (flat_map event_of first) (flat_map event_of later)
            (are_short (numbers_of kept) (map length kept.files) options.chunk_bytes 0 to (flat_map event_of first) one)
            (are_short (numbers_of asked) (map length asked.files) options.chunk_bytes 0 other (flat_map event_of later) two));
        fails = fails-append (length old.sizes) (length files) old.failed first later
            (fails_within kept.number (length kept.files) old.failed (length old.sizes) kept.first (length files) first kept_is.number kept_is.within
            (fails_on kept.number (length kept.files) (map length kept.files) options.chunk_bytes 0 to old.failed first first_are first_asks))
            (fails_within asked.number (length asked.files) (fold failed_after old.failed first) (length old.sizes) asked.first (length files) later asked_is.number asked_is.within
            (fails_on asked.number (length asked.files) (map length asked.files) options.chunk_bytes 0 other (fold failed_after old.failed first) later later_are later_asks));
      }

module _ (is_left : Bool) (rules : JoinRules) (ordered : is_left ≡ keeps_left rules.how rules.maintain_order) (old now : Outside) (query : QueryParts) (options : RunOptions) (files : List (List ℕ))
    (kept asked : OpenScan) (kept_is : IsOfQuery old now query files kept) (asked_is : IsOfQuery old now query files asked)
    (sides : AreSides is_left rules old query.left query.join files kept asked) (plain : IsUngrouped rules options old query files) (begun : Begun old query files now) (planned : query_fault query ≡ None) where
  abbrev kept_rows : List Row
  kept_rows = open_rows options kept

  abbrev asked_rows : List Row
  asked_rows = open_rows options asked

  module _ (to other : ℕ) (reads later : List Action) (new : Outside) (stage : Stage is_left rules options now kept asked to other reads later new) where
    abbrev actions : List Action
    actions = reads ++ later

    later_each : AreTransfers later
    later_each = are_transfers later stage.either

    each : AreTransfers actions
    each = are_transfers actions (each-append IsEither reads later (either_reading reads stage.reading) stage.either)

    on : GoesOn old query files actions new
    on = goes_on old now new query files actions begun each stage.does

    reads_asks : AskNextChunks (numbers_of kept) (map length kept.files) options.chunk_bytes 0 (filter is_reading reads) to
    reads_asks = subst (λ (all : List Action). AskNextChunks (numbers_of kept) (map length kept.files) options.chunk_bytes 0 all to)
        (sym (filter_readings reads stage.reading)) stage.kept_asks

    asks_on : AsksOn old query options files actions (sides_asked is_left to other)
    asks_on = asks_both is_left rules old now query options files kept asked kept_is asked_is sides to other reads later (either_reading reads stage.reading) stage.either reads_asks stage.asked_asks

    text_then : flat_map text_by actions ≡ flat_map text_by later
    text_then = flat_map-append text_by reads later ∙ ap (λ (text : List ℕ). text ++ flat_map text_by later) (readings_write_nothing reads stage.reading)

    front_valid : TellsBytes new → IsValid query files → IsFrontOfMeaning query files (flat_map text_by actions)
    front_valid told valid =
        let some = kept_is.means valid in let others = asked_is.means valid in let stops = stage.front told in record {
          rows = joined_rows (side_kept is_left rules kept_rows) asked_rows;
          means = plain.meaning (joined_rows (side_kept is_left rules kept_rows) asked_rows) (sides.meaning kept_rows asked_rows
              (some.1 ∙ ap (λ (rows : List Row). Ok rows) (sym (valid_rows old now query options files kept kept_is valid some.0 some.1)))
              (others.1 ∙ ap (λ (rows : List Row). Ok rows) (sym (valid_rows old now query options files asked asked_is valid others.0 others.1))));
          rest = stops.0;
          front = ap (λ (text : List ℕ). text ++ stops.0) text_then ∙ stops.1 ∙ plain.text (joined_rows (side_kept is_left rules kept_rows) asked_rows);
        }

    front : TellsBytes new → IsFrontOfText query files (flat_map text_by actions)
    front told = plain.front (flat_map text_by actions) (front_valid told)

    -- memory is out
    pub runs_out : Runs old query options (Err faults.OutOfMemory) new
    runs_out = runs_on old new query options files actions (sides_asked is_left to other) (Err faults.OutOfMemory) planned asks_on on (λ told. plain.ahead (flat_map event_of actions)) tt tt front (plain.head (Err faults.OutOfMemory) new) (λ told valid none. refl)

    -- a fault of a part of the run, which reads one of the sides
    pub runs_failed : (which : OpenScan) (which_is : IsOfQuery old now query files which) (before part : List Action) (fault : Fault) → actions ≡ before ++ part → AreTransfers part
        → StopsScan (reader_of options which).sources part fault → (TellsBytes new → IsDue (IsJobFault (open_job options which)) fault) → Runs old query options (Err fault) new
    runs_failed which which_is before part fault split part_each stops due =
        let caused : HasCauseInRun old query files (sides_asked is_left to other) new fault =
        cause old now query options files which which_is new before part (subst (λ (all : List Action). GoesOn old query files all new) split on) part_each (sides_asked is_left to other) fault stops due in
        runs_on old new query options files actions (sides_asked is_left to other) (Err fault) planned asks_on on (λ told. plain.ahead (flat_map event_of actions)) tt caused front (plain.head (Err fault) new)
        (λ told valid none. out_of_memory old new query files (sides_asked is_left to other) fault caused none (no_fault old now query options files which which_is fault valid (due told)))

    -- rows are answered
    pub runs_ended : (n : ℕ) → (TellsBytes new → Ended is_left rules options kept asked to other (flat_map text_by later) n)
        → sum_by read_failures reads ≡ 0 → sum_by read_failures (filter is_reading later) ≡ 0 → sum_by write_failures later ≡ 0
        → (to ≡ sum_by (λ n. n) (sizes_in now.sizes (numbers_of kept))) ⊎ ((reader_of options kept).sources.stop ≤ 4294967295)
        → (other ≡ sum_by (λ n. n) (sizes_in now.sizes (numbers_of asked))) ⊎ ((reader_of options asked).sources.stop ≤ 4294967295)
        → Runs old query options (Ok n) new
    runs_ended n ended none_read none_then none_write kept_all asked_all =
        let fails_then = (failures_read later later_each).0 in
        let read_sum = sum_by-append read_failures reads later in
        let write_sum = sum_by-append write_failures reads later in
        let no_write = no_write_fails reads stage.reading in
        runs_on old new query options files actions (sides_asked is_left to other) (Ok n) planned asks_on on (λ told. plain.ahead (flat_map event_of actions))
        (record {
          begun = on.has_begun;
          read_well = none_fail old new query files actions asks_on.fails (omega (arith, fails_then, read_sum, none_read, none_then)) on;
          write_well = stands_none (sum_by write_failures actions) old.write_faults new.write_faults (omega (arith, write_sum, no_write, none_write)) on.write_faults;
          whole = sides.whole to other (λ none. whole old now query options files kept kept_is to none kept_all) (λ none. whole old now query options files asked asked_is other none asked_all);
          text = λ told. let all = ended told in record {
            rows = joined_rows (side_kept is_left rules kept_rows) asked_rows;
            counted = all.counted;
            means = plain.asked (sides_asked is_left to other) (joined_rows (side_kept is_left rules kept_rows) asked_rows)
                (sides.means to other kept_rows asked_rows (means_asked old now query options files kept kept_is to kept_rows all.kept_means)
                (means_asked old now query options files asked asked_is other asked_rows all.asked_means));
            made = on.made ∙ ap (with_sink old.made query.sink.name) (text_then ∙ all.text_is ∙ plain.text (joined_rows (side_kept is_left rules kept_rows) asked_rows));
          };
        })
        tt front (plain.head (Ok n) new) (λ told valid none. tt)

  module _ (side : KeptSide) (between : Outside) (has : HasKept (join_scan options kept) rules side now between) where
    abbrev k : KeepsScan (csv_scan kept.scan) (reader_of options kept) now (Ok has.given) between
    k = has.keeps

    all_then : (to : ℕ) → (to ≡ sum_by (λ n. n) (sizes_in between.sizes (numbers_of asked))) ⊎ ((reader_of options asked).sources.stop ≤ 4294967295)
        → (to ≡ sum_by (λ n. n) (sizes_in now.sizes (numbers_of asked))) ⊎ ((reader_of options asked).sources.stop ≤ 4294967295)
    all_then to (inl all) = inl (all ∙ ap (λ (sizes : List ℕ). sum_by (λ n. n) (sizes_in sizes (numbers_of asked))) k.leaves.sizes)
    all_then to (inr past) = inr past

    -- the other side was looked up, or not all of it
    failed_found : (fault : Fault) (new : Outside) → WritesFound (csv_scan asked.scan) (reader_of options asked) side (bytes_bound options) between (Err fault) new → Runs old query options (Err fault) new
    failed_found fault new w =
        let stage = stage_found is_left rules ordered old now query options files kept asked kept_is asked_is side between has (Err fault) new w in
        runs_failed k.to w.to k.reads w.actions new stage asked asked_is k.reads w.actions fault refl (are_transfers w.actions w.each) w.stops
        (λ told. (w.told asked.files (had_asked is_left rules ordered old now query options files kept asked kept_is asked_is side between has (Err fault) new w
        (told_back between new (stays between new w.actions w.each w.does).held told))).due)

    -- all of it was
    module _ (count : ℕ) (then_ : Outside) (w : WritesFound (csv_scan asked.scan) (reader_of options asked) side (bytes_bound options) between (Ok count) then_) where
      out_then : Runs old query options (Err faults.OutOfMemory) then_
      out_then = runs_out k.to w.to k.reads w.actions then_ (stage_found is_left rules ordered old now query options files kept asked kept_is asked_is side between has (Ok count) then_ w)

      ends_found : wants_kept side ≡ false → Runs old query options (Ok count) then_
      ends_found none = runs_ended k.to w.to k.reads w.actions then_ (stage_found is_left rules ordered old now query options files kept asked kept_is asked_is side between has (Ok count) then_ w) count
          (ended_found is_left rules ordered old now query options files kept asked kept_is asked_is side between has count then_ w none)
          k.fine w.fine.0 w.fine.1 k.all_asked (all_then w.to w.all_asked)

      ends_alone : (found : Result ℕ Fault) (new : Outside) → WritesAlone (csv_scan asked.scan) (reader_of options asked) between side then_ found new → Runs old query options (and_more count found) new
      ends_alone (Err fault) new a =
          let stage = stage_alone is_left rules ordered old now query options files kept asked kept_is asked_is side between has count then_ w (Err fault) new a in
          runs_failed k.to w.to k.reads (w.actions ++ a.actions) new stage asked asked_is (k.reads ++ w.actions) a.actions fault (sym (append_assoc k.reads w.actions a.actions))
          (are_transfers a.actions (either_writing a.actions a.each)) (stops_alone (reader_of options asked).sources a.actions fault a.stops)
          (λ told. (a.told asked.files (had_asked is_left rules ordered old now query options files kept asked kept_is asked_is side between has (Ok count) then_ w
          (told_back between then_ (stays between then_ w.actions w.each w.does).held
          (told_back then_ new (stays then_ new a.actions (either_writing a.actions a.each) a.does).held told)))).due)
      ends_alone (Ok more) new a =
          let stage = stage_alone is_left rules ordered old now query options files kept asked kept_is asked_is side between has count then_ w (Ok more) new a in
          let no_read : sum_by read_failures (filter is_reading (w.actions ++ a.actions)) ≡ 0 =
          ap (sum_by read_failures) (reads_both is_left rules ordered old now query options files kept asked kept_is asked_is side between has count then_ w (Ok more) new a) ∙ w.fine.0 in
          let no_write : sum_by write_failures (w.actions ++ a.actions) ≡ 0 = let sum = sum_by-append write_failures w.actions a.actions in let one = w.fine.1 in let two = a.fine in omega (arith, sum, one, two) in
          runs_ended k.to w.to k.reads (w.actions ++ a.actions) new stage (count + more)
          (ended_alone is_left rules ordered old now query options files kept asked kept_is asked_is side between has count more then_ new w a)
          k.fine no_read no_write k.all_asked (all_then w.to w.all_asked)

      ends_join : (result : Result ℕ Fault) (new : Outside) → EndsJoin (join_scan options asked) side between count then_ result new → Runs old query options result new
      ends_join result new ends = by (wants_kept side) refl
        where
          alone : IsLeftSo then_ result new ⊎ ((found : Result ℕ Fault) × WritesAlone (csv_scan asked.scan) (reader_of options asked) between side then_ found new × (result ≡ and_more count found))
              → Runs old query options result new
          alone (inl (is, same)) = answer_as old query options result (Err faults.OutOfMemory) new then_ is same out_then
          alone (inr (found, writes, is)) = answer_as old query options result (and_more count found) new new is refl (ends_alone found new writes)

          by : (wanted : Bool) → wants_kept side ≡ wanted → Runs old query options result new
          by false none = let all = ends.none none in answer_as old query options result (Ok count) new then_ all.0 all.1 (ends_found none)
          by true some = alone (ends.alone some)

    writes_join : (result : Result ℕ Fault) (new : Outside) → WritesJoin (join_scan options asked) side (bytes_bound options) between result new → Runs old query options result new
    writes_join result new w = by w.found w.writes w.stops w.ends
      where
        by : (found : Result ℕ Fault) → WritesFound (csv_scan asked.scan) (reader_of options asked) side (bytes_bound options) between found w.between
            → ((fault : Fault) → found ≡ Err fault → (result ≡ Err fault) × (new ≡ w.between))
            → ((count : ℕ) → found ≡ Ok count → IsLeftSo w.between result new ⊎ EndsJoin (join_scan options asked) side between count w.between result new)
            → Runs old query options result new
        by (Err fault) writes stops ends = let as_ = stops fault refl in answer_as old query options result (Err fault) new w.between as_.0 as_.1 (failed_found fault w.between writes)
        by (Ok count) writes stops ends = or (ends count refl)
          where
            or : IsLeftSo w.between result new ⊎ EndsJoin (join_scan options asked) side between count w.between result new → Runs old query options result new
            or (inl (is, same)) = answer_as old query options result (Err faults.OutOfMemory) new w.between is same (out_then count w.between writes)
            or (inr last) = ends_join count w.between writes result new last

  -- the whole run
  pub runs_course : (result : Result ℕ Fault) (new : Outside) → JoinsScans (join_scan options kept) (join_scan options asked) rules (bytes_bound options) now result new → Runs old query options result new
  runs_course result new joins = by joins.course
    where
      by : IsLeftSo now result new
          ⊎ (((fault : Fault) × KeepsScan (csv_scan kept.scan) (reader_of options kept) now (Err fault) new × (result ≡ Err fault))
          ⊎ (((given : ℕ) × (between : Outside) × KeepsScan (csv_scan kept.scan) (reader_of options kept) now (Ok given) between × IsLeftSo between result new)
          ⊎ ((side : KeptSide) × (between : Outside) × HasKept (join_scan options kept) rules side now between × WritesJoin (join_scan options asked) side (bytes_bound options) between result new)))
          → Runs old query options result new
      by (inl (is, same)) = answer_as old query options result (Err faults.OutOfMemory) new now is same
          (runs_out 0 0 [] [] now (stage_none is_left rules ordered old now query options files kept asked kept_is asked_is))
      by (inr (inl (fault, keeps, is))) = answer_as old query options result (Err fault) new new is refl
          (runs_failed keeps.to 0 keeps.reads [] new (stage_kept is_left rules ordered old now query options files kept asked kept_is asked_is (Err fault) new keeps) kept kept_is [] keeps.reads fault (append-nil keeps.reads)
          (are_transfers keeps.reads (either_reading keeps.reads keeps.each)) (stops_kept (reader_of options kept).sources keeps.reads fault keeps.each keeps.stops)
          (λ told. (keeps.told kept.files (had_nothing old now query options files kept kept_is now refl refl (told_back now new keeps.leaves.held told))).due))
      by (inr (inr (inl (given, between, keeps, so)))) = answer_as old query options result (Err faults.OutOfMemory) new between so.0 so.1
          (runs_out keeps.to 0 keeps.reads [] between (stage_kept is_left rules ordered old now query options files kept asked kept_is asked_is (Ok given) between keeps))
      by (inr (inr (inr (side, between, has, writes)))) = writes_join side between has result new writes
