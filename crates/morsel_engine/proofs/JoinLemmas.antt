-- Runs of queries with a join: what was read of the side that is kept, and what was read and written then.
use Rattle.std.proofs.Common.{◌≡◌, ℕ, ◌+◌, ap, sym, subst, refl, ◌∙◌, arith, append-nil, append_assoc, length-append}
use Rattle.std.proofs.lemmas.List.Concat.{flat_map-append}
use Rattle.std.proofs.lemmas.List.Elements.{filter-append}
use Rattle.std.specs.Prelude.{Bool, false, not, if◌then◌else◌, Result, Ok, Err, List, [], ◌∷◌, ◌++◌, map, length}
use Rattle.std.specs.List.{flat_map, filter}
use Rattle.morsel_meaning.specs.declared.fault.Fault.{Fault}
use Rattle.morsel_meaning.specs.Values.{Row, names_of}
use Rattle.morsel_ndjson.specs.Ndjson.{json_line, ndjson}
use Rattle.morsel_outside.specs.Outside.{Outside}
use Rattle.morsel_outside.specs.Actions.{Action, Does, text_by}
use Rattle.morsel_outside.proofs.ActionLemmas.{does-append}
use Rattle.morsel_outside.proofs.DoesLemmas.{does-nothing}
use Rattle.morsel_scan.specs.StretchRows.{before_fault}
use Rattle.morsel_scan.proofs.StretchLemmas.{Places}
use Rattle.morsel_read.specs.ScanReads.{sizes_in, HasGivenRows}
use Rattle.morsel_drive.specs.Lines.{Each, IsReading}
use Rattle.morsel_drive.specs.Driving.{is_reading}
use Rattle.morsel_drive.proofs.TransferLemmas.{IsEither, each-append, are_transfers, either_reading, either_writing, stays, filter_readings, filter_writings}
use Rattle.morsel_join.specs.declared.rules.JoinRules.{JoinRules}
use Rattle.morsel_join.specs.Rows.{keeps_left}
use Rattle.morsel_join.specs.Sides.{KeptSide, wants_kept, joined_row, is_asked_for, rows_found, rows_alone}
use Rattle.morsel_join.proofs.SideLemmas.{found-append}
use Rattle.morsel_line.specs.RowStages.{given_found}
use Rattle.morsel_line.specs.ScanJobs.{scan_axis}
use Rattle.morsel_line.specs.ScanSources.{AskNextChunks}
use Rattle.morsel_line.specs.ScanRuns.{MeansRows}
use Rattle.morsel_join_plan.specs.PhaseRuns.{AnswersAlone, AnswersFound, KeepsScan, WritesAlone, WritesFound}
use Rattle.morsel_join_plan.specs.JoinRuns.{JoinScan, HasKept}
use Rattle.morsel_query.specs.RunOptions.{RunOptions}
use Rattle.morsel_query.specs.Queries.{QueryParts}
use Rattle.morsel_query.specs.Meanings.{csv_scan}
use Rattle.morsel_engine.specs.Stages.{bytes_bound}
use Rattle.morsel_engine.specs.Runs.{TellsBytes}
use Rattle.morsel_engine.proofs.OpenScanLemmas.{OpenScan, numbers_of, reader_of, open_job, open_rows, IsOfQuery, told_back, had_nothing, events_asked, all_rows}

-- the rows of a join by these rules, whose kept side has these rows
abbrev pub side_kept : Bool → JoinRules → List Row → KeptSide
side_kept is_left rules rows = record { rules = rules; is_left = is_left; rows = rows }

-- all that rows find, and then the kept rows that none finds
abbrev pub joined_rows : KeptSide → List Row → List Row
joined_rows side asked = rows_found side asked ++ rows_alone side asked

-- their text
abbrev pub join_text : JoinRules → List Row → List ℕ
join_text rules rows = ndjson (names_of rules.output) rows

pub join_text-append : (rules : JoinRules) (first later : List Row) → join_text rules (first ++ later) ≡ join_text rules first ++ join_text rules later
join_text-append rules first later = flat_map-append (json_line (names_of rules.output)) first later

-- a scan's open files, as a join has them
abbrev pub join_scan : RunOptions → OpenScan → JoinScan
join_scan options open_scan = record { scan = csv_scan open_scan.scan; reader = reader_of options open_scan }

-- what rows before a fault find is before that fault
before_found : (side : KeptSide) (gives : Places) → before_fault (map (given_found side) gives) ≡ rows_found side (before_fault gives)
before_found side [] = refl
before_found side (Err fault ∷ gives) = refl
before_found side (Ok rows ∷ gives) = ap (λ (rs : List Row). rows_found side rows ++ rs) (before_found side gives) ∙ sym (found-append side rows (before_fault gives))

-- a run so far: some of the kept side's files was read, and then some of the other side's, and the beginning of the text of the join was written
pub record Stage (is_left : Bool) (rules : JoinRules) (options : RunOptions) (now : Outside) (kept asked : OpenScan) (kept_to asked_to : ℕ) (reads later : List Action) (new : Outside) : Type 0 where
  pub does : Does now (reads ++ later) new
  pub reading : Each IsReading reads
  pub either : Each IsEither later
  pub kept_asks : AskNextChunks (numbers_of kept) (map length kept.files) options.chunk_bytes 0 reads kept_to
  pub asked_asks : AskNextChunks (numbers_of asked) (map length asked.files) options.chunk_bytes 0 (filter is_reading later) asked_to
  pub front : TellsBytes new → (rest : List ℕ) × (flat_map text_by later ++ rest ≡ join_text rules (joined_rows (side_kept is_left rules (open_rows options kept)) (open_rows options asked)))

-- all that was read and written, where the files of both sides are what is meant as far as they were asked
pub record Ended (is_left : Bool) (rules : JoinRules) (options : RunOptions) (kept asked : OpenScan) (kept_to asked_to : ℕ) (text : List ℕ) (count : ℕ) : Type 0 where
  pub kept_means : MeansRows (open_job options kept) kept_to (open_rows options kept)
  pub asked_means : MeansRows (open_job options asked) asked_to (open_rows options asked)
  pub text_is : text ≡ join_text rules (joined_rows (side_kept is_left rules (open_rows options kept)) (open_rows options asked))
  pub counted : count ≡ length (joined_rows (side_kept is_left rules (open_rows options kept)) (open_rows options asked))

module _ (is_left : Bool) (rules : JoinRules) (ordered : is_left ≡ keeps_left rules.how rules.maintain_order) (old now : Outside) (query : QueryParts) (options : RunOptions) (files : List (List ℕ))
    (kept asked : OpenScan) (kept_is : IsOfQuery old now query files kept) (asked_is : IsOfQuery old now query files asked) where
  abbrev kept_rows : List Row
  kept_rows = open_rows options kept

  abbrev asked_rows : List Row
  asked_rows = open_rows options asked

  abbrev meant_side : KeptSide
  meant_side = side_kept is_left rules kept_rows

  -- nothing was done
  pub stage_none : Stage is_left rules options now kept asked 0 0 [] [] now
  stage_none = record {
    does = does-nothing now;
    reading = tt;
    either = tt;
    kept_asks = refl;
    asked_asks = refl;
    front = λ told. (join_text rules (joined_rows meant_side asked_rows), refl);
  }

  -- the side that is kept was read, or some of it
  pub stage_kept : (result : Result ℕ Fault) (new : Outside) (k : KeepsScan (csv_scan kept.scan) (reader_of options kept) now result new) → Stage is_left rules options now kept asked k.to 0 k.reads [] new
  stage_kept result new k = record {
    does = subst (λ (actions : List Action). Does now actions new) (sym (append-nil k.reads)) k.does;
    reading = k.each;
    either = tt;
    kept_asks = subst (λ (sizes : List ℕ). AskNextChunks (numbers_of kept) sizes options.chunk_bytes 0 k.reads k.to) kept_is.sizes k.asks;
    asked_asks = refl;
    front = λ told. (join_text rules (joined_rows meant_side asked_rows), refl);
  }

  -- the rows of the kept side that are at hand are those that its scan means
  module _ (side : KeptSide) (between : Outside) (has : HasKept (join_scan options kept) rules side now between) where
    abbrev k : KeepsScan (csv_scan kept.scan) (reader_of options kept) now (Ok has.given) between
    k = has.keeps

    told_now : TellsBytes between → TellsBytes now
    told_now told = told_back now between k.leaves.held told

    kept_asked : AskNextChunks (numbers_of kept) (map length kept.files) options.chunk_bytes 0 k.reads k.to
    kept_asked = subst (λ (sizes : List ℕ). AskNextChunks (numbers_of kept) sizes options.chunk_bytes 0 k.reads k.to) kept_is.sizes k.asks

    pub means_kept : TellsBytes between → MeansRows (open_job options kept) k.to side.rows
    means_kept told =
        let had = had_nothing old now query options files kept kept_is now refl refl (told_now told) in
        subst (λ (n : ℕ). MeansRows (open_job options kept) n side.rows)
        (events_asked old now query options files kept kept_is k.to k.reads (are_transfers k.reads (either_reading k.reads k.each))
        (subst (λ (actions : List Action). AskNextChunks (numbers_of kept) (map length kept.files) options.chunk_bytes 0 actions k.to) (sym (filter_readings k.reads k.each)) kept_asked))
        ((k.told kept.files had).means side.rows (has.gives kept.files had))

    rows_kept : TellsBytes between → kept_rows ≡ side.rows
    rows_kept told = all_rows old now query options files kept kept_is k.to side.rows (means_kept told)

    side_is : TellsBytes between → side ≡ meant_side
    side_is told = same_side side has.rules_are (has.is_right ∙ ap (λ (r : JoinRules). keeps_left r.how r.maintain_order) has.rules_are ∙ sym ordered) (sym (rows_kept told))
      where
        same_side : (s : KeptSide) → s.rules ≡ rules → s.is_left ≡ is_left → s.rows ≡ kept_rows → s ≡ meant_side
        same_side s one two three =
            ap (λ (r : JoinRules). side_kept s.is_left r s.rows) one ∙ ap (λ (b : Bool). side_kept b rules s.rows) two ∙ ap (side_kept is_left rules) three

    -- the other side was looked up
    module _ (found : Result ℕ Fault) (new : Outside) (w : WritesFound (csv_scan asked.scan) (reader_of options asked) side (bytes_bound options) between found new) where
      sized : sizes_in between.sizes (numbers_of asked) ≡ map length asked.files
      sized = ap (λ (sizes : List ℕ). sizes_in sizes (numbers_of asked)) k.leaves.sizes ∙ asked_is.sizes

      found_asks : AskNextChunks (numbers_of asked) (map length asked.files) options.chunk_bytes 0 (filter is_reading w.actions) w.to
      found_asks = subst (λ (sizes : List ℕ). AskNextChunks (numbers_of asked) sizes options.chunk_bytes 0 (filter is_reading w.actions) w.to) sized w.reads

      told_between : TellsBytes new → TellsBytes between
      told_between told = told_back between new (stays between new w.actions w.each w.does).held told

      pub had_asked : TellsBytes between → HasGivenRows (csv_scan asked.scan) asked.files between (reader_of options asked)
      had_asked told = had_nothing old now query options files asked asked_is between k.leaves.sizes k.leaves.held told

      -- the text of the join, by the side that is at hand
      text_is : TellsBytes between → (text : List ℕ) → text ≡ join_text side.rules (joined_rows side asked_rows) → text ≡ join_text rules (joined_rows meant_side asked_rows)
      text_is told text is = is ∙ ap (λ (s : KeptSide). join_text s.rules (joined_rows s asked_rows)) (side_is told)

      pub stage_found : Stage is_left rules options now kept asked k.to w.to k.reads w.actions new
      stage_found = record {
        does = does-append now between new k.reads w.actions k.does w.does;
        reading = k.each;
        either = w.each;
        kept_asks = kept_asked;
        asked_asks = found_asks;
        front = λ told.
            let here = told_between told in
            let stops = (w.told asked.files (had_asked here)).front in
            let more : List ℕ = join_text side.rules (rows_alone side asked_rows) in (
              stops.rest ++ more,
              text_is here (flat_map text_by w.actions ++ (stops.rest ++ more))
                  (sym (append_assoc (flat_map text_by w.actions) stops.rest more)
                  ∙ ap (λ (text : List ℕ). text ++ more) (stops.front ∙ ap (join_text side.rules) (before_found side (scan_axis (open_job options asked)).gives))
                  ∙ sym (join_text-append side.rules (rows_found side asked_rows) (rows_alone side asked_rows))),
            );
      }

    -- all of the other side was looked up
    module _ (count : ℕ) (then_ : Outside) (w : WritesFound (csv_scan asked.scan) (reader_of options asked) side (bytes_bound options) between (Ok count) then_) where
      -- what was written is what all its rows find
      record FoundAll : Type 0 where
        means : MeansRows (open_job options asked) w.to asked_rows
        text : flat_map text_by w.actions ≡ join_text side.rules (rows_found side asked_rows)
        counted : count ≡ length (rows_found side asked_rows)

      found_all : TellsBytes between → FoundAll
      found_all told =
          let answered : AnswersFound (open_job options asked) side w.actions (Ok count) = (w.told asked.files (had_asked (Ok count) then_ w told)).answers in
          let meant : MeansRows (open_job options asked) w.to answered.0 = subst (λ (n : ℕ). MeansRows (open_job options asked) n answered.0)
          (events_asked old now query options files asked asked_is w.to w.actions (are_transfers w.actions w.each) (found_asks (Ok count) then_ w)) answered.3 in
          let same : asked_rows ≡ answered.0 = all_rows old now query options files asked asked_is w.to answered.0 meant in record {
            means = subst (MeansRows (open_job options asked) w.to) (sym same) meant;
            text = answered.1 ∙ ap (λ (rows : List Row). join_text side.rules (rows_found side rows)) (sym same);
            counted = answered.2 ∙ ap (λ (rows : List Row). length (rows_found side rows)) (sym same);
          }

      -- the rows that were written, and their text, of the side that is meant
      ended : TellsBytes between → (text : List ℕ) (n : ℕ) → text ≡ join_text side.rules (joined_rows side asked_rows) → n ≡ length (joined_rows side asked_rows)
          → Ended is_left rules options kept asked k.to w.to text n
      ended told text n is counted = record {
        kept_means = subst (MeansRows (open_job options kept) k.to) (sym (rows_kept told)) (means_kept told);
        asked_means = (found_all told).means;
        text_is = text_is (Ok count) then_ w told text is;
        counted = counted ∙ ap (λ (s : KeptSide). length (joined_rows s asked_rows)) (side_is told);
      }

      -- where the kept rows that none finds are not wanted, that is all
      pub ended_found : wants_kept side ≡ false → TellsBytes then_ → Ended is_left rules options kept asked k.to w.to (flat_map text_by w.actions) count
      ended_found none told =
          let here = told_between (Ok count) then_ w told in
          let all = found_all here in
          let no_more : rows_alone side asked_rows ≡ [] = ap (λ t. if t then map (joined_row side []) (filter (λ kept. not (is_asked_for side asked_rows kept)) side.rows) else []) none in
          let same : rows_found side asked_rows ≡ joined_rows side asked_rows = sym (append-nil (rows_found side asked_rows)) ∙ ap (λ (rows : List Row). rows_found side asked_rows ++ rows) (sym no_more) in
          ended here (flat_map text_by w.actions) count (all.text ∙ ap (join_text side.rules) same) (all.counted ∙ ap (λ (rows : List Row). length rows) same)

      -- they follow
      module _ (result : Result ℕ Fault) (new : Outside) (a : WritesAlone (csv_scan asked.scan) (reader_of options asked) between side then_ result new) where
        told_then : TellsBytes new → TellsBytes between
        told_then told = told_between (Ok count) then_ w (told_back then_ new (stays then_ new a.actions (either_writing a.actions a.each) a.does).held told)

        text_both : TellsBytes between → (rest : List ℕ) → flat_map text_by a.actions ++ rest ≡ join_text side.rules (rows_alone side asked_rows)
            → flat_map text_by (w.actions ++ a.actions) ++ rest ≡ join_text side.rules (joined_rows side asked_rows)
        text_both told rest is =
            ap (λ (text : List ℕ). text ++ rest) (flat_map-append text_by w.actions a.actions) ∙ append_assoc (flat_map text_by w.actions) (flat_map text_by a.actions) rest
            ∙ ap (λ (text : List ℕ). text ++ (flat_map text_by a.actions ++ rest)) (found_all told).text ∙ ap (λ (text : List ℕ). join_text side.rules (rows_found side asked_rows) ++ text) is
            ∙ sym (join_text-append side.rules (rows_found side asked_rows) (rows_alone side asked_rows))

        pub reads_both : filter is_reading (w.actions ++ a.actions) ≡ filter is_reading w.actions
        reads_both = filter-append is_reading w.actions a.actions ∙ ap (λ (actions : List Action). filter is_reading w.actions ++ actions) (filter_writings a.actions a.each) ∙ append-nil (filter is_reading w.actions)

        pub stage_alone : Stage is_left rules options now kept asked k.to w.to k.reads (w.actions ++ a.actions) new
        stage_alone = record {
          does = does-append now between new k.reads (w.actions ++ a.actions) k.does (does-append between then_ new w.actions a.actions w.does a.does);
          reading = k.each;
          either = each-append IsEither w.actions a.actions w.each (either_writing a.actions a.each);
          kept_asks = kept_asked;
          asked_asks = subst (λ (actions : List Action). AskNextChunks (numbers_of asked) (map length asked.files) options.chunk_bytes 0 actions w.to) (sym reads_both) (found_asks (Ok count) then_ w);
          front = λ told.
              let here = told_then told in
              let alone = a.told asked.files (had_asked (Ok count) then_ w here) in
              (alone.rest, text_is (Ok count) then_ w here (flat_map text_by (w.actions ++ a.actions) ++ alone.rest) (text_both here alone.rest alone.front));
        }

    -- all of them were written
    pub ended_alone : (count more : ℕ) (then_ new : Outside) (w : WritesFound (csv_scan asked.scan) (reader_of options asked) side (bytes_bound options) between (Ok count) then_)
        (a : WritesAlone (csv_scan asked.scan) (reader_of options asked) between side then_ (Ok more) new) → TellsBytes new
        → Ended is_left rules options kept asked k.to w.to (flat_map text_by (w.actions ++ a.actions)) (count + more)
    ended_alone count more then_ new w a told =
        let here = told_then count then_ w (Ok more) new a told in
        let all = found_all count then_ w here in
        let alone : AnswersAlone (open_job options asked) side a.actions (Ok more) = (a.told asked.files (had_asked (Ok count) then_ w here)).answers in
        let text = text_both count then_ w (Ok more) new a here [] (append-nil (flat_map text_by a.actions) ∙ alone.0) in
        let one = all.counted in let two = alone.1 in let sum = length-append (rows_found side asked_rows) (rows_alone side asked_rows) in
        ended count then_ w here (flat_map text_by (w.actions ++ a.actions)) (count + more) (sym (append-nil (flat_map text_by (w.actions ++ a.actions))) ∙ text)
        (let same : count + more ≡ length (rows_found side asked_rows ++ rows_alone side asked_rows) = omega (arith, one, two, sum) in same)
