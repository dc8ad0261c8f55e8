-- Runs of queries with a join and a group-by: one side is kept, and the other is the last that is read.
use Rattle.std.proofs.Common.{◌≡◌, ◌⊎◌, ℕ, ap, sym, subst, refl, ◌∙◌, inl, inr, append-nil}
use Rattle.std.specs.Prelude.{Bool, true, false, not, if◌then◌else◌, Some, None, Result, Ok, Err, List, [], ◌++◌, map, length}
use Rattle.std.specs.List.{filter}
use Rattle.std.proofs.lemmas.List.{map-append}
use Rattle.morsel_meaning.specs.declared.fault.Fault.{Fault}
use Rattle.morsel_meaning.specs.declared.fault.Fault.TheVariants as faults
use Rattle.morsel_meaning.specs.declared.value.Field.{Field}
use Rattle.morsel_meaning.specs.Values.{Row}
use Rattle.morsel_outside.specs.Outside.{Outside}
use Rattle.morsel_outside.specs.Actions.{Action}
use Rattle.morsel_outside.proofs.DoesLemmas.{does-nothing}
use Rattle.morsel_drive.specs.Driving.{is_reading}
use Rattle.morsel_drive.proofs.TransferLemmas.{either_reading, filter_readings}
use Rattle.morsel_join.specs.declared.rules.JoinRules.{JoinRules}
use Rattle.morsel_join.specs.Rows.{keeps_left}
use Rattle.morsel_join.specs.Sides.{KeptSide, wants_kept, joined_row, is_asked_for, rows_found, rows_alone}
use Rattle.morsel_line.specs.ScanSources.{AskNextChunks}
use Rattle.morsel_line.specs.ScanRuns.{JobGives, MeansRows}
use Rattle.morsel_join_plan.specs.PhaseRuns.{KeepsScan}
use Rattle.morsel_join_plan.specs.JoinRuns.{HasKept, IsLeftSo}
use Rattle.morsel_group.specs.Asked.{GroupAsked, group_fields, shape_of}
use Rattle.morsel_group.specs.GroupFlaws.{group_flaw}
use Rattle.morsel_group_units.specs.GroupAsks.{GroupRulesSeen, rules_output, rules_shape}
use Rattle.morsel_group_reads.specs.Reads.{KeepsColumns, kept_by}
use Rattle.morsel_group_reads.proofs.LookupLemmas.{fields_kept}
use Rattle.morsel_group_reads.proofs.FlawLemmas.{fields_read}
use Rattle.morsel_group_reads.proofs.SideLemmas.{rows_alone_read, rows_found_read}
use Rattle.morsel_group_reads.proofs.SaysLemmas.{SaysOf, says_read}
use Rattle.morsel_group_plan.specs.GroupRuns as runs
use Rattle.morsel_group_plan.specs.GroupRuns.{GroupsJoin, GroupsRows, JoinGives}
use Rattle.morsel_query.specs.RunOptions.{RunOptions}
use Rattle.morsel_query.specs.Queries.{FileScan, JoinPart, QueryParts}
use Rattle.morsel_query.specs.Plans.{fields_of_input, query_fault}
use Rattle.morsel_query.specs.Meanings.{csv_scan, shape_over}
use Rattle.morsel_engine.specs.Runs.{TellsBytes, Runs}
use Rattle.morsel_engine.proofs.ScanLemmas.{Begun, AsksOn, runs_begun}
use Rattle.morsel_engine.proofs.OpenScanLemmas.{OpenScan, numbers_of, reader_of, open_job, IsOfQuery, means_asked, whole}
use Rattle.morsel_engine.proofs.JoinLemmas.{side_kept, joined_rows, join_scan, means_kept}
use Rattle.morsel_engine.proofs.JoinRunLemmas.{sides_asked, AreSides, answer_as, asks_both}
use Rattle.morsel_engine.proofs.GroupEndLemmas.{grouped_query, rules_of_group, valid_input, IsInput, LastScan, read_out, stage_read, not_read, runs_rows}

-- the rows of the join, in the words of its run
same_rows : (side : KeptSide) (asked : List Row) → runs.joined_rows side asked ≡ joined_rows side asked
same_rows side asked = ap (λ (rows : List Row). rows_found side asked ++ rows) (by (wants_kept side) (rows_alone side asked) (λ none. none_alone none))
  where
    none_alone : wants_kept side ≡ false → rows_alone side asked ≡ []
    none_alone none = ap (λ (t : Bool). if t then map (joined_row side []) (filter (λ kept. not (is_asked_for side asked kept)) side.rows) else []) none

    by : (wanted : Bool) (rows : List Row) → (wanted ≡ false → rows ≡ []) → (if wanted then rows else []) ≡ rows
    by true rows none = refl
    by false rows none = sym (none refl)

-- rules that have only the columns that the group-by reads of those of the query's join
pub record ReadsColumns (left : FileScan) (join : JoinPart) (group : GroupAsked) (rules read : JoinRules) : Type 0 where
  pub keeps : KeepsColumns group rules read
  pub output : rules.output ≡ fields_of_input left (Some join)
  pub sound : group_flaw (fields_of_input left (Some join)) group ≡ None

-- what is asked of the group-by of rows with these columns
abbrev pub rules_read : JoinRules → GroupAsked → GroupRulesSeen
rules_read read group = record { columns = read.output; asked = group }

-- they keep the same side
pub keeps_same : (group : GroupAsked) (rules read : JoinRules) → KeepsColumns group rules read → keeps_left read.how read.maintain_order ≡ keeps_left rules.how rules.maintain_order
keeps_same group rules read k = ap (λ how. keeps_left how read.maintain_order) k.how ∙ ap (keeps_left rules.how) k.order

-- the columns that are read, of the input's
pub columns_are : (left : FileScan) (join : JoinPart) (group : GroupAsked) (rules read : JoinRules) → ReadsColumns left join group rules read → read.output ≡ fields_kept group (fields_of_input left (Some join))
columns_are left join group rules read reads = reads.keeps.output ∙ ap (fields_kept group) reads.output

-- the rows of the group-by have the same columns
pub output_read : (left : FileScan) (join : JoinPart) (group : GroupAsked) (rules read : JoinRules) → ReadsColumns left join group rules read
    → rules_output (rules_read read group) ≡ rules_output (rules_of_group left (Some join) group)
output_read left join group rules read reads =
    ap (λ (columns : List Field). group_fields columns group) (columns_are left join group rules read reads) ∙ fields_read group (fields_of_input left (Some join)) reads.sound

-- a group-by of rows of the join that have these columns says what one of the whole rows says
says_whole : (is_left : Bool) (left : FileScan) (join : JoinPart) (group : GroupAsked) (rules read : JoinRules) → ReadsColumns left join group rules read → (kept looked_up : List Row)
    → SaysOf (rules_shape (rules_read read group)) (shape_over left (Some join) group) (joined_rows (side_kept is_left read kept) looked_up) (joined_rows (side_kept is_left rules kept) looked_up)
says_whole is_left left join group rules read reads kept looked_up =
    let whole : List Row = joined_rows (side_kept is_left rules kept) looked_up in
    let rows_are : joined_rows (side_kept is_left read kept) looked_up ≡ map (λ (row : Row). kept_by group rules.output row) whole
    = ap (λ (rows : List Row). rows ++ rows_alone (side_kept is_left read kept) looked_up) (rows_found_read group rules read reads.keeps is_left kept looked_up)
    ∙ ap (λ (rows : List Row). map (λ (row : Row). kept_by group rules.output row) (rows_found (side_kept is_left rules kept) looked_up) ++ rows) (rows_alone_read group rules read reads.keeps is_left kept looked_up)
    ∙ sym (map-append (λ (row : Row). kept_by group rules.output row) (rows_found (side_kept is_left rules kept) looked_up) (rows_alone (side_kept is_left rules kept) looked_up)) in
    subst (λ (rows : List Row). SaysOf (rules_shape (rules_read read group)) (shape_over left (Some join) group) rows whole)
    (sym (rows_are ∙ ap (λ (fields : List Field). map (λ (row : Row). kept_by group fields row) whole) reads.output))
    (subst (λ (columns : List Field). SaysOf (shape_of columns group) (shape_over left (Some join) group) (map (λ (row : Row). kept_by group (fields_of_input left (Some join)) row) whole) whole)
    (sym (columns_are left join group rules read reads)) (says_read group (fields_of_input left (Some join)) reads.sound whole))

module _ (is_left : Bool) (rules : JoinRules) (ordered : is_left ≡ keeps_left rules.how rules.maintain_order) (old now : Outside) (left : FileScan) (join : JoinPart) (group : GroupAsked) (name : List ℕ) (options : RunOptions)
    (files : List (List ℕ)) (kept asked : OpenScan) (kept_is : IsOfQuery old now (grouped_query left (Some join) group name) files kept) (asked_is : IsOfQuery old now (grouped_query left (Some join) group name) files asked)
    (sides : AreSides is_left rules old left (Some join) files kept asked) (begun : Begun old (grouped_query left (Some join) group name) files now) (planned : query_fault (grouped_query left (Some join) group name) ≡ None)
    (read : JoinRules) (reads : ReadsColumns left join group rules read) where
  abbrev query : QueryParts
  query = grouped_query left (Some join) group name

  ordered_read : is_left ≡ keeps_left read.how read.maintain_order
  ordered_read = ordered ∙ sym (keeps_same group rules read reads.keeps)

  -- where only some of the side that is kept was read, it is the last
  kept_last : LastScan old now left (Some join) group name options files kept [] now
  kept_last = record {
    begun = begun;
    planned = planned;
    is_last = kept_is;
    does = does-nothing now;
    reading = tt;
    fine = refl;
    same = (refl, refl);
    sides = λ to. sides_asked is_left to 0;
    asks = λ to later each asks. subst (λ (actions : List Action). AsksOn old query options files actions (sides_asked is_left to 0)) (append-nil later)
        (asks_both is_left rules old now query options files kept asked kept_is asked_is sides to 0 later [] each tt asks refl);
  }

  -- it was kept, and the other side is the last
  module _ (side : KeptSide) (between : Outside) (has : HasKept (join_scan options kept) read side now between) where
    abbrev k : KeepsScan (csv_scan kept.scan) (reader_of options kept) now (Ok has.given) between
    k = has.keeps

    kept_asks : AskNextChunks (numbers_of kept) (map length kept.files) options.chunk_bytes 0 (filter is_reading k.reads) k.to
    kept_asks = subst (λ (actions : List Action). AskNextChunks (numbers_of kept) (map length kept.files) options.chunk_bytes 0 actions k.to) (sym (filter_readings k.reads k.each))
        (subst (λ (sizes : List ℕ). AskNextChunks (numbers_of kept) sizes options.chunk_bytes 0 k.reads k.to) kept_is.sizes k.asks)

    asked_last : LastScan old now left (Some join) group name options files asked k.reads between
    asked_last = record {
      begun = begun;
      planned = planned;
      is_last = asked_is;
      does = k.does;
      reading = k.each;
      fine = k.fine;
      same = (k.leaves.sizes, k.leaves.held);
      sides = λ other. sides_asked is_left k.to other;
      asks = λ other later each asks. asks_both is_left rules old now query options files kept asked kept_is asked_is sides k.to other k.reads later (either_reading k.reads k.each) each kept_asks asks;
    }

    -- the rows of the kept side, by the rules
    side_is : side ≡ side_kept is_left read side.rows
    side_is = same_side has.rules_are (has.is_right ∙ ap (λ (r : JoinRules). keeps_left r.how r.maintain_order) has.rules_are ∙ sym ordered_read)
      where
        same_side : side.rules ≡ read → side.is_left ≡ is_left → side ≡ side_kept is_left read side.rows
        same_side one two = ap (λ (r : JoinRules). side_kept side.is_left r side.rows) one ∙ ap (λ (b : Bool). side_kept b read side.rows) two

    meant_kept : TellsBytes between → MeansRows (open_job options kept) k.to side.rows
    meant_kept told = means_kept is_left read ordered_read old now query options files kept asked kept_is asked_is side between has told

    -- rows of the join are those that the query groups
    input_of_rows : TellsBytes between → (given other : ℕ) (rows : List Row) → ((found : List Row) → JobGives (open_job options asked) given found → MeansRows (open_job options asked) other found)
        → JoinGives (join_scan options asked) side given asked.files rows → IsInput left (Some join) group name (rules_read read group) (sides_asked is_left k.to other) files rows
    input_of_rows told given other rows means (looked_up, gives, is) =
        let rows_are : joined_rows (side_kept is_left read side.rows) looked_up ≡ rows = ap (λ (s : KeptSide). joined_rows s looked_up) (sym side_is) ∙ sym (same_rows side looked_up) ∙ sym is in
        let found = means looked_up gives in record {
          whole = joined_rows (side_kept is_left rules side.rows) looked_up;
          asked_means = sides.means k.to other side.rows looked_up (means_asked old now query options files kept kept_is k.to side.rows (meant_kept told))
              (means_asked old now query options files asked asked_is other looked_up found);
          valid_means = λ valid. sides.meaning side.rows looked_up (valid_input old now query options files kept kept_is k.to side.rows (meant_kept told) valid)
              (valid_input old now query options files asked asked_is other looked_up found valid);
          says = subst (λ (rs : List Row). SaysOf (rules_shape (rules_read read group)) (shape_over left (Some join) group) rs (joined_rows (side_kept is_left rules side.rows) looked_up)) rows_are
              (says_whole is_left left join group rules read reads side.rows looked_up);
        }

    runs_asked : (result : Result ℕ Fault) (new : Outside) → GroupsRows (JoinGives (join_scan options asked) side) (join_scan options asked) (rules_read read group) between result new
        → Runs old query options result new
    unfolding asked_last
    runs_asked result new groups = runs_rows old now left (Some join) group name options files asked k.reads between asked_last (rules_read read group) (JoinGives (join_scan options asked) side)
        (record {
          output = output_read left join group rules read reads;
          whole = λ other all. sides.whole k.to other (λ none. whole old now query options files kept kept_is k.to none k.all_asked) all;
          input = input_of_rows;
        })
        result new groups

  -- the whole run
  pub runs_grouped_course : (result : Result ℕ Fault) (new : Outside) → GroupsJoin (join_scan options kept) (join_scan options asked) read (rules_read read group) now result new → Runs old query options result new
  runs_grouped_course result new groups = by groups.course
    where
      by : IsLeftSo now result new
          ⊎ (((fault : Fault) × KeepsScan (csv_scan kept.scan) (reader_of options kept) now (Err fault) new × (result ≡ Err fault))
          ⊎ (((given : ℕ) × (between : Outside) × KeepsScan (csv_scan kept.scan) (reader_of options kept) now (Ok given) between × IsLeftSo between result new)
          ⊎ ((side : KeptSide) × (between : Outside) × HasKept (join_scan options kept) read side now between
          × GroupsRows (JoinGives (join_scan options asked) side) (join_scan options asked) (rules_read read group) between result new)))
          → Runs old query options result new
      by (inl (is, same)) = answer_as old query options result (Err faults.OutOfMemory) new now is same (runs_begun old now query options files planned begun)
      by (inr (inl (fault, keeps, is))) = answer_as old query options result (Err fault) new new is refl
          (not_read old now left (Some join) group name options files kept [] now kept_last fault new keeps)
      by (inr (inr (inl (given, between, keeps, so)))) = answer_as old query options result (Err faults.OutOfMemory) new between so.0 so.1
          (read_out old now left (Some join) group name options files kept [] now kept_last keeps.to keeps.reads between
          (stage_read old now left (Some join) group name options files kept [] now kept_last (Ok given) between keeps))
      by (inr (inr (inr (side, between, has, rows)))) = runs_asked side between has result new rows
