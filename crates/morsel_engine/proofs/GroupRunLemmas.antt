-- Runs of queries of one scan with a group-by, from their open files to what they answer and leave.
use Rattle.std.proofs.Common.{◌≡◌, ℕ, ◌<◌, ap, refl, ◌∙◌, inl, inr, arith}
use Rattle.std.specs.Prelude.{None, Some, Result, Err, List, [], map, length}
use Rattle.std.specs.List.{flat_map}
use Rattle.morsel_meaning.specs.declared.fault.Fault.{Fault}
use Rattle.morsel_meaning.specs.declared.fault.Fault.TheVariants as faults
use Rattle.morsel_meaning.specs.Values.{Row}
use Rattle.morsel_grammar.specs.Dialect.{IsDialect}
use Rattle.morsel_outside.specs.Outside.{Outside}
use Rattle.morsel_outside.specs.Actions.{event_of}
use Rattle.morsel_outside.proofs.DoesLemmas.{does-nothing}
use Rattle.morsel_read.specs.ScanReads.{CountsFromFirst, sizes_in}
use Rattle.morsel_drive.proofs.TransferLemmas.{are_transfers}
use Rattle.morsel_line.specs.ScanRuns.{JobGives, job_of}
use Rattle.morsel_group.specs.Asked.{GroupAsked}
use Rattle.morsel_group_units.specs.GroupAsks.{GroupRulesSeen, rules_shape}
use Rattle.morsel_group_reads.proofs.SaysLemmas.{says_itself}
use Rattle.morsel_group_plan.specs.GroupRuns.{GroupsScan}
use Rattle.morsel_sink.specs.declared.spec.SinkFormat.{SinkFormat}
use Rattle.morsel_sink.specs.declared.spec.SinkFormat.TheVariants as formats
use Rattle.morsel_query.specs.RunOptions.{RunOptions}
use Rattle.morsel_query.specs.Queries.{FileScan, QueryParts}
use Rattle.morsel_query.specs.Plans.{query_fault}
use Rattle.morsel_query.specs.Meanings.{csv_scan}
use Rattle.morsel_engine.specs.Courses.{file_numbers, SidesAsked}
use Rattle.morsel_engine.specs.Stages.{GroupsFiles}
use Rattle.morsel_engine.specs.Runs.{Runs}
use Rattle.morsel_engine.proofs.ToldLemmas.{sizes_opened, are_told}
use Rattle.morsel_engine.proofs.AskLemmas.{ask_next, are_short, asks_up_to, fails_on}
use Rattle.morsel_engine.proofs.ScanLemmas.{Begun, runs_begun}
use Rattle.morsel_engine.proofs.OpenScanLemmas.{OpenScan, numbers_of, reader_of, IsOfQuery, means_asked}
use Rattle.morsel_engine.proofs.WriteLemmas.{open_alone}
use Rattle.morsel_engine.proofs.JoinLemmas.{join_scan}
use Rattle.morsel_engine.proofs.JoinRunLemmas.{answer_as}
use Rattle.morsel_engine.proofs.GroupEndLemmas.{grouped_query, rules_of_group, valid_input, LastScan, GivesInput, runs_rows}

-- a query of one scan with a group-by, into NDJSON
abbrev pub grouped_ndjson : FileScan → GroupAsked → List ℕ → QueryParts
grouped_ndjson left group name = grouped_query left None group name

-- what is asked of the group-by of a scan's rows
abbrev pub rules_of_scan : FileScan → GroupAsked → GroupRulesSeen
rules_of_scan left group = rules_of_group left None group

-- what a run that made its sink has to know
pub record GroupBegun (old : Outside) (left : FileScan) (group : GroupAsked) (name : List ℕ) (files : List (List ℕ)) (now : Outside) : Type 0 where
  pub fit : IsDialect (csv_scan left).options
  pub from_first : CountsFromFirst left.asked.slice
  pub one_each : length left.sources ≡ length files
  pub some : 0 < length files
  pub begun : Begun old (grouped_ndjson left group name) files now
  pub planned : query_fault (grouped_ndjson left group name) ≡ None

module _ (old : Outside) (left : FileScan) (group : GroupAsked) (name : List ℕ) (options : RunOptions) (files : List (List ℕ)) (now : Outside) (run : GroupBegun old left group name files now) where
  abbrev query : QueryParts
  query = grouped_ndjson left group name

  abbrev alone : OpenScan
  alone = open_alone old left files

  -- how many bytes were asked, where so many of the scan were
  abbrev asked_to : ℕ → SidesAsked
  asked_to to = record { left = to; right = 0 }

  pub is_alone : IsOfQuery old now query files alone
  is_alone = record {
    fit = run.fit;
    from_first = run.from_first;
    one_each = run.one_each;
    some = run.some;
    number = omega arith;
    within = omega arith;
    sizes = ap (λ (x : List ℕ). sizes_in x (numbers_of alone)) run.begun.sizes ∙ sizes_opened old.sizes files;
    told = λ told. are_told old now files told.0 run.begun.sizes run.begun.held (run.begun.sized run.some) told.1;
    cause = λ fault has. has;
    few = λ valid. valid.few;
    means = λ valid. (valid.means.input, valid.means.means);
  }

  -- it is the last that is read, and the first
  alone_last : LastScan old now left None group name options files alone [] now
  alone_last = record {
    begun = run.begun;
    planned = run.planned;
    is_last = is_alone;
    does = does-nothing now;
    reading = tt;
    fine = refl;
    same = (refl, refl);
    sides = asked_to;
    asks = λ to later each asks.
        let are = are_transfers later each in
        let next = ask_next (numbers_of alone) (map length files) options.chunk_bytes 0 to later are asks in record {
          once = asks_up_to (length old.sizes) (length files) (map length files) options.chunk_bytes to (flat_map event_of later) next;
          short = are_short (numbers_of alone) (map length files) options.chunk_bytes 0 to (flat_map event_of later) next;
          fails = fails_on (length old.sizes) (length files) (map length files) options.chunk_bytes 0 to old.failed later are asks;
        };
  }

  -- what its bytes give
  abbrev is_given : ℕ → List (List ℕ) → List Row → Type 0
  is_given given told rows = JobGives (job_of (csv_scan left) (reader_of options alone) told) given rows

  gives_rows : GivesInput left None group name (rules_of_scan left group) options files alone now asked_to is_given
  gives_rows = record {
    output = refl;
    whole = λ to all. all;
    input = λ told given to rows means is. record {
      whole = rows;
      asked_means = means_asked old now query options files alone is_alone to rows (means rows is);
      valid_means = λ valid. valid_input old now query options files alone is_alone to rows (means rows is) valid;
      says = says_itself (rules_shape (rules_of_scan left group)) rows;
    };
  }

  -- the whole run
  pub runs_course : (result : Result ℕ Fault) (new : Outside) → GroupsScan (join_scan options alone) (rules_of_scan left group) now result new → Runs old query options result new
  unfolding alone_last
  runs_course result new groups = runs_rows old now left None group name options files alone [] now alone_last (rules_of_scan left group) is_given gives_rows result new groups

-- a run that made its sink, whatever follows
pub runs_grouped : (format : SinkFormat) (old : Outside) (left : FileScan) (group : GroupAsked) (name : List ℕ) (options : RunOptions) (files : List (List ℕ)) (now : Outside) (result : Result ℕ Fault) (new : Outside)
    → (let query : QueryParts = record { left = left; join = None; group = Some group; sink = record { name = name; format = format } } in
    query_fault query ≡ None → CountsFromFirst left.asked.slice → 0 < length files → length left.sources ≡ length files → Begun old query files now
    → GroupsFiles now left (file_numbers (length old.sizes) (length files)) (rules_of_scan left group) options result new → Runs old query options result new)
runs_grouped formats.NdJson old left group name options files now result new planned from some one_each begun (inl (is, same)) =
    answer_as old (grouped_ndjson left group name) options result (Err faults.OutOfMemory) new now is same (runs_begun old now (grouped_ndjson left group name) options files planned begun)
runs_grouped formats.NdJson old left group name options files now result new planned from some one_each begun (inr (fit, groups)) =
    runs_course old left group name options files now (record { fit = fit; from_first = from; one_each = one_each; some = some; begun = begun; planned = planned }) result new groups
