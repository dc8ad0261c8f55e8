-- The parts of a run of a query of one scan with a group-by, put together.
use Rattle.std.proofs.Common.{◌≡◌, ℕ, ◌≤◌, ap, sym, subst, refl, ◌∙◌, inl, inr, append-nil, arith}
use Rattle.std.specs.Prelude.{None, Some, Option, Result, List, [], ◌∷◌, length, max}
use Rattle.morsel_meaning.specs.declared.fault.Fault.{Fault}
use Rattle.morsel_meaning.specs.declared.value.Field.{Field}
use Rattle.morsel_outside.specs.declared.io.FileNo.{FileNo}
use Rattle.morsel_outside.specs.Outside.{Outside}
use Rattle.morsel_outside.specs.Actions.{Making, Does}
use Rattle.morsel_scan.specs.declared.spec.ScanSpec.{ScanSpec}
use Rattle.morsel_sink.specs.declared.spec.SinkFormat.{SinkFormat}
use Rattle.morsel_sink.specs.declared.spec.SinkFormat.TheVariants as formats
use Rattle.morsel_sink.specs.declared.spec.SinkSpec.{SinkSpec}
use Rattle.morsel_group.specs.Asked.{GroupAsked, group_fields}
use Rattle.morsel_group.specs.GroupFlaws.{group_flaw}
use Rattle.morsel_group_units.specs.GroupAsks.{GroupRulesSeen}
use Rattle.morsel_query.specs.RunOptions.{RunOptions}
use Rattle.morsel_query.specs.Queries.{FileFormat, CsvFiles, FileScan, JoinPart, QueryParts, file_scan, query_parts, fields_of_format}
use Rattle.morsel_query.specs.QueryFlaws.{IsSound, AreColumns, columns_given}
use Rattle.morsel_query.specs.Plans.{fields_of_scan, fields_of_input, fault_by, fault_with, query_fault}
use Rattle.morsel_engine.specs.Courses.{file_numbers}
use Rattle.morsel_engine.specs.Stages.{HasOpenedAll, IsOpenSide, GroupsFiles, SweepsGroupFiles}
use Rattle.morsel_engine.specs.Runs.{Runs}
use Rattle.morsel_engine.specs.SweepBounds.{greatest_width, SweepsWithin}
use Rattle.morsel_engine.proofs.ScanLemmas.{Begun, begun}
use Rattle.morsel_engine.proofs.PartLemmas.{no_first, planned_scan, counts, opened_of, opened_numbers}
use Rattle.morsel_engine.proofs.SweepLemmas.{no_sweeps}
use Rattle.morsel_engine.proofs.JoinStayLemmas.{AreSame}
use Rattle.morsel_engine.proofs.GroupStayLemmas.{grouped_same}
use Rattle.morsel_engine.proofs.GroupRunLemmas.{grouped_ndjson, rules_of_scan, runs_grouped}
use Rattle.morsel_engine.proofs.SweepGroupLemmas.{swept_groups}

-- the names of a group-by that has a plan meet the columns
pub names_met : (left : FileScan) (join : Option JoinPart) (group : GroupAsked) → fault_with left join (Some group) ≡ None → group_flaw (fields_of_input left join) group ≡ None
names_met left join group is = (no_first (fault_by left join) (group_flaw (fields_of_input left join) group) is).1

-- its rules, of columns that were cloned
pub rules_are : (rules : GroupRulesSeen) (input columns : List Field) (left : FileScan) (group : GroupAsked) → rules ≡ record { columns = input; asked = group } → input ≡ columns → columns ≡ fields_of_scan left
    → rules ≡ rules_of_scan left group
rules_are rules input columns left group is cloned are =
    let of_columns : List Field → GroupRulesSeen = λ fields. record { columns = fields; asked = group } in is ∙ ap of_columns (cloned ∙ are)

-- some column is read
wide : (left : FileScan) (group : GroupAsked) (sink : SinkSpec) → AreColumns (columns_given left.format) → 1 ≤ greatest_width (record { left = left; join = None; group = Some group; sink = sink })
wide left group sink columns = by left.format columns
  where
    by : (format : FileFormat) → AreColumns (columns_given format)
        → 1 ≤ max (max (length (fields_of_format format)) (length (fields_of_scan left))) (length (group_fields (fields_of_scan left) group))
    by (CsvFiles fields options) are = let some = are.0 in omega (arith, some)

module _ (old between now : Outside) (left : ScanSpec) (group : GroupAsked) (sink : SinkSpec) (numbers : List FileNo) (files : List (List ℕ))
    (sound : IsSound (query_parts left None (Some group) sink)) (planned : query_fault (query_parts left None (Some group) sink) ≡ None)
    (opened : HasOpenedAll old left.sources.items numbers files between) (made : Does between (Making sink.name ∷ []) now) where
  abbrev query : QueryParts
  query = query_parts left None (Some group) sink

  start : Begun old query files now
  start = begun old between now query numbers files (opened_of old between query numbers files refl opened) made

  some_file : 1 ≤ length files
  some_file = let some = sound.each.0.some_source in let all = opened.all in omega (arith, some, all)

  -- the scan, whose files are open
  pub open_scan_side : (columns : List Field) → columns ≡ fields_of_scan (file_scan left) → IsOpenSide now left columns numbers
  open_scan_side columns is =
      let numbered = opened_numbers old between now query numbers files refl opened made in record {
        some = sound.each.0.some_source;
        few = sound.each.0.few_sources;
        one_each = numbered.0;
        opened = numbered.1;
        planned = planned_scan query planned;
        columns_are = is;
      }

  -- its rows were grouped
  pub runs_group_parts : (options : RunOptions) (rules : GroupRulesSeen) (result : Result ℕ Fault) (new : Outside) → rules ≡ rules_of_scan (file_scan left) group
      → GroupsFiles now (file_scan left) numbers rules options result new → Runs old query options result new
  runs_group_parts options rules result new are groups =
      runs_grouped sink.format old (file_scan left) group sink.name options files now result new planned (counts left.file_options.slice (planned_scan query planned).from_first)
      some_file (sym opened.all) start
      (subst (λ (xs : List FileNo). GroupsFiles now (file_scan left) xs (rules_of_scan (file_scan left) group) options result new) opened.numbers_are
      (subst (λ (r : GroupRulesSeen). GroupsFiles now (file_scan left) numbers r options result new) are groups))

  swept_by : (format : SinkFormat) (options : RunOptions) (new : Outside) (before after : ℕ) → AreSame now new
      → (let the_query : QueryParts = record { left = file_scan left; join = None; group = Some group; sink = record { name = sink.name; format = format } } in
      query_fault the_query ≡ None → Begun old the_query files now → SweepsGroupFiles now (file_scan left) (file_numbers (length old.sizes) (length files)) options before after
      → SweepsWithin old the_query options before new after)
  swept_by formats.NdJson options new before after same plan began (inl none) =
      let the_query : QueryParts = grouped_ndjson (file_scan left) group sink.name in
      subst (λ (n : ℕ). SweepsWithin old the_query options before new n) (sym none) (no_sweeps old new the_query options before)
  swept_by formats.NdJson options new before after same plan began (inr (fit, sweeps)) =
      swept_groups old (file_scan left) group sink.name options files now new
      (record { fit = fit; from_first = counts left.file_options.slice (planned_scan query planned).from_first; one_each = sym opened.all; some = some_file; begun = began; planned = plan })
      same.0 same.1 before after
      (let all = append-nil left.sources.items in let some = sound.each.0.some_source in subst (λ (xs : List (List ℕ)). 1 ≤ length xs) (sym all) some)
      (wide (file_scan left) group (record { name = sink.name; format = formats.NdJson }) sound.each.0.columns) sweeps

  -- few sweeps were made
  pub swept_group_parts : (options : RunOptions) (rules : GroupRulesSeen) (result : Result ℕ Fault) (new : Outside) (before after : ℕ)
      → GroupsFiles now (file_scan left) numbers rules options result new → SweepsGroupFiles now (file_scan left) numbers options before after → SweepsWithin old query options before new after
  swept_group_parts options rules result new before after groups sweeps =
      swept_by sink.format options new before after (grouped_same now (file_scan left) numbers rules options result new groups) planned start
      (subst (λ (xs : List FileNo). SweepsGroupFiles now (file_scan left) xs options before after) opened.numbers_are sweeps)
