-- Runs of queries with a join and a group-by that made their sink, whichever side is kept.
use Rattle.std.proofs.Common.{◌≡◌, ℕ, ◌+◌, ◌∙◌, refl, inl, inr}
use Rattle.std.specs.Prelude.{Bool, true, false, Some, Result, Err, List, length}
use Rattle.morsel_meaning.specs.declared.fault.Fault.{Fault}
use Rattle.morsel_meaning.specs.declared.fault.Fault.TheVariants as faults
use Rattle.morsel_outside.specs.Outside.{Outside}
use Rattle.morsel_join.specs.declared.rules.JoinRules.{JoinRules}
use Rattle.morsel_join.specs.Rows.{keeps_left}
use Rattle.morsel_sink.specs.declared.spec.SinkFormat.{SinkFormat}
use Rattle.morsel_sink.specs.declared.spec.SinkFormat.TheVariants as formats
use Rattle.morsel_sink.specs.declared.spec.SinkSpec.{SinkSpec}
use Rattle.morsel_group.specs.Asked.{GroupAsked}
use Rattle.morsel_query.specs.RunOptions.{RunOptions}
use Rattle.morsel_query.specs.Queries.{FileScan, JoinPart, QueryParts}
use Rattle.morsel_query.specs.Meanings.{left_files, right_files}
use Rattle.morsel_engine.specs.Courses.{file_numbers}
use Rattle.morsel_engine.specs.Stages.{side_scan, GroupsSides, JoinsGroups}
use Rattle.morsel_engine.specs.Runs.{Runs}
use Rattle.morsel_engine.proofs.ScanLemmas.{Begun, runs_begun}
use Rattle.morsel_engine.proofs.JoinSideLemmas.{left_open, right_open, query_joined, SidesFit, left_is, right_is}
use Rattle.morsel_engine.proofs.JoinedLemmas.{sides_left, sides_right, JoinFit, fit_sides}
use Rattle.morsel_engine.proofs.JoinRunLemmas.{answer_as}
use Rattle.morsel_engine.proofs.GroupJoinLemmas.{ReadsColumns, keeps_same, rules_read, runs_grouped_course}

-- a sink of this format
abbrev sink_named : List ℕ → SinkFormat → SinkSpec
sink_named name format = record { name = name; format = format }

-- a run of a join and a group-by that made its sink, whatever follows
pub runs_joined_groups : (format : SinkFormat) (old now new : Outside) (left : FileScan) (join : JoinPart) (group : GroupAsked) (name : List ℕ) (rules : JoinRules) (options : RunOptions) (files : List (List ℕ)) (result : Result ℕ Fault)
    → JoinFit left join (Some group) (sink_named name format) rules → (read : JoinRules) → ReadsColumns left join group rules read → Begun old (query_joined left join (Some group) (sink_named name format)) files now
    → JoinsGroups now left join.right (file_numbers (length old.sizes) (length (left_files left files))) (file_numbers (length old.sizes + length left.sources) (length (right_files left files))) read
    (rules_read read group) options result new → Runs old (query_joined left join (Some group) (sink_named name format)) options result new
runs_joined_groups formats.NdJson old now new left join group name rules options files result fit read reads begun (inl (is, same)) =
    let query : QueryParts = query_joined left join (Some group) (sink_named name formats.NdJson) in
    answer_as old query options result (Err faults.OutOfMemory) new now is same (runs_begun old now query options files fit.planned begun)
runs_joined_groups formats.NdJson old now new left join group name rules options files result fit read reads begun (inr (left_fit, right_fit, groups)) = by (keeps_left read.how read.maintain_order) refl groups
  where
    sides_fit : SidesFit left join
    sides_fit = fit_sides left join (Some group) (sink_named name formats.NdJson) rules fit left_fit right_fit

    same_side : keeps_left read.how read.maintain_order ≡ keeps_left rules.how rules.maintain_order
    same_side = keeps_same group rules read reads.keeps

    by : (is_left : Bool) → is_left ≡ keeps_left read.how read.maintain_order
        → GroupsSides is_left (side_scan left (file_numbers (length old.sizes) (length (left_files left files))) 0 options)
        (side_scan join.right (file_numbers (length old.sizes + length left.sources) (length (right_files left files))) (length left.sources) options) read (rules_read read group) now result new
        → Runs old (query_joined left join (Some group) (sink_named name formats.NdJson)) options result new
    by true ordered grouped = runs_grouped_course true rules (ordered ∙ same_side) old now left join group name options files (left_open old left files) (right_open old left join files)
        (left_is old now left join (Some group) (sink_named name formats.NdJson) files sides_fit begun) (right_is old now left join (Some group) (sink_named name formats.NdJson) files sides_fit begun)
        (sides_left left join rules old files fit.are_rules (ordered ∙ same_side)) begun fit.planned read reads result new grouped
    by false ordered grouped = runs_grouped_course false rules (ordered ∙ same_side) old now left join group name options files (right_open old left join files) (left_open old left files)
        (right_is old now left join (Some group) (sink_named name formats.NdJson) files sides_fit begun) (left_is old now left join (Some group) (sink_named name formats.NdJson) files sides_fit begun)
        (sides_right left join rules old files fit.are_rules (ordered ∙ same_side)) begun fit.planned read reads result new grouped
