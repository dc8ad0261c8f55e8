-- The parts of a run of a query with a join and a group-by, put together.
use Rattle.std.proofs.Common.{◌≡◌, ℕ, ap, sym, subst, ◌∙◌}
use Rattle.std.specs.Prelude.{Some, None, Result, List, [], ◌∷◌, ◌++◌, length}
use Rattle.morsel_meaning.specs.declared.fault.Fault.{Fault}
use Rattle.morsel_meaning.specs.declared.value.Field.{Field}
use Rattle.morsel_outside.specs.declared.io.FileNo.{FileNo}
use Rattle.morsel_outside.specs.Outside.{Outside}
use Rattle.morsel_outside.specs.Actions.{Making, Does}
use Rattle.morsel_scan.specs.declared.spec.ScanSpec.{ScanSpec}
use Rattle.morsel_join.specs.declared.rules.JoinRules.{JoinRules}
use Rattle.morsel_sink.specs.declared.spec.SinkSpec.{SinkSpec}
use Rattle.morsel_group.specs.Asked.{GroupAsked}
use Rattle.morsel_group.specs.GroupFlaws.{group_flaw}
use Rattle.morsel_group_units.specs.GroupAsks.{GroupRulesSeen}
use Rattle.morsel_group_reads.specs.Reads.{KeepsColumns}
use Rattle.morsel_group_reads.proofs.FlawLemmas.{flaw_read}
use Rattle.morsel_query.specs.declared.join.JoinSpec.{JoinSpec}
use Rattle.morsel_query.specs.RunOptions.{RunOptions}
use Rattle.morsel_query.specs.Queries.{QueryParts, file_scan, join_part, query_parts}
use Rattle.morsel_query.specs.QueryFlaws.{IsSound}
use Rattle.morsel_query.specs.Plans.{fields_of_input, fields_of_scan, AreRulesOf, query_fault}
use Rattle.morsel_engine.specs.Stages.{HasOpenedAll, JoinsGroups, SweepsJoinedGroups}
use Rattle.morsel_engine.specs.Runs.{Runs}
use Rattle.morsel_engine.specs.SweepBounds.{SweepsWithin}
use Rattle.morsel_engine.proofs.ScanLemmas.{Begun}
use Rattle.morsel_engine.proofs.JoinedLemmas.{JoinFit}
use Rattle.morsel_engine.proofs.JoinPartLemmas.{start, fits_join, by_place, wide_enough}
use Rattle.morsel_engine.proofs.JoinStayLemmas.{AreSame}
use Rattle.morsel_engine.proofs.GroupPartLemmas.{names_met}
use Rattle.morsel_engine.proofs.GroupJoinLemmas.{ReadsColumns, columns_are, rules_read}
use Rattle.morsel_engine.proofs.GroupJoinedLemmas.{runs_joined_groups}
use Rattle.morsel_engine.proofs.GroupJoinStayLemmas.{joined_groups_same}
use Rattle.morsel_engine.proofs.SweepGroupJoinLemmas.{swept_joined_groups}

-- what is asked of the group-by, over the columns of the rows of the join that are read
pub rules_are : (asked : GroupRulesSeen) (input : List Field) (group : GroupAsked) (read : JoinRules) → asked ≡ record { columns = input; asked = group } → input ≡ read.output → asked ≡ rules_read read group
rules_are asked input group read is cloned =
    let of_columns : List Field → GroupRulesSeen = λ fields. record { columns = fields; asked = group } in is ∙ ap of_columns cloned

-- the rules have only the columns that the group-by reads, whose names meet those of the join's rows
pub reads_columns : (left : ScanSpec) (join : JoinSpec) (group : GroupAsked) (sink : SinkSpec) (rules read : JoinRules) → KeepsColumns group rules read
    → AreRulesOf (fields_of_scan (file_scan left)) (fields_of_scan (file_scan join.right)) (join_part join) rules → query_fault (query_parts left (Some join) (Some group) sink) ≡ None
    → ReadsColumns (file_scan left) (join_part join) group rules read
reads_columns left join group sink rules read keeps are planned = record { keeps = keeps; output = are.output; sound = names_met (file_scan left) (Some (join_part join)) group planned }

-- its names meet the columns that it reads
pub joined_names_met : (input : List Field) (left : ScanSpec) (join : JoinSpec) (group : GroupAsked) (rules read : JoinRules) → input ≡ read.output → ReadsColumns (file_scan left) (join_part join) group rules read
    → group_flaw input group ≡ None
joined_names_met input left join group rules read cloned reads =
    subst (λ (fields : List Field). group_flaw fields group ≡ None) (sym (cloned ∙ columns_are (file_scan left) (join_part join) group rules read reads))
    (flaw_read group (fields_of_input (file_scan left) (Some (join_part join))) reads.sound)

module _ (old between now : Outside) (left : ScanSpec) (join : JoinSpec) (group : GroupAsked) (sink : SinkSpec) (lefts rights : List FileNo) (files : List (List ℕ))
    (sound : IsSound (query_parts left (Some join) (Some group) sink)) (planned : query_fault (query_parts left (Some join) (Some group) sink) ≡ None)
    (opened : HasOpenedAll old (left.sources.items ++ join.right.sources.items) (lefts ++ rights) files between) (one_each : length lefts ≡ length left.sources.items)
    (made : Does between (Making sink.name ∷ []) now) (rules : JoinRules) (options : RunOptions)
    (are : AreRulesOf (fields_of_scan (file_scan left)) (fields_of_scan (file_scan join.right)) (join_part join) rules)
    (read : JoinRules) (reads : ReadsColumns (file_scan left) (join_part join) group rules read) (asked : GroupRulesSeen) (asked_is : asked ≡ rules_read read group) (result : Result ℕ Fault) (new : Outside)
    (groups : JoinsGroups now (file_scan left) (file_scan join.right) lefts rights read asked options result new) where
  abbrev query : QueryParts
  query = query_parts left (Some join) (Some group) sink

  begins : Begun old query files now
  begins = start old between now left join (Some group) sink lefts rights files sound planned opened one_each made

  fits : JoinFit (file_scan left) (join_part join) (Some group) sink rules
  fits = fits_join old between now left join (Some group) sink lefts rights files sound planned opened one_each made rules are

  -- the rows of the join were grouped
  pub runs_group_sides : Runs old query options result new
  runs_group_sides = runs_joined_groups sink.format old now new (file_scan left) (join_part join) group sink.name rules options files result fits read reads begins
      (by_place old between now left join (Some group) sink lefts rights files sound planned opened one_each made
      (λ xs ys. JoinsGroups now (file_scan left) (file_scan join.right) xs ys read (rules_read read group) options result new)
      (subst (λ (g : GroupRulesSeen). JoinsGroups now (file_scan left) (file_scan join.right) lefts rights read g options result new) asked_is groups))

  -- few sweeps were made
  pub swept_group_sides : (before after : ℕ) → SweepsJoinedGroups now (file_scan left) (file_scan join.right) lefts rights read options before after → SweepsWithin old query options before new after
  swept_group_sides before after sweeps =
      let same : AreSame now new = joined_groups_same now (file_scan left) (file_scan join.right) lefts rights read asked options result new groups in
      swept_joined_groups old now new (file_scan left) (join_part join) group sink options files begins same.0 same.1
      (wide_enough old between now left join (Some group) sink lefts rights files sound planned opened one_each made) before after rules fits read
      (by_place old between now left join (Some group) sink lefts rights files sound planned opened one_each made
      (λ xs ys. SweepsJoinedGroups now (file_scan left) (file_scan join.right) xs ys read options before after) sweeps)
