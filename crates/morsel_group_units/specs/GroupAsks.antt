-- What a group-by is asked for, over certain columns.
use Rattle.std.specs.Prelude.{◌≡◌, None, List}
use Rattle.morsel_meaning.specs.declared.value.Field.{Field}
use Rattle.morsel_group.specs.Asked.{GroupAsked, GroupShape, HaveColumns, group_fields, shape_of}
use Rattle.morsel_group.specs.GroupFlaws.{group_flaw}

-- the columns of the rows that are grouped, and what is asked
pub record GroupRulesSeen : Type 0 where
  pub columns : List Field
  pub asked : GroupAsked

-- there is such a group-by
pub record AreGroupRules (rules : GroupRulesSeen) : Type 0 where
  pub columns : HaveColumns rules.asked.aggs
  pub sound : group_flaw rules.columns rules.asked ≡ None

-- its shape
abbrev pub rules_shape : GroupRulesSeen → GroupShape
rules_shape rules = shape_of rules.columns rules.asked

-- the columns of its rows
abbrev pub rules_output : GroupRulesSeen → List Field
rules_output rules = group_fields rules.columns rules.asked
