use Rattle.std.proofs.Common.{Some, ap, ◌∙◌, sym, subst}
use Rattle.std.specs.Prelude.{Option, option_map}
use Rattle.morsel_group.specs.declared.groups.Groups.{Groups}
use Rattle.morsel_group.specs.Locals.{AreGroupsIfAny, HasShape, HasTakenRows, StaysGroupBy, TakesColumns, held_in}
use Rattle.morsel_group.proofs.local.insert_rows.Goals as goal

pub with_rows_if_any-requires-clause-groups : goal.with_rows_if_any-requires-clause-groups
with_rows_if_any-requires-clause-groups c = subst AreGroupsIfAny (sym c.take-taken.ensures.value) c.requires.groups

pub with_rows_if_any-requires-clause-columns : goal.with_rows_if_any-requires-clause-columns
with_rows_if_any-requires-clause-columns c = subst (λ (v : Option Groups). TakesColumns c.args.frame.now.schema (option_map held_in v)) (sym c.take-taken.ensures.value) c.requires.columns

pub returns-in-Ok-clause-same : goal.returns-in-Ok-clause-same
returns-in-Ok-clause-same c = subst (λ (v : Option Groups). StaysGroupBy (option_map held_in v) (Some (held_in c.in-Ok.held))) c.take-taken.ensures.value c.in-Ok.ensures.same

pub returns-in-Ok-clause-rows : goal.returns-in-Ok-clause-rows
returns-in-Ok-clause-rows c rows taken = c.in-Ok.ensures.rows rows (subst (λ (v : Option Groups). HasTakenRows (option_map held_in v) rows) (sym c.take-taken.ensures.value) taken)

pub returns-in-Err-clause-refused : goal.returns-in-Err-clause-refused
returns-in-Err-clause-refused c rows shape taken is =
    c.in-Err.ensures.refused rows shape (subst (λ (v : Option Groups). HasTakenRows (option_map held_in v) rows) (sym c.take-taken.ensures.value) taken) (subst (λ (v : Option Groups). HasShape (option_map held_in v) shape) (sym c.take-taken.ensures.value) is)

pub returns-in-Ok-clause-ended : goal.returns-in-Ok-clause-ended
returns-in-Ok-clause-ended c none = let bad = c.in-Ok.ensures.ended (ap (option_map held_in) c.take-taken.ensures.value ∙ none) in cc

pub returns-in-Err-clause-ended : goal.returns-in-Err-clause-ended
returns-in-Err-clause-ended c none = let memory = c.in-Err.ensures.ended (ap (option_map held_in) c.take-taken.ensures.value ∙ none) in cc
