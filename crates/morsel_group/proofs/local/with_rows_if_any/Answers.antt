use Rattle.std.proofs.Common.{◌++◌, Some, ap, ◌∙◌, length, sym, subst}
use Rattle.std.specs.Prelude.{Option, IfErr, IfOk, option_map}
use Rattle.morsel_keys.specs.Reductions.{input_place}
use Rattle.morsel_group.specs.declared.groups.Groups.{Groups}
use Rattle.morsel_group.specs.Asked.{GroupShape}
use Rattle.morsel_group.specs.Takes.{placed_rows}
use Rattle.morsel_group.specs.Locals.{AreGroupsIfAny, HasShape, HasTakenRows, IsGroupFault, StaysGroupBy, TakesColumns, held_in}
use Rattle.morsel_group.proofs.LocalLemmas.{some_none}
use Rattle.morsel_group.proofs.local.with_rows_if_any.Goals as goal

pub with_rows-requires-clause-groups : goal.with_rows-requires-clause-groups
with_rows-requires-clause-groups c = subst AreGroupsIfAny c.in-Some.is c.requires.groups

pub with_rows-requires-clause-columns : goal.with_rows-requires-clause-columns
with_rows-requires-clause-columns c = subst (λ (v : Option Groups). TakesColumns c.args.frame.now.schema (option_map held_in v)) c.in-Some.is c.requires.columns

pub returns-in-Some-clause-same : goal.returns-in-Some-clause-same
returns-in-Some-clause-same c = subst (λ (v : Option Groups). IfOk c.with_rows.result (λ next. StaysGroupBy (option_map held_in v) (Some (held_in next)))) (sym c.in-Some.is) c.with_rows.ensures.same

pub returns-in-Some-clause-rows : goal.returns-in-Some-clause-rows
returns-in-Some-clause-rows c rows taken = c.with_rows.ensures.rows rows (subst (λ (v : Option Groups). HasTakenRows (option_map held_in v) rows) c.in-Some.is taken)

pub returns-in-Some-clause-refused : goal.returns-in-Some-clause-refused
returns-in-Some-clause-refused c rows shape taken is =
    subst (λ (s : GroupShape). IfErr c.with_rows.result (IsGroupFault s (rows ++ placed_rows (input_place c.args.number (length rows)) c.args.frame.now.rows)))
    (subst (λ (v : Option Groups). HasShape (option_map held_in v) shape) c.in-Some.is is)
    (c.with_rows.ensures.refused rows (subst (λ (v : Option Groups). HasTakenRows (option_map held_in v) rows) c.in-Some.is taken))

pub returns-in-Some-clause-ended : goal.returns-in-Some-clause-ended
returns-in-Some-clause-ended c none = absurd (some_none (sym (ap (option_map held_in) c.in-Some.is) ∙ none))
