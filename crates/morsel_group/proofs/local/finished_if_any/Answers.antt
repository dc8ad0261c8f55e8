use Rattle.std.proofs.Common.{ap, ◌∙◌, sym, subst}
use Rattle.std.specs.Prelude.{Option, IfErr, IfOk, OnOk, option_map}
use Rattle.morsel_group.specs.declared.groups.Groups.{Groups}
use Rattle.morsel_group.specs.Asked.{GroupShape}
use Rattle.morsel_group.specs.Grouping.{Grouped, in_order}
use Rattle.morsel_group.specs.Locals.{AreGroupsIfAny, HasOutput, HasShape, HasSums, HasTakenRows, IsSumFault, held_in}
use Rattle.morsel_group.proofs.LocalLemmas.{some_none}
use Rattle.morsel_group.proofs.local.finished_if_any.Goals as goal

pub finished-requires : goal.finished-requires
finished-requires c = subst AreGroupsIfAny c.in-Some.is c.requires

pub returns-in-Some-clause-schema : goal.returns-in-Some-clause-schema
returns-in-Some-clause-schema c = subst (λ (v : Option Groups). IfOk c.finished.result (λ frame. HasOutput (option_map held_in v) frame.schema)) (sym c.in-Some.is) c.finished.ensures.schema

pub returns-in-Some-clause-rows : goal.returns-in-Some-clause-rows
returns-in-Some-clause-rows c rows shape taken is =
    subst (λ (s : GroupShape). IfOk c.finished.result (λ frame. Grouped s (in_order rows) frame.rows)) (subst (λ (v : Option Groups). HasShape (option_map held_in v) shape) c.in-Some.is is)
    (c.finished.ensures.rows rows (subst (λ (v : Option Groups). HasTakenRows (option_map held_in v) rows) c.in-Some.is taken))

pub returns-in-Some-clause-fits : goal.returns-in-Some-clause-fits
returns-in-Some-clause-fits c rows shape taken is =
    subst (λ (s : GroupShape). OnOk c.finished.result (HasSums s rows)) (subst (λ (v : Option Groups). HasShape (option_map held_in v) shape) c.in-Some.is is)
    (c.finished.ensures.fits rows (subst (λ (v : Option Groups). HasTakenRows (option_map held_in v) rows) c.in-Some.is taken))

pub returns-in-Some-clause-few : goal.returns-in-Some-clause-few
returns-in-Some-clause-few c rows taken = c.finished.ensures.few rows (subst (λ (v : Option Groups). HasTakenRows (option_map held_in v) rows) c.in-Some.is taken)

pub returns-in-Some-clause-refused : goal.returns-in-Some-clause-refused
returns-in-Some-clause-refused c rows shape taken is =
    subst (λ (s : GroupShape). IfErr c.finished.result (IsSumFault s rows)) (subst (λ (v : Option Groups). HasShape (option_map held_in v) shape) c.in-Some.is is)
    (c.finished.ensures.refused rows (subst (λ (v : Option Groups). HasTakenRows (option_map held_in v) rows) c.in-Some.is taken))

pub returns-in-Some-clause-ended : goal.returns-in-Some-clause-ended
returns-in-Some-clause-ended c none = absurd (some_none (sym (ap (option_map held_in) c.in-Some.is) ∙ none))
