use Rattle.std.proofs.Common.{◌≡◌, None, sym, subst}
use Rattle.std.specs.Prelude.{Option, Err, IfOk}
use Rattle.morsel_meaning.specs.declared.fault.Fault.TheVariants.{OutOfMemory}
use Rattle.morsel_group.specs.Locals.{HasOutput, HasShape, HasTakenRows, HeldGroups}
use Rattle.morsel_group.proofs.local.LocalGroups.into_frame.Goals as goal

pub returns-clause-schema : goal.returns-clause-schema
returns-clause-schema c = subst (λ (v : Option HeldGroups). IfOk c.finished_if_any.result (λ frame. HasOutput v frame.schema)) c.self.view_is c.finished_if_any.ensures.schema

pub returns-clause-rows : goal.returns-clause-rows
returns-clause-rows c rows shape taken is =
    c.finished_if_any.ensures.rows rows shape (subst (λ (v : Option HeldGroups). HasTakenRows v rows) (sym c.self.view_is) taken) (subst (λ (v : Option HeldGroups). HasShape v shape) (sym c.self.view_is) is)

pub returns-clause-fits : goal.returns-clause-fits
returns-clause-fits c rows shape taken is =
    c.finished_if_any.ensures.fits rows shape (subst (λ (v : Option HeldGroups). HasTakenRows v rows) (sym c.self.view_is) taken) (subst (λ (v : Option HeldGroups). HasShape v shape) (sym c.self.view_is) is)

pub returns-clause-few : goal.returns-clause-few
returns-clause-few c rows taken = c.finished_if_any.ensures.few rows (subst (λ (v : Option HeldGroups). HasTakenRows v rows) (sym c.self.view_is) taken)

pub returns-clause-refused : goal.returns-clause-refused
returns-clause-refused c rows shape taken is =
    c.finished_if_any.ensures.refused rows shape (subst (λ (v : Option HeldGroups). HasTakenRows v rows) (sym c.self.view_is) taken) (subst (λ (v : Option HeldGroups). HasShape v shape) (sym c.self.view_is) is)

pub returns-clause-ended : goal.returns-clause-ended
returns-clause-ended c = subst (λ (v : Option HeldGroups). v ≡ None → c.finished_if_any.result ≡ Err OutOfMemory) c.self.view_is c.finished_if_any.ensures.ended
