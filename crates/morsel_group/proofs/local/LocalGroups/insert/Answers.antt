use Rattle.std.proofs.Common.{◌≡◌, ◌++◌, ℕ, None, length, sym, subst}
use Rattle.std.specs.Prelude.{Option, Err, IfErr, OnOk, option_map}
use Rattle.morsel_meaning.specs.declared.fault.Fault.TheVariants.{OutOfMemory}
use Rattle.morsel_keys.specs.Reductions.{input_place}
use Rattle.morsel_group.specs.Takes.{placed_rows}
use Rattle.morsel_group.specs.Locals.{HasShape, HasTakenRows, HeldGroups, IsGroupFault, StaysGroupBy, TakesColumns, held_in}
use Rattle.morsel_group.proofs.local.LocalGroups.insert.Goals as goal

pub insert_rows-requires-clause-columns : goal.insert_rows-requires-clause-columns
insert_rows-requires-clause-columns c = subst (λ (v : Option HeldGroups). TakesColumns c.args.frame.now.schema v) (sym c.self.view_is) c.requires.columns

pub returns-clause-same : goal.returns-clause-same
returns-clause-same c = subst (λ (v : Option HeldGroups). OnOk c.insert_rows.result (StaysGroupBy v (option_map held_in c.insert_rows.new.groups))) c.self.view_is c.insert_rows.ensures.same

pub returns-clause-rows : goal.returns-clause-rows
returns-clause-rows c rows taken =
    subst (λ (n : ℕ). OnOk c.insert_rows.result (HasTakenRows (option_map held_in c.insert_rows.new.groups) (rows ++ placed_rows (input_place n (length rows)) c.args.frame.now.rows))) c.to_u64.ensures
    (c.insert_rows.ensures.rows rows (subst (λ (v : Option HeldGroups). HasTakenRows v rows) (sym c.self.view_is) taken))

pub returns-clause-refused : goal.returns-clause-refused
returns-clause-refused c rows shape taken is =
    subst (λ (n : ℕ). IfErr c.insert_rows.result (IsGroupFault shape (rows ++ placed_rows (input_place n (length rows)) c.args.frame.now.rows))) c.to_u64.ensures
    (c.insert_rows.ensures.refused rows shape (subst (λ (v : Option HeldGroups). HasTakenRows v rows) (sym c.self.view_is) taken) (subst (λ (v : Option HeldGroups). HasShape v shape) (sym c.self.view_is) is))

pub returns-clause-ended : goal.returns-clause-ended
returns-clause-ended c = subst (λ (v : Option HeldGroups). v ≡ None → c.insert_rows.result ≡ Err OutOfMemory) c.self.view_is c.insert_rows.ensures.ended
