use Rattle.std.proofs.Common.{rules, Some, refl, ap, ◌∙◌, sym}
use Rattle.morsel_frame.specs.Cells.{value_of}
use Rattle.morsel_keys.specs.ColumnKeys.{stored_keys}
use Rattle.morsel_keys.proofs.HeldLemmas.{shifted_is, new_with_null}
use Rattle.morsel_keys.proofs.ColumnKeyLemmas.{get_null}
use Rattle.morsel_keys.proofs.column_keys.find_beside.Goals as goal

pub returns-in-Null-clause-some : goal.returns-in-Null-clause-some
returns-in-Null-clause-some c = get_null c.args.store.now c.args.null c.args.null c.requires.place refl ∙ ap Some (sym (ap value_of c.in-Null.is))

pub returns-in-Some-clause-some : goal.returns-in-Some-clause-some
returns-in-Some-clause-some c = rw c.shift.ensures (shifted_is (Some c.args.null) (stored_keys c.args.store.now) c.in-Some.at _ c.requires.place c.in-Some.ensures.some)

pub returns-in-None-clause-none : goal.returns-in-None-clause-none
returns-in-None-clause-none c = new_with_null (Some c.args.null) (stored_keys c.args.store.now) (value_of c.args.cell) c.requires.place (search rules) c.in-None.ensures.none
