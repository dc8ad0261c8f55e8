use Rattle.std.proofs.Common.{subst, sym, ap}
use Rattle.morsel_frame.specs.Cells.{value_of}
use Rattle.morsel_meaning.specs.declared.value.Value.{Value}
use Rattle.morsel_keys.specs.Slots.{IsNewKey}
use Rattle.morsel_keys.specs.ColumnKeys.{stored_keys}
use Rattle.morsel_keys.proofs.ColumnKeyLemmas.{no_null}
use Rattle.morsel_keys.proofs.column_keys.find_alone.Goals as goal

pub returns-in-Null-clause-none : goal.returns-in-Null-clause-none
returns-in-Null-clause-none c = subst (λ (v : Value). IsNewKey v (stored_keys c.args.store.now)) (sym (ap value_of c.in-Null.is)) (no_null c.args.store.now)
