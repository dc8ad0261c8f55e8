use Rattle.std.proofs.Common.{◌≡◌, List, None, sym, subst}
use Rattle.morsel_meaning.specs.declared.value.Field.{Field}
use Rattle.morsel_group.specs.GroupFlaws.{group_flaw}
use Rattle.morsel_group.specs.Locals.{IsGroupBy}
use Rattle.morsel_group.proofs.LocalLemmas.{still_asked, takes_asked}
use Rattle.morsel_group_uses.proofs.tests.grouped.part_of.Goals as goal

pub new-requires-clause-sound : goal.new-requires-clause-sound
new-requires-clause-sound c = subst (λ (fs : List Field). group_flaw fs c.args.spec.now ≡ None) (sym c.schema.ensures) c.requires.sound

pub loop-i-init : goal.loop-i-init
loop-i-init c = subst (λ (fs : List Field). IsGroupBy fs c.args.spec.now c.in_ok-local.local) c.schema.ensures c.in_ok-local.ensures.group_by

pub put_rows-requires-clause-columns : goal.put_rows-requires-clause-columns
put_rows-requires-clause-columns c = takes_asked c.args.table.now.schema c.args.spec.now c.loop-i.local c.loop-i.invariant

pub loop-i-preserved : goal.loop-i-preserved
loop-i-preserved c = still_asked c.args.table.now.schema c.args.spec.now c.loop-i.local c.put_rows.new.local c.loop-i.invariant c.in_ok-put_rows.ensures
