use Rattle.std.proofs.Common.{◌≡◌, List, None, sym, subst}
use Rattle.morsel_meaning.specs.declared.value.Field.{Field}
use Rattle.morsel_group.specs.GroupFlaws.{group_flaw}
use Rattle.morsel_group.specs.Locals.{TakesColumns}
use Rattle.morsel_group.proofs.LocalLemmas.{takes_asked}
use Rattle.morsel_group_uses.proofs.tests.grouped.whole_of.Goals as goal

pub new-requires-clause-sound : goal.new-requires-clause-sound
new-requires-clause-sound c = subst (λ (fs : List Field). group_flaw fs c.args.spec.now ≡ None) (sym c.schema.ensures) c.requires.sound

pub insert-requires : goal.insert-requires
insert-requires c = record {
  columns = subst (λ (fs : List Field). TakesColumns fs c.in_ok-local.local) c.schema.ensures (takes_asked c.schema.result.now c.args.spec.now c.in_ok-local.local c.in_ok-local.ensures.group_by);
}
