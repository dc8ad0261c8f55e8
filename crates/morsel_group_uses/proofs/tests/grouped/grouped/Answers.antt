use Rattle.std.proofs.Common.{◌≡◌, List, None, subst}
use Rattle.morsel_meaning.specs.declared.value.Field.{Field}
use Rattle.morsel_group.specs.GroupFlaws.{group_flaw}
use Rattle.morsel_group.proofs.LocalLemmas.{all_alike}
use Rattle.morsel_group_uses.proofs.tests.grouped.grouped.Goals as goal

pub parts_of-requires-clause-sound : goal.parts_of-requires-clause-sound
parts_of-requires-clause-sound c = subst (λ (fs : List Field). group_flaw fs c.args.spec.now ≡ None) c.schema.ensures c.in_ok-group_schema.ensures.refused

pub combine-requires-clause-alike : goal.combine-requires-clause-alike
combine-requires-clause-alike c = all_alike c.args.table.now.schema c.args.spec.now c.in_ok-locals.locals.items c.in_ok-locals.ensures.each
