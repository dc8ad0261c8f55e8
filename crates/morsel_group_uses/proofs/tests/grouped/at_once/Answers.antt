use Rattle.std.proofs.Common.{◌≡◌, List, None, subst}
use Rattle.morsel_meaning.specs.declared.value.Field.{Field}
use Rattle.morsel_group.specs.GroupFlaws.{group_flaw}
use Rattle.morsel_group_uses.proofs.tests.grouped.at_once.Goals as goal

pub whole_of-requires-clause-sound : goal.whole_of-requires-clause-sound
whole_of-requires-clause-sound c = subst (λ (fs : List Field). group_flaw fs c.args.spec.now ≡ None) c.schema.ensures c.in_ok-group_schema.ensures.refused
