use Rattle.morsel_group.specs.Locals.{held_in}
use Rattle.morsel_group.proofs.LocalLemmas.{alike_next}
use Rattle.morsel_group.proofs.local.joined_both.Goals as goal

pub returns-in-Ok-clause-alike : goal.returns-in-Ok-clause-alike
returns-in-Ok-clause-alike c held is = alike_next (held_in c.args.groups) (held_in c.args.other) (held_in c.put_groups.new.groups) held c.requires.alike c.in-Ok.ensures.same is
