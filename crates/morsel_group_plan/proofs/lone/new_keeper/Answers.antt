use Rattle.std.proofs.Common.{◌≡◌, Some, sym, ap, ◌∙◌}
use Rattle.morsel_group_units.specs.GroupKeepers.{GroupKeeperSeen}
use Rattle.morsel_group_plan.proofs.lone.new_keeper.Goals as goal

pub returns-clause-rules : goal.returns-clause-rules
returns-clause-rules g c = c.in_ok-rules.ensures.rules ∙ ap Some (sym (ap (λ (keeper : GroupKeeperSeen). keeper.rules) c.in_ok-keeper.ensures.none ∙ c.deref.ensures))

pub returns-clause-none : goal.returns-clause-none
returns-clause-none g c = ap (λ (keeper : GroupKeeperSeen). keeper.taken) c.in_ok-keeper.ensures.none
