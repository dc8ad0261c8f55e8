use Rattle.std.proofs.Common.{◌≡◌, None, Some, sym, ◌∙◌}
use Rattle.morsel_group_node.proofs.node.GroupByNodeTokenComputeNode.initialize.Goals as goal

pub returns-clause-stays : goal.returns-clause-stays
returns-clause-stays g c begun stays = (λ x is. absurd (let none : None ≡ Some x = sym c.requires.once ∙ stays.0 x is in cc), stays.1)
