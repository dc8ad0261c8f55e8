use Rattle.morsel_exec.proofs.PermutationLemmas.{least_width}
use Rattle.morsel_exec.proofs.permutation.least_width.Goals as goal

pub returns-clause-least : goal.returns-clause-least
returns-clause-least c = least_width c.args.len c.ilog2.result c.if-len-le1.false c.ilog2.ensures.power_le c.ilog2.ensures.next_power_gt
