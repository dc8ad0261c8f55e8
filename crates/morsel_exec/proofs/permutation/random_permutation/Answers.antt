use Rattle.std.proofs.Common.{arith, subst, sym}
use Rattle.std.proofs.Common.{◌<◌}
use Rattle.morsel_exec.proofs.PermutationLemmas.{each_once, odd_word, part_below}
use Rattle.morsel_exec.proofs.permutation.random_permutation.Goals as goal

pub returns-clause-each_once : goal.returns-clause-each_once
returns-clause-each_once g c =
    each_once _ (omega arith) c.least_width-width.ensures.least.enough (odd_word c.next_u32-odd1.result) (odd_word c.next_u32-odd2.result)
    (λ positive. subst (λ n. n < c.args.len) (sym c.part_of-first.ensures.part) (part_below c.next_u32.result c.args.len c.next_u32.type_inv positive))
