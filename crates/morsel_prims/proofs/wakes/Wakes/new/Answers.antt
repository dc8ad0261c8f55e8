use Rattle.std.proofs.Common.{rules, sym, subst, ◌≡◌, [], false}
use Rattle.std.specs.Prelude.{replicate}
use Rattle.morsel_prims.specs.Woken.{IsListed}
use Rattle.morsel_prims.proofs.WokenLemmas.{listed_none}
use Rattle.morsel_prims.proofs.wakes.Wakes.new.Goals as goal

pub invariant_of-result : goal.invariant_of-result
invariant_of-result c =
    let none : c.in_ok-numbers.numbers.items ≡ [] = search rules in let all : c.in_ok-listed.listed.items ≡ replicate c.args.tasks false = search rules in
    (subst (λ ns. IsListed ns c.in_ok-listed.listed.items) (sym none) (subst (λ bs. IsListed [] bs) (sym all) (listed_none c.args.tasks)), search rules)
