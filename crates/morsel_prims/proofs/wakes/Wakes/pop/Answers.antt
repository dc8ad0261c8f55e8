use Rattle.std.proofs.Common.{rules, subst}
use Rattle.morsel_prims.specs.Woken.{IsListed}
use Rattle.morsel_prims.proofs.WokenLemmas.{listed_pop, listed_within, once-front}
use Rattle.morsel_prims.proofs.wakes.Wakes.pop.Goals as goal

pub invariant_of-self-2 : goal.invariant_of-self-2
invariant_of-self-2 c =
    let listed = subst (λ ns. IsListed ns c.self.inside.listed.items) c.in_ok-number.ensures.items c.self.invariant.0 in (listed_pop _ _ _ listed (listed_within _ _ _ listed), search rules)

pub returns-clause-once : goal.returns-clause-once
returns-clause-once c =
    let listed = subst (λ ns. IsListed ns c.self.inside.listed.items) c.in_ok-number.ensures.items c.self.invariant.0 in let within = listed_within _ _ _ listed in
    let front = once-front _ _ listed.once in (search rules, front.0)
