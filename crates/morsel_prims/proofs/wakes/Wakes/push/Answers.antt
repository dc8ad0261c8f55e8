use Rattle.std.proofs.Common.{rules, sym, subst, set, ◌≡◌, true, slice_index_or}
use Rattle.morsel_prims.specs.Woken.{IsListed}
use Rattle.morsel_prims.proofs.WokenLemmas.{listed_push}
use Rattle.morsel_prims.proofs.wakes.Wakes.push.Goals as goal

pub invariant_of-self : goal.invariant_of-self
invariant_of-self c =
    let off = sym (subst (λ b. b ≡ slice_index_or c.self.inside.listed.items c.args.task.0 b) c.if-index.false c.index.ensures) in
    (subst (λ ns. IsListed ns (set c.self.inside.listed.items c.args.task.0 true)) (sym c.push_reserved.ensures.items) (listed_push _ _ _ c.self.invariant.0 (search rules) off), search rules)
