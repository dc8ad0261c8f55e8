use Rattle.std.proofs.Common.{rules, refl, ap, ◌∙◌}
use Rattle.morsel_merge.proofs.LogSteps.{appends}
use Rattle.morsel_merge.proofs.log.Log.write.Goals as goal

pub compare_exchange_with-requires : goal.compare_exchange_with-requires
compare_exchange_with-requires g c = (search rules, search rules, appends _ _ _ _ _)

pub invariant_of-self : goal.invariant_of-self
invariant_of-self g c = let w = c.compare_exchange_with.ensures.2 _ refl in record {
  one_word = search rules;
  seated = search rules;
  holds = ap (λ m. m.1) w ∙ search rules;
}
