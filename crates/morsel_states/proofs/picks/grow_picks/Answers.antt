use Rattle.std.proofs.Common.{arith, ap, [], ◌∷◌, ◌++◌, ◌∙◌, None}
use Rattle.morsel_states.proofs.RowLemmas.{one_more, enough}
use Rattle.morsel_states.proofs.picks.grow_picks.Goals as goal

pub loop-at-preserved : goal.loop-at-preserved
loop-at-preserved c = record {
  after = omega (arith, c.loop-at.invariant.after);
  within = omega arith;
  done = c.in_default.ensures.ok ∙ ap (λ xs. xs ++ None ∷ []) c.loop-at.invariant.done ∙ one_more c.args.picks.now.items None c.loop-at.at c.loop-at.invariant.after;
}

pub returns-clause-ok : goal.returns-clause-ok
returns-clause-ok c = c.loop-at.invariant.done ∙ enough c.args.picks.now.items None c.args.groups c.loop-at.at (omega arith) c.loop-at.invariant.within
