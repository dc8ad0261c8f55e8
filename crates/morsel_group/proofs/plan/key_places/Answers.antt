use Rattle.morsel_group.proofs.PlanLemmas.{keys_refused}
use Rattle.morsel_group.proofs.plan.key_places.Goals as goal

pub returns-in-Err-clause-refused : goal.returns-in-Err-clause-refused
returns-in-Err-clause-refused c = keys_refused (Unit {0}) (Unit {0}) c.args.input.now c.args.names.now c.loop-name.name-index c.name-item.result c.in-Err.fault c.loop-name-test.true c.name-item.is c.loop-name.invariant.absent c.in-Err.ensures.refused
