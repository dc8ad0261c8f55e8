use Rattle.std.proofs.Common.{arith, true, false, [], ◌∷◌, ◌+◌}
use Rattle.morsel_words.specs.declared.view.Found.TheVariants as found
use Rattle.morsel_words.proofs.SinceLemmas.{follows_more, waiter_more}
use Rattle.morsel_words.proofs.taking.wait_to_take.Goals as goal

pub returns-in-Ok-clause-follows : goal.returns-in-Ok-clause-follows
returns-in-Ok-clause-follows g c = follows_more _ _ _ (found.Held true) (grind arith) c.take.ensures.follows

pub returns-in-Ok-clause-waiter : goal.returns-in-Ok-clause-waiter
returns-in-Ok-clause-waiter g c = waiter_more _ _ _ (found.Held true) (grind arith) found.Took _ c.take.ensures.waiter

pub returns-in-Err-Empty-clause-follows : goal.returns-in-Err-Empty-clause-follows
returns-in-Err-Empty-clause-follows g c = (found.Waits (c.args.me.0 + 1) ∷ found.Empty ∷ [], grind arith)

pub returns-in-Err-Empty-clause-refused : goal.returns-in-Err-Empty-clause-refused
returns-in-Err-Empty-clause-refused g c = (grind arith, (found.Waits (c.args.me.0 + 1) ∷ [], [], grind arith))

pub returns-in-Err-Whole-clause-follows : goal.returns-in-Err-Whole-clause-follows
returns-in-Err-Whole-clause-follows g c = (found.Ended true ∷ [], grind arith)

pub returns-in-Err-Cut-clause-follows : goal.returns-in-Err-Cut-clause-follows
returns-in-Err-Cut-clause-follows g c = (found.Ended false ∷ [], grind arith)

pub returns-in-Err-Empty-clause-registered : goal.returns-in-Err-Empty-clause-registered
returns-in-Err-Empty-clause-registered g c = ([], found.Empty ∷ [], grind arith)
