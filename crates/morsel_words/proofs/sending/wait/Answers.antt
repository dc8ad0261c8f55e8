use Rattle.std.proofs.Common.{arith, [], ◌+◌}
use Rattle.std.proofs.Common.{◌∷◌}
use Rattle.morsel_words.specs.declared.view.Found.TheVariants as found
use Rattle.morsel_words.proofs.SinceLemmas.{follows_more, found_more, waiter_more}
use Rattle.morsel_words.proofs.sending.wait.Goals as goal

pub returns-then-has-clause-follows : goal.returns-then-has-clause-follows
returns-then-has-clause-follows g c = (found.Closed ∷ [], grind arith)

pub returns-then-has-clause-closed : goal.returns-then-has-clause-closed
returns-then-has-clause-closed g c = ([], [], grind arith)

pub returns-then-has-2-clause-follows : goal.returns-then-has-2-clause-follows
returns-then-has-2-clause-follows g c = (found.Waits (c.args.me.0 + 1) ∷ found.Full ∷ [], grind arith)

pub returns-then-has-2-clause-full : goal.returns-then-has-2-clause-full
returns-then-has-2-clause-full g c = (found.Waits (c.args.me.0 + 1) ∷ [], [], grind arith)

pub returns-in-Ok-clause-follows : goal.returns-in-Ok-clause-follows
returns-in-Ok-clause-follows g c = follows_more _ _ _ found.Room (grind arith) c.give.ensures.follows

pub returns-in-Ok-clause-waiter : goal.returns-in-Ok-clause-waiter
returns-in-Ok-clause-waiter g c = waiter_more _ _ _ found.Room (grind arith) found.Sent _ c.in-Ok.ensures.waiter

pub returns-in-Err-clause-follows : goal.returns-in-Err-clause-follows
returns-in-Err-clause-follows g c = follows_more _ _ _ found.Room (grind arith) c.give.ensures.follows

pub returns-in-Err-clause-closed : goal.returns-in-Err-clause-closed
returns-in-Err-clause-closed g c = found_more _ _ _ found.Room (grind arith) _ c.in-Err.ensures.closed

pub returns-then-has-2-clause-registered : goal.returns-then-has-2-clause-registered
returns-then-has-2-clause-registered g c = ([], found.Full ∷ [], grind arith)
