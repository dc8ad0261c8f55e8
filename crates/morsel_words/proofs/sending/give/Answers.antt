use Rattle.std.proofs.Common.{arith, true, false, [], ◌∷◌}
use Rattle.morsel_words.specs.declared.view.Found.TheVariants as found
use Rattle.morsel_words.proofs.sending.give.Goals as goal

pub take_back-requires-clause-slot : goal.take_back-requires-clause-slot
take_back-requires-clause-slot g c = (c.args.value, grind arith)

pub returns-then-has-clause-follows : goal.returns-then-has-clause-follows
returns-then-has-clause-follows g c = (found.Closed ∷ [], grind arith)

pub returns-then-has-clause-closed : goal.returns-then-has-clause-closed
returns-then-has-clause-closed g c = ([], [], grind arith)

pub returns-then-not-has-clause-follows : goal.returns-then-not-has-clause-follows
returns-then-not-has-clause-follows g c = (found.Sent false ∷ [], grind arith)

pub returns-clause-follows : goal.returns-clause-follows
returns-clause-follows g c = (found.Waiter c.take_waiter.result ∷ found.Sent true ∷ [], grind arith)
