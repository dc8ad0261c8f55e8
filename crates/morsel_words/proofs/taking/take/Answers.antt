use Rattle.std.proofs.Common.{arith, true, false, [], ◌∷◌}
use Rattle.morsel_words.specs.declared.view.Found.TheVariants as found
use Rattle.morsel_words.proofs.taking.take.Goals as goal

pub returns-then-not-empty_lane-clause-follows : goal.returns-then-not-empty_lane-clause-follows
returns-then-not-empty_lane-clause-follows g c = (found.Took false ∷ [], grind arith)

pub returns-clause-follows : goal.returns-clause-follows
returns-clause-follows g c = (found.Waiter c.take_sender.result ∷ found.Took true ∷ [], grind arith)
