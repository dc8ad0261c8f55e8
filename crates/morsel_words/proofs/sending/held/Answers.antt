use Rattle.std.proofs.Common.{arith, refl, true, false, []}
use Rattle.morsel_words.proofs.sending.held.Goals as goal

pub returns-then-has-clause-held : goal.returns-then-has-clause-held
returns-then-has-clause-held g c = (true, ([], [], grind arith), refl)

pub returns-else-has-clause-held : goal.returns-else-has-clause-held
returns-else-has-clause-held g c = (false, ([], [], grind arith), refl)
