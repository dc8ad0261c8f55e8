use Rattle.morsel_meaning.proofs.InterleavingLemmas.{interleaves_often, interleaves_growing}
use Rattle.morsel_meaning.proofs.laws.lists_interleave.Goals as goal

pub returns-clause-often : goal.returns-clause-often
returns-clause-often given c = interleaves_often

pub returns-clause-growing : goal.returns-clause-growing
returns-clause-growing given c = interleaves_growing
