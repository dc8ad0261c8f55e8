use Rattle.morsel_exec.proofs.WordLemmas.{hands_out_once, rights_balance}
use Rattle.morsel_exec.proofs.laws.the_right_is_handed_out_once.Goals as goal

pub returns-clause-apart : goal.returns-clause-apart
returns-clause-apart c = hands_out_once

pub returns-clause-balance : goal.returns-clause-balance
returns-clause-balance c = rights_balance
