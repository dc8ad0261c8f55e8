use Rattle.std.proofs.Common.{subst}
use Rattle.morsel_keys.specs.Slots.{HasKeysEachOnce}
use Rattle.morsel_row_keys.specs.Pairs.{PairList}
use Rattle.morsel_row_keys.proofs.PairLemmas.{pairs_once}
use Rattle.morsel_row_keys.proofs.pair_keys.PairKeys.len.Goals as goal

pub returns-clause-once : goal.returns-clause-once
returns-clause-once c = subst (λ (keys : PairList). HasKeysEachOnce keys.pairs) c.self.view_is (pairs_once c.self.inside.seconds c.self.inside.words c.self.invariant)
