use Rattle.std.proofs.Common.{subst}
use Rattle.morsel_keys.specs.Slots.{HasKeysEachOnce}
use Rattle.morsel_keys.specs.Keyed.{Keyed}
use Rattle.morsel_row_keys.proofs.RowLemmas.{row_keys_once}
use Rattle.morsel_row_keys.proofs.row_keys.RowKeys.len.Goals as goal

pub returns-clause-once : goal.returns-clause-once
returns-clause-once c = subst (λ (t : Keyed). HasKeysEachOnce t.keys) c.self.view_is (row_keys_once c.self.inside.first c.self.inside.more.items c.self.invariant)
