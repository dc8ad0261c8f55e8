use Rattle.std.proofs.Common.{◌≡◌, take, map}
use Rattle.morsel_row_keys.specs.Chains.{blank_pairs}
use Rattle.morsel_row_keys.proofs.chain.blank_tables.Given as goal

abbrev pub invariant-loop-i : goal.invariant-loop-i
invariant-loop-i l = l.tables.items ≡ map blank_pairs (take l.i l.kinds)
