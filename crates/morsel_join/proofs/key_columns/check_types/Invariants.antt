use Rattle.std.proofs.Common.{◌≡◌, drop}
use Rattle.morsel_join.specs.Payloads.{type_fault}
use Rattle.morsel_join.proofs.key_columns.check_types.Given as goal

abbrev pub invariant-loop-at : goal.invariant-loop-at
invariant-loop-at l = type_fault l.keys l.kinds l.others ≡ type_fault (drop l.at l.keys) (drop l.at l.kinds) (drop l.at l.others)
