use Rattle.std.proofs.Common.{rules}
use Rattle.morsel_prims.proofs.RowSteps.{lends, looks, cuts}
use Rattle.morsel_prims.proofs.roll.Roll.look.Goals as goal

pub join_seat-requires : goal.join_seat-requires
join_seat-requires g c = (search rules, search rules, search rules, search rules, lends _ _ _ _ (search rules))

pub load-requires : goal.load-requires
load-requires g c = (search rules, search rules, looks _ _ _ _ (search rules) (search rules))

pub split_seat-seat-requires : goal.split_seat-seat-requires
split_seat-seat-requires g c = (search rules, search rules, cuts _ _ (search rules))
