use Rattle.std.proofs.Common.{rules, ap}
use Rattle.morsel_prims.proofs.RowSteps.{adds, cuts}
use Rattle.morsel_prims.proofs.roll.Roll.add.Goals as goal

pub load-requires : goal.load-requires
load-requires g c = (search rules, search rules, adds _ _ _ _ (search rules))

pub split_seat-seat-requires : goal.split_seat-seat-requires
split_seat-seat-requires g c = (search rules, search rules, cuts _ _ (ap (λ m. m.0.has) c.load.ensures.2))
