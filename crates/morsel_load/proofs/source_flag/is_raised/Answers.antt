use Rattle.std.proofs.Common.{rules}
use Rattle.morsel_load.proofs.SourceSteps.{looks}
use Rattle.morsel_load.proofs.source_flag.is_raised.Goals as goal

pub load-requires : goal.load-requires
load-requires c = (search rules, search rules, looks _ _ _)
