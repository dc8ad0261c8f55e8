use Rattle.std.proofs.Common.{rules}
use Rattle.morsel_load.proofs.SourceSteps.{shares}
use Rattle.morsel_load.proofs.source_flag.share.Goals as goal

pub split_seat-requires : goal.split_seat-requires
split_seat-requires c = (search rules, search rules, shares _ _)
