use Rattle.std.proofs.Common.{rules}
use Rattle.morsel_load.proofs.SourceSteps.{asks}
use Rattle.morsel_load.proofs.source_flag.raise.Goals as goal

pub fetch_or-requires : goal.fetch_or-requires
fetch_or-requires c = (search rules, search rules, asks _ _ _)
