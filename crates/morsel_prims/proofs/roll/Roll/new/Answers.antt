use Rattle.std.proofs.Common.{[], ◌∷◌}
use Rattle.morsel_prims.proofs.RowSteps.{opens}
use Rattle.morsel_prims.proofs.roll.Roll.new.Goals as goal

pub of_words-requires : goal.of_words-requires
of_words-requires g c = opens (0 ∷ []) []
