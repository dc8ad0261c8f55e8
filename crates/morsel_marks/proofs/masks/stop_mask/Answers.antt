use Rattle.std.proofs.lemmas.List.{length-take-le}
use Rattle.morsel_marks.proofs.MaskLemmas.{either_of_lane}
use Rattle.morsel_marks.proofs.masks.stop_mask.Goals as goal

pub returns : goal.returns
returns c = either_of_lane c.args.separator c.args.eol _ (length-take-le 64 c.args.lane.now c.requires)
