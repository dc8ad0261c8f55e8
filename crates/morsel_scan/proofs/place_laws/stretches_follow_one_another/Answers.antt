use Rattle.morsel_scan.proofs.StretchLemmas.{gives_on}
use Rattle.morsel_scan.proofs.place_laws.stretches_follow_one_another.Goals as goal

pub returns : goal.returns
returns c = gives_on
