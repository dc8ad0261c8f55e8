-- What places after the last row give.
use Rattle.morsel_scan.proofs.AxisEndLemmas.{gives_nothing_at_end}
use Rattle.morsel_scan.proofs.place_laws.nothing_is_given_after_the_last_row.Goals as goal

pub returns : goal.returns
returns c = λ s fit. gives_nothing_at_end s fit
