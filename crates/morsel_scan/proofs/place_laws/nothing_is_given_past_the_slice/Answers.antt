-- What places past the slice give.
use Rattle.morsel_scan.proofs.AxisEndLemmas.{gives_nothing_past_slice}
use Rattle.morsel_scan.proofs.place_laws.nothing_is_given_past_the_slice.Goals as goal

pub returns : goal.returns
returns c = λ s fit. gives_nothing_past_slice s fit
