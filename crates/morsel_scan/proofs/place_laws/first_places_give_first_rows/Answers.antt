-- What the first places give.
use Rattle.morsel_scan.proofs.StretchLemmas.{gives_front}
use Rattle.morsel_scan.proofs.place_laws.first_places_give_first_rows.Goals as goal

pub returns : goal.returns
returns c = gives_front
