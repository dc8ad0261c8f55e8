-- What all places give.
use Rattle.morsel_scan.proofs.StretchLemmas.{gives_all}
use Rattle.morsel_scan.proofs.place_laws.all_places_give_all_rows.Goals as goal

pub returns : goal.returns
returns c = gives_all
