-- Rows in the midst of a stretch.
use Rattle.morsel_scan.proofs.StretchLemmas.{gives_midst}
use Rattle.morsel_scan.proofs.place_laws.a_part_of_a_stretch_has_its_place.Goals as goal

pub returns : goal.returns
returns c = gives_midst
