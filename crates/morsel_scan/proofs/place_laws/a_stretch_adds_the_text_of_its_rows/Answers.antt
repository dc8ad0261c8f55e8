-- The text that a stretch adds.
use Rattle.morsel_scan.proofs.TextLemmas.{text_goes_on}
use Rattle.morsel_scan.proofs.place_laws.a_stretch_adds_the_text_of_its_rows.Goals as goal

pub returns : goal.returns
returns c = text_goes_on
