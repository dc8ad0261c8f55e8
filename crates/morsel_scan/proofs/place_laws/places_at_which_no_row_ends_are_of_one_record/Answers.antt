-- Places at which no row ends.
use Rattle.morsel_scan.proofs.AxisRowLemmas.{ends_each_row}
use Rattle.morsel_scan.proofs.place_laws.places_at_which_no_row_ends_are_of_one_record.Goals as goal

pub returns : goal.returns
returns c = λ s. ends_each_row s
