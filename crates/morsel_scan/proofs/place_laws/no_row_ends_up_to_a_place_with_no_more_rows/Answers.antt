-- Places with as many rows before them.
use Rattle.morsel_scan.proofs.RowEndLemmas.{ends_no_more_rows}
use Rattle.morsel_scan.proofs.place_laws.no_row_ends_up_to_a_place_with_no_more_rows.Goals as goal

pub returns : goal.returns
returns c = λ s fit. ends_no_more_rows s fit
