use Rattle.std.proofs.Common.{get_or, []}
use Rattle.morsel_meaning.specs.Values.{kinds_of}
use Rattle.morsel_keys.proofs.FitLemmas.{fits_at, fits_cells}
use Rattle.morsel_keys.proofs.table.KeyTable.insert.Goals as goal

pub insert_row-requires-clause-fits : goal.insert_row-requires-clause-fits
insert_row-requires-clause-fits c =
    rw (← c.requires.kinds) (fits_cells c.args.frame.now.schema (get_or c.args.frame.now.rows c.args.row []) c.args.columns.now
    (fits_at (kinds_of c.args.frame.now.schema) c.args.frame.now.rows c.args.row c.height-height.ensures.fits c.requires.row) c.requires.columns)
