use Rattle.std.proofs.Common.{refl}
use Rattle.std.specs.Prelude.{Some}
use Rattle.morsel_text.proofs.StepLemmas.{row_read}
use Rattle.morsel_text.proofs.read.read_row.Goals as goal

pub returns-in-Row : goal.returns-in-Row
returns-in-Row c =
    let row = rw c.in-Row.is at c.in_ok-push_record.ensures.row in
    (Some row.1, (refl, row.4, row.5), row_read c.args.reader.now.used.now c.args.at _ row.0 row.1 row.2 row.3)
