use Rattle.std.proofs.Common.{◌<◌, length, arith}
use Rattle.morsel_expr.proofs.KeptLemmas.{count-more, rows-more, count-front}
use Rattle.morsel_expr.proofs.filters.write_rows.Goals as goal

pub loop-row-preserved : goal.loop-row-preserved
loop-row-preserved c =
    let room : c.loop-row.place < length c.loop-row.rows = omega (arith, count-front c.args.mask.now c.loop-row.row) in
    record {
      place = rw (c.from-place.ensures, c.is_true.ensures) (count-more _ c.loop-row.place c.args.mask.now c.loop-row.row c.loop-row-test.true c.loop-row.invariant.place);
      rows = rw (c.from-place.ensures, c.is_true.ensures) (rows-more _ c.loop-row.rows c.loop-row.place c.args.mask.now c.loop-row.row c.loop-row-test.true c.loop-row.invariant.rows room);
    }
