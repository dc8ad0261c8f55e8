use Rattle.std.proofs.Common.{ap, arith, sym, ◌∙◌, ◌<◌, ◌++◌, map, length, get_or, List, refl}
use Rattle.morsel_meaning.specs.Values.{Row}
use Rattle.morsel_frame.specs.Tables.{cells_at, rows_at}
use Rattle.morsel_group.specs.Fresh.{fresh_from}
use Rattle.morsel_group.specs.Arrivals.{keyed_in}
use Rattle.morsel_group.proofs.FreshLemmas.{stops_many, fresh_keys, numbers_below, numbers_longer}
use Rattle.morsel_group.proofs.fresh.take_keys.Goals as goal

pub returns-in-Err-clause-refused : goal.returns-in-Err-clause-refused
returns-in-Err-clause-refused c = stops_many (keyed_in c.args.table.now).keys (map (cells_at c.args.places.now) c.args.frame.now.rows) c.in-Err.fault (keyed_in c.number_rows.new.table).keys c.in-Err.ensures.numbers

pub put_keys-requires-clause-each : goal.put_keys-requires-clause-each
put_keys-requires-clause-each c k d within =
    let low : get_or c.number_rows.new.out k d < length (keyed_in c.number_rows.new.table).keys = numbers_below (keyed_in c.args.table.now).keys (map (cells_at c.args.places.now) c.args.frame.now.rows) c.number_rows.new.out (keyed_in c.number_rows.new.table).keys c.in-Ok.ensures.numbers k d within in
    omega (arith, low, c.count_keys-count.ensures.len)

pub returns-clause-rows : goal.returns-clause-rows
returns-clause-rows c =
    let old = (keyed_in c.args.table.now).keys in
    let new = (keyed_in c.number_rows.new.table).keys in
    let keys = c.args.keys.now in
    let f = cells_at c.args.places.now in
    let arrived = fresh_keys f c.args.frame.now.rows old c.args.frame.now.rows 0 c.number_rows.new.out new refl c.in-Ok.ensures.numbers in
    c.in_ok-put_keys.ensures.ok
    ∙ ap (λ (rs : List Row). record keys { rows = rs })
    (ap (λ n. keys.rows ++ map f (rows_at c.args.frame.now.rows (fresh_from n 0 c.number_rows.new.out))) c.count_keys-known.ensures.len
    ∙ ap (λ (rs : List Row). rs ++ map f (rows_at c.args.frame.now.rows (fresh_from (length old) 0 c.number_rows.new.out))) c.requires.rows
    ∙ sym arrived)

pub returns-clause-longer : goal.returns-clause-longer
returns-clause-longer c =
    let n = numbers_longer (keyed_in c.args.table.now).keys (map (cells_at c.args.places.now) c.args.frame.now.rows) c.number_rows.new.out (keyed_in c.number_rows.new.table).keys c.in-Ok.ensures.numbers in
    omega (arith, n, c.count_keys-count.ensures.len)

pub returns-clause-each : goal.returns-clause-each
returns-clause-each c k d within =
    let low : get_or c.number_rows.new.out k d < length (keyed_in c.number_rows.new.table).keys = numbers_below (keyed_in c.args.table.now).keys (map (cells_at c.args.places.now) c.args.frame.now.rows) c.number_rows.new.out (keyed_in c.number_rows.new.table).keys c.in-Ok.ensures.numbers k d within in
    omega (arith, low, c.count_keys-count.ensures.len)
