use Rattle.std.proofs.Common.{List, map, subst}
use Rattle.morsel_meaning.specs.Values.{Row}
use Rattle.morsel_frame.specs.Tables.{cells_at}
use Rattle.morsel_keys.specs.Slots.{NumbersAll}
use Rattle.morsel_join.proofs.build.fill_numbers.Goals as goal
use Rattle.morsel_join.proofs.BuildLemmas.{numbers-masked}

pub returns-clause-ok : goal.returns-clause-ok
returns-clause-ok c =
    numbers-masked c.args.nulls c.args.frame.now.rows c.args.columns.now c.number_rows.new.numbers c.mask_nulls.new.numbers c.number_rows.new.keys.keys
    (subst (λ (ks : List Row). NumbersAll ks (map (cells_at c.args.columns.now) c.args.frame.now.rows) c.number_rows.new.numbers c.number_rows.new.keys.keys) c.requires.blank c.in_ok-number_rows.ensures.ok)
    c.mask_nulls.ensures.masked
