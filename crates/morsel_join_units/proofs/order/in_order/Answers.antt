use Rattle.std.proofs.Common.{◌≡◌, [], List, sym, subst}
use Rattle.std.proofs.lemmas.List.Sorted.{All-permutation}
use Rattle.std.specs.List.{All}
use Rattle.morsel_meaning.specs.Values.{Table}
use Rattle.morsel_join.specs.BuildSides.{rows_of_tables}
use Rattle.morsel_join_units.specs.RowKeepers.{AreKeptOf}
use Rattle.morsel_join_units.proofs.OrderLemmas.{columns-all, gives-all}
use Rattle.morsel_join_units.proofs.order.in_order.Goals as goal

pub returns-clause-gives : goal.returns-clause-gives
returns-clause-gives g c =
    λ job columns are all.
    subst (λ (ts : List Table). g.J.RowsJob.gives job 0 c.args.given (rows_of_tables ts)) (sym c.in_ok-frames.ensures.frames)
    (gives-all g.J.LoadJob.suits g.J.RowsJob.gives job (λ frame seq source stretch suits. g.met.J.RowsJob.rows_are job columns frame seq source stretch are suits) (λ from mid to before after first next. g.J.RowsJob.gives_next job columns from mid to before after are first next)
    c.in_ok-rows.rows.items [] 0 c.args.given (All-permutation (AreKeptOf g.J.LoadJob.suits job) c.args.kept.items c.in_ok-rows.rows.items c.in_ok-rows.ensures.same all) c.in_ok-frames.ensures.follow (g.J.RowsJob.gives_none job columns are))

pub returns-clause-columns : goal.returns-clause-columns
returns-clause-columns g c =
    λ job columns are all.
    subst (λ (ts : List Table). All (λ (t : Table). t.schema ≡ columns) ts) (sym c.in_ok-frames.ensures.frames)
    (columns-all g.J.LoadJob.suits job columns (λ load suits. g.met.J.RowsJob.are_rows job columns load are suits) c.in_ok-rows.rows.items (All-permutation (AreKeptOf g.J.LoadJob.suits job) c.args.kept.items c.in_ok-rows.rows.items c.in_ok-rows.ensures.same all))
