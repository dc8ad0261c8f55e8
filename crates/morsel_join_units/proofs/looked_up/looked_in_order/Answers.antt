use Rattle.std.proofs.lemmas.List.Sorted.{All-permutation}
use Rattle.morsel_join_units.specs.LookedUps.{AreLookedUpOf}
use Rattle.morsel_join_units.proofs.LookedLemmas.{gives-looked, hit-along}
use Rattle.morsel_join_units.proofs.looked_up.looked_in_order.Goals as goal

pub returns-clause-gives : goal.returns-clause-gives
returns-clause-gives g c =
    λ job columns are all.
    rw c.of-ordered.ensures
    (gives-looked g.J.LoadJob.suits g.J.RowsJob.gives job (λ frame seq source stretch suits. g.met.J.RowsJob.rows_are job columns frame seq source stretch are suits) (λ from mid to before after first next. g.J.RowsJob.gives_next job columns from mid to before after are first next)
    (g.J.RowsJob.gives_none job columns are) c.in_ok-loads.loads.items c.args.given (All-permutation (AreLookedUpOf g.J.LoadJob.suits job) c.args.looked.items c.in_ok-loads.loads.items c.in_ok-loads.ensures.same all) c.in_ok-follow_up.ensures.follow)

pub returns-clause-hit : goal.returns-clause-hit
returns-clause-hit g c =
    λ build marks hit.
    rw c.of-ordered.ensures (hit-along build marks c.args.looked.items c.in_ok-loads.loads.items c.in_ok-loads.ensures.same hit)
