use Rattle.std.proofs.Common.{◌≡◌, List, subst, map, not, get_or, true, false, rules}
use Rattle.std.specs.Prelude.{Bool}
use Rattle.morsel_join.specs.Items.{JoinItem, LoneRight, places}
use Rattle.morsel_join.specs.Probes.{PutsItems}
use Rattle.morsel_join.proofs.join_rows.put_unpaired.Goals as goal
use Rattle.morsel_join.proofs.AgreeLemmas.{lone-unmarked}

pub returns-clause-ok : goal.returns-clause-ok
returns-clause-ok c =
    let wanted : c.args.wanted ≡ true = search rules in
    let put = subst (λ (xs : List Bool). PutsItems (map LoneRight (places (λ m. not (get_or xs m false)) 0 c.args.kept.now)) c.args.lefts.now.items c.args.rights.now.items c.put_lone.new.lefts.items c.put_lone.new.rights.items) c.deref.ensures.value c.in_ok-put_lone.ensures.ok in
    rw wanted (subst (λ (items : List JoinItem). PutsItems items c.args.lefts.now.items c.args.rights.now.items c.put_lone.new.lefts.items c.put_lone.new.rights.items)
    (lone-unmarked c.args.keys c.in_ok-seen.seen.items c.args.numbers.now c.args.kept.now c.in_ok-seen.ensures.ok) put)
