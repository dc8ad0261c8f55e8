use Rattle.std.proofs.Common.{◌∙◌, List, ap, arith}
use Rattle.morsel_meaning.specs.Values.{Row, Table}
use Rattle.morsel_join.proofs.FindLemmas.{gathered-straight}
use Rattle.morsel_join.proofs.build_side.gather_straight.Goals as goal

pub returns-clause-ok : goal.returns-clause-ok
returns-clause-ok c = λ items left right.
    let rules = c.args.rules.now in
    c.in_ok-out.ensures.ok ∙ ap (λ (rows : List Row). record { schema = rules.output; rows = rows }) (gathered-straight rules c.args.asked.now c.args.kept.now c.args.asked_rows.now c.args.kept_rows.now items left right (omega (arith, c.requires.asked_short)) (omega (arith, c.requires.kept_short)))

pub returns-clause-schema : goal.returns-clause-schema
returns-clause-schema c = ap (λ (t : Table). t.schema) c.in_ok-out.ensures.ok
