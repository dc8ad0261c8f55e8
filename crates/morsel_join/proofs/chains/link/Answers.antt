use Rattle.std.proofs.Common.{rules, get_or, ◌+◌, ◌<◌, ◌∙◌, length}
use Rattle.std.proofs.lemmas.Grind.{get_or_default_zero}
use Rattle.morsel_join.proofs.chains.link.Goals as goal
use Rattle.morsel_join.proofs.ChainSteps.{chained_more}

pub returns-clause-chained : goal.returns-clause-chained
returns-clause-chained c =
    let key : get_or c.args.numbers.now c.args.row 0 < length c.args.first.now.items = search rules in
    chained_more c.args.numbers.now c.args.first.now.items c.args.next.now.items c.args.row (get_or c.args.numbers.now c.args.row 0) c.index.result.now (c.args.row + 1) (search rules)
    (c.index.ensures ∙ get_or_default_zero c.args.first.now.items (get_or c.args.numbers.now c.args.row 0) c.index.result.now key) (search rules) c.requires.within key c.requires.chained
