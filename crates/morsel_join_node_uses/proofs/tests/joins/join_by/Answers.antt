use Rattle.std.proofs.Common.{List, sym, subst}
use Rattle.morsel_meaning.specs.declared.value.Field.{Field}
use Rattle.morsel_join.specs.Rows.{keeps_left}
use Rattle.morsel_join.specs.Sides.{FitSides}
use Rattle.morsel_join_node_uses.proofs.JoinLemmas.{fit_either}
use Rattle.morsel_join_node_uses.proofs.tests.joins.join_by.Goals as goal

pub new-requires-clause-fit : goal.new-requires-clause-fit
new-requires-clause-fit c =
    let is_left = keeps_left c.args.rules.how c.args.rules.maintain_order in
    subst (λ (fields : List Field). FitSides is_left c.args.columns fields c.args.rules) (sym c.requires.same) (fit_either is_left c.args.columns c.args.rules c.requires.fit)
