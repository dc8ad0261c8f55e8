use Rattle.std.proofs.Common.{Bool, subst, sym}
use Rattle.morsel_join.specs.Sides.{FitSides}
use Rattle.morsel_join_uses.proofs.tests.cuts.put_right_kept.Goals as goal

pub put_looked_up-requires-clause-fit : goal.put_looked_up-requires-clause-fit
put_looked_up-requires-clause-fit c = subst (λ (is_left : Bool). FitSides is_left c.args.right.now.schema c.args.left.now.schema c.args.rules) (sym c.requires.keeps) c.requires.fit
