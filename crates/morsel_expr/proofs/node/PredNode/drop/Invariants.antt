use Rattle.morsel_expr.specs.Weights.{weight}
use Rattle.morsel_expr.proofs.node.PredNode.drop.Given as goal

abbrev pub decreases-loop-self : goal.decreases-loop-self
decreases-loop-self l = weight l.self
