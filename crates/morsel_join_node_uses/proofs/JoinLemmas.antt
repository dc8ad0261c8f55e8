-- Joins of rows with one column: their sides.
use Rattle.std.proofs.Common.{Bool, true, false, List}
use Rattle.morsel_meaning.specs.declared.value.Field.{Field}
use Rattle.morsel_join.specs.declared.rules.JoinRules.{JoinRules}
use Rattle.morsel_join.specs.Rows.{FitRules}
use Rattle.morsel_join.specs.Sides.{FitSides}

-- sides with the same columns fit whichever of them is kept
pub fit_either : (is_left : Bool) (columns : List Field) (rules : JoinRules) → FitRules columns columns rules → FitSides is_left columns columns rules
fit_either true columns rules fit = fit
fit_either false columns rules fit = fit
