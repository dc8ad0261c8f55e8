-- A filter over frames of one schema.
use Rattle.std.specs.Prelude.{List}
use Rattle.std.specs.List.{filter}
use Rattle.morsel_meaning.specs.declared.value.Field.{Field}
use Rattle.morsel_meaning.specs.Values.{Row}
use Rattle.morsel_expr.specs.declared.node.PredNode.{PredNode}
use Rattle.morsel_expr.specs.Truths.{is_true}
use Rattle.morsel_expr.specs.Predicates.{truth}

-- a predicate, and the columns over which it is asked
pub record Filter : Type 0 where
  pub fields : List Field
  pub node : PredNode

-- the rows of which the predicate is true
abbrev pub true_of : Filter → List Row → List Row
true_of f rows = filter (λ row. is_true (truth f.fields f.node row)) rows
