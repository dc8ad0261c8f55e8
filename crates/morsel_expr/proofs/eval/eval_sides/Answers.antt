use Rattle.std.proofs.Common.{◌∙◌}
use Rattle.std.proofs.lemmas.Result.{IfOk-weaker}
use Rattle.std.proofs.lemmas.Simd.{map-map}
use Rattle.morsel_expr.specs.Predicates.{compared, value_under}
use Rattle.morsel_expr.proofs.TruthLemmas.{compared_pairs-map}
use Rattle.morsel_expr.proofs.eval.eval_sides.Goals as goal

pub returns-in-Col-clause-ok : goal.returns-in-Col-clause-ok
returns-in-Col-clause-ok c =
    rw c.in-Col.is
    (IfOk-weaker c.compare_columns.result _ _
    (λ truths is. is ∙ rw (c.column_of-column.ensures.values, c.column_of.ensures.values)
    (compared_pairs-map c.args.op (value_under c.args.frame.now.schema c.args.name.now) (value_under c.args.frame.now.schema c.in-Col.other) c.args.frame.now.rows))
    c.compare_columns.ensures.ok)

pub returns-in-Lit-clause-ok : goal.returns-in-Lit-clause-ok
returns-in-Lit-clause-ok c =
    rw c.in-Lit.is
    (IfOk-weaker c.compare_with.result _ _
    (λ truths is. is ∙ rw c.column_of-column.ensures.values
    (map-map (λ v. compared c.args.op v c.in-Lit.value) (value_under c.args.frame.now.schema c.args.name.now) c.args.frame.now.rows))
    c.compare_with.ensures.ok)
