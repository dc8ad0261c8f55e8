use Rattle.std.proofs.Common.{◌<◌, ◌≤◌, arith, sym, subst, Option}
use Rattle.std.specs.Prelude.{option_map}
use Rattle.std.proofs.lemmas.Result.{err_from_is_err_and}
use Rattle.morsel_expr.specs.declared.node.PredNode.{PredNode}
use Rattle.morsel_expr.specs.Flaws.{levels}
use Rattle.morsel_query_text.specs.Predicates.{pred_tree, tree_levels}
use Rattle.morsel_query_text.specs.TextFlaws.{IsTooDeep}
use Rattle.morsel_query_text.proofs.LevelLemmas.{levels_of_tree}
use Rattle.morsel_query_text.proofs.make.pred_if.Goals as goal

pub returns-in_err-new-in-Some-clause-refused : goal.returns-in_err-new-in-Some-clause-refused
returns-in_err-new-in-Some-clause-refused c =
    let p = err_from_is_err_and c.from_residual.result c.from_residual.ensures.1 in
    let node = c.in-Some.node in
    let no : levels node ≤ 128 → ⊥ = λ few. let wrong = c.in_err-new-in-Some.ensures.within.1 few in cc in
    let deep : 128 < tree_levels (pred_tree node) = omega (arith, levels_of_tree node) in
    rw (p.1, p.2) (c.in_err-new-in-Some.ensures.too_deep, subst (λ (n : Option PredNode). IsTooDeep (option_map pred_tree n)) (sym c.in-Some.is) deep)
