use Rattle.std.proofs.Common.{◌≡◌, ap, sym, subst, ◌∙◌, List}
use Rattle.std.specs.Prelude.{IfOk}
use Rattle.std.specs.List.{filter}
use Rattle.morsel_meaning.specs.declared.value.Field.{Field}
use Rattle.morsel_meaning.specs.Values.{Row, Table}
use Rattle.morsel_expr.specs.Truths.{is_true}
use Rattle.morsel_expr.specs.Predicates.{truth}
use Rattle.morsel_expr.specs.Kept.{kept_rows}
use Rattle.morsel_scan.specs.Filters.{Filter, true_of}
use Rattle.morsel_scan.proofs.FilterLemmas.{kept_by_truths}
use Rattle.morsel_scan.proofs.filter_step.FilterStep.apply.Goals as goal

pub returns-clause-ok : goal.returns-clause-ok
returns-clause-ok c =
    let rows : List Row = c.args.frame.rows in
    let step : Filter = record { fields = c.self.inside.schema; node = c.self.inside.pred } in
    let of_step : c.args.frame.schema ≡ c.self.inside.schema = c.requires.fields ∙ sym (ap (λ (f : Filter). f.fields) c.self.view_is) in
    let kept : kept_rows rows c.deref.result.now ≡ true_of step rows =
    ap (kept_rows rows) (c.deref.ensures.value ∙ c.in_ok-truths.ensures.ok)
    ∙ kept_by_truths (truth c.args.frame.schema c.self.inside.pred) rows
    ∙ ap (λ (fields : List Field). filter (λ row. is_true (truth fields c.self.inside.pred row)) rows) of_step in
    let all = kept ∙ ap (λ (f : Filter). true_of f rows) c.self.view_is in
    subst (λ (r : List Row). IfOk c.filter.result (λ (table : Table). table ≡ record { schema = c.args.frame.schema; rows = r })) all c.filter.ensures.ok
