use Rattle.std.proofs.Common.{◌<◌, ◌∙◌, ◌++◌, ◌∷◌, [], List, ap, sym, subst, length, take, rules}
use Rattle.morsel_meaning.specs.declared.value.ColType.{ColType}
use Rattle.morsel_meaning.specs.declared.value.Value.{Value}
use Rattle.morsel_meaning.specs.Values.{IsOfType}
use Rattle.morsel_frame.specs.Cells.{value_of}
use Rattle.morsel_frame.specs.Columns.{Values, value_at}
use Rattle.morsel_join.specs.Rows.{first_value, first_values}
use Rattle.morsel_join.proofs.gather.first_values.Goals as goal
use Rattle.morsel_join.proofs.GatherLemmas.{firsts-more}

pub push_cell-requires : goal.push_cell-requires
push_cell-requires c =
    subst (λ (kind : ColType). IsOfType kind (value_of c.first_cell-cell.result)) (sym (ap (λ (v : Values). v.kind) c.loop-row.invariant))
    (c.first_cell-cell.ensures.of_type c.args.first.now.kind c.get.ensures.of_type (subst (λ (kind : ColType). IsOfType kind (value_of c.get-in-loop-row.result)) c.requires.same_kind c.get-in-loop-row.ensures.of_type))

pub loop-row-preserved : goal.loop-row-preserved
loop-row-preserved c =
    let less : c.loop-row.row < length c.args.first.now.values = search rules in
    let value = c.first_cell-cell.ensures.value ∙ ap (λ (v : Value). first_value v (value_of c.get-in-loop-row.result)) c.get.ensures.value ∙ ap (λ (v : Value). first_value (value_at c.args.first.now.values c.loop-row.row) v) c.get-in-loop-row.ensures.value in
    c.in_ok-push_cell.ensures.ok
    ∙ ap (λ (v : Values). record { kind = v.kind; values = v.values ++ value_of c.first_cell-cell.result ∷ [] }) c.loop-row.invariant
    ∙ ap (λ (vs : List Value). record { kind = c.args.first.now.kind; values = vs }) (ap (λ (v : Value). first_values (take c.loop-row.row c.args.first.now.values) (take c.loop-row.row c.args.second.now.values) ++ v ∷ []) value ∙ sym (firsts-more c.args.first.now.values c.args.second.now.values c.loop-row.row less c.requires.len))
