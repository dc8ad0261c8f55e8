use Rattle.std.proofs.Common.{◌≡◌, ◌∙◌, List, None, map, option_map, ap, sym, subst}
use Rattle.morsel_group.specs.declared.spec.Agg.{Agg}
use Rattle.morsel_group.specs.Asked.{GroupAsked, HaveColumns, column_place}
use Rattle.morsel_group.specs.GroupFlaws.{agg_absence, agg_misfit}
use Rattle.morsel_group.proofs.BlankLemmas.{no_flaw}
use Rattle.morsel_group.proofs.blank.no_groups.Goals as goal

pub planned_groups-requires-clause-columns : goal.planned_groups-requires-clause-columns
planned_groups-requires-clause-columns c =
    let same : c.deref.result.now ≡ c.args.spec.now.aggs = c.deref.ensures.value ∙ ap (λ (a : GroupAsked). a.aggs) c.spec.view_is in
    subst (λ (list : List Agg). c.in-Ok.plan.columns.items ≡ map (λ agg. option_map (column_place c.args.input.now) agg.column) list) (sym same) c.in-Ok.ensures.columns

pub planned_groups-requires-clause-has : goal.planned_groups-requires-clause-has
planned_groups-requires-clause-has c =
    let same : c.deref.result.now ≡ c.args.spec.now.aggs = c.deref.ensures.value ∙ ap (λ (a : GroupAsked). a.aggs) c.spec.view_is in
    subst HaveColumns (sym same) c.requires.columns

pub planned_groups-requires-clause-found : goal.planned_groups-requires-clause-found
planned_groups-requires-clause-found c =
    let same : c.deref.result.now ≡ c.args.spec.now.aggs = c.deref.ensures.value ∙ ap (λ (a : GroupAsked). a.aggs) c.spec.view_is in
    subst (λ (list : List Agg). agg_absence c.args.input.now list ≡ None) (sym same) (no_flaw c.args.input.now c.args.spec.now c.requires.sound).0

pub planned_groups-requires-clause-fits : goal.planned_groups-requires-clause-fits
planned_groups-requires-clause-fits c =
    let same : c.deref.result.now ≡ c.args.spec.now.aggs = c.deref.ensures.value ∙ ap (λ (a : GroupAsked). a.aggs) c.spec.view_is in
    subst (λ (list : List Agg). agg_misfit c.args.input.now list ≡ None) (sym same) (no_flaw c.args.input.now c.args.spec.now c.requires.sound).1

pub returns-in-Ok-clause-group_by : goal.returns-in-Ok-clause-group_by
returns-in-Ok-clause-group_by c =
    let same : c.deref.result.now ≡ c.args.spec.now.aggs = c.deref.ensures.value ∙ ap (λ (a : GroupAsked). a.aggs) c.spec.view_is in
    c.planned_groups.ensures.group_by c.args.spec.now same c.in-Ok.ensures.keys
