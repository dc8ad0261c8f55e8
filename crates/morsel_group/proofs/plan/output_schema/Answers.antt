use Rattle.std.proofs.Common.{rules, ◌≡◌}
use Rattle.morsel_group.specs.Asked.{group_fields}
use Rattle.morsel_group.proofs.PlanLemmas.{group_repeats, only_memory}
use Rattle.morsel_group.proofs.plan.output_schema.Goals as goal

pub returns-clause-out_of_memory : goal.returns-clause-out_of_memory
returns-clause-out_of_memory c =
    let made : c.push_agg_fields.new.fields.items ≡ group_fields c.args.input.now c.args.spec.now = search rules in
    only_memory _ _ c.new.result c.new.ensures.refused (group_repeats c.args.input.now c.args.spec.now c.push_agg_fields.new.fields.items made c.requires.found c.requires.names)
