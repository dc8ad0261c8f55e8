use Rattle.std.proofs.Common.{◌≡◌, ◌++◌, map, take}
use Rattle.morsel_meaning.specs.Values.{names_of}
use Rattle.morsel_group.proofs.plan.push_outputs.Given as goal

abbrev pub invariant-loop-agg : goal.invariant-loop-agg
invariant-loop-agg l = names_of l.fields.items ≡ names_of l.initial.fields.items ++ map (λ agg. agg.output) (take l.agg-index l.aggs)
