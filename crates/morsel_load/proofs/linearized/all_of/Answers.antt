use Rattle.std.proofs.Common.{arith, ◌≡◌, ap, ◌∙◌}
use Rattle.std.proofs.lemmas.Grind.{common_steps}
use Rattle.std.specs.List.{flat_map}
use Rattle.morsel_load.proofs.linearized.all_of.Goals as goal

pub returns-clause-all : goal.returns-clause-all
returns-clause-all g c =
    let all : c.loop-pipe.yielded ≡ c.args.pipes.items = grind (arith, common_steps) in
    c.loop-pipe.invariant.morsels ∙ ap (λ pipes. flat_map (λ pipe. pipe.items) pipes) all
