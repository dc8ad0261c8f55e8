use Rattle.std.proofs.Common.{arith, ◌≡◌, ap, map, ◌∙◌}
use Rattle.std.proofs.lemmas.Grind.{common_steps}
use Rattle.morsel_load.proofs.linearized.frames_of.Goals as goal

pub returns-clause-frames : goal.returns-clause-frames
returns-clause-frames g c =
    let all : c.loop-morsel.yielded ≡ c.args.morsels.items = grind (arith, common_steps) in
    c.loop-morsel.invariant.frames ∙ ap (λ morsels. map (λ morsel. morsel.frame) morsels) all
