use Rattle.std.proofs.Common.{◌++◌, length, ap, refl, ◌∙◌}
use Rattle.morsel_engine.proofs.OpenLemmas.{length_numbers}
use Rattle.morsel_engine.proofs.SidesOpenLemmas.{opens-left, opens-right, all-both}
use Rattle.morsel_engine.proofs.outside.open_sides.Goals as goal

pub returns-in-Err-clause-opens : goal.returns-in-Err-clause-opens
returns-in-Err-clause-opens g c = opens-left _ _ c.args.left.now c.args.right.now _ c.in-Err.ensures

pub returns-in-Err-open_sources-clause-opens : goal.returns-in-Err-open_sources-clause-opens
returns-in-Err-open_sources-clause-opens g c =
    let all = c.in-Ok.ensures in opens-right _ _ _ c.args.left.now c.args.right.now all.0 _ _ _ all.1 refl c.in-Err-open_sources.ensures

pub returns-clause-opens : goal.returns-clause-opens
returns-clause-opens g c =
    let all = c.in-Ok.ensures in let rest = c.in-Ok-open_sources.ensures in (all.0 ++ rest.0, all-both _ _ _ c.args.left.now c.args.right.now all.0 rest.0 _ _ all.1 rest.1)

pub returns-clause-one_each : goal.returns-clause-one_each
returns-clause-one_each g c = let all = c.in-Ok.ensures in ap length all.1.numbers_are ∙ length_numbers _ (length all.0) ∙ all.1.all
