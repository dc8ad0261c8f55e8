use Rattle.std.proofs.Common.{[], ◌∷◌, append-nil, rules}
use Rattle.morsel_ports.specs.declared.node.Ends.TheVariants.{Parallel}
use Rattle.morsel_phase.proofs.UnitLemmas.{as_many_units}
use Rattle.morsel_phase.proofs.node_stage.take_units.Goals as goal

pub returns-clause-len : goal.returns-clause-len
returns-clause-len g c =
    as_many_units _ _ _ (Parallel c.args.ends.from ∷ []) _ (Parallel c.args.ends.to ∷ []) c.in_ok-units.units.items c.args.ends.from.items c.args.ends.to.items
    (search rules) (search rules) (λ i. append-nil _) (λ i. append-nil _) c.requires.as_many c.in_ok-units.ensures.between
