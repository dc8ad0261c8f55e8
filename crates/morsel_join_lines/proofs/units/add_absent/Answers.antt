use Rattle.std.proofs.Common.{sym, ap, ◌∙◌, append-nil, append_assoc}
use Rattle.std.proofs.lemmas.List.{replicate_more}
use Rattle.std.specs.Prelude.{◌∷◌, ◌++◌, [], replicate}
use Rattle.morsel_ports.specs.declared.node.Ends.TheVariants.{Absent}
use Rattle.morsel_join_lines.proofs.units.add_absent.Goals as goal

pub loop-init : goal.loop-init
loop-init g c = sym (append-nil c.args.ports.now.items)

pub loop-preserved : goal.loop-preserved
loop-preserved g c =
    c.in_ok-push.ensures.items ∙ ap (λ items. items ++ Absent ∷ []) c.loop.invariant ∙ append_assoc c.args.ports.now.items (replicate c.loop.counter Absent) (Absent ∷ [])
    ∙ ap (λ more. c.args.ports.now.items ++ more) (replicate_more c.loop.counter Absent)
