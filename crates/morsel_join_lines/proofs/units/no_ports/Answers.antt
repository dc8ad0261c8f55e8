use Rattle.std.proofs.Common.{◌≡◌, ap, ◌∙◌, ℕ, arith}
use Rattle.std.specs.Prelude.{◌++◌, length, replicate}
use Rattle.morsel_ports.specs.declared.node.Ends.TheVariants.{Absent}
use Rattle.morsel_join_lines.proofs.units.no_ports.Goals as goal

-- there is one port for each job
pub returns-clause-ports : goal.returns-clause-ports
returns-clause-ports g c =
    let len = c.len.ensures in
    let known = c.args.jobs.now.ok.0 in
    let same : c.len.result ≡ length c.args.jobs.now.items = omega (arith, len, known) in
    c.in_ok-add_absent.ensures.ports ∙ ap (λ items. items ++ replicate c.len.result Absent) c.new-ports.ensures.items ∙ ap (λ (n : ℕ). replicate n Absent) same
