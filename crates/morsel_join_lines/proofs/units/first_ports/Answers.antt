use Rattle.std.proofs.Common.{◌≡◌, ap, ◌∙◌, ℕ, arith}
use Rattle.std.specs.Prelude.{◌∷◌, ◌++◌, ◌+◌, length, replicate}
use Rattle.morsel_ports.specs.declared.node.Ends.TheVariants.{Absent}
use Rattle.morsel_join_lines.proofs.units.first_ports.Goals as goal

-- there is one port for each job
pub returns-clause-ports : goal.returns-clause-ports
returns-clause-ports g c job others are =
    let there : length c.args.jobs.now.items ≡ length (job ∷ others) = ap length are in
    let many : length c.args.jobs.now.items ≡ length others + 1 = omega (arith, there) in
    let len = c.len.ensures in
    let known = c.args.jobs.now.ok.0 in
    let less = c.saturating_sub.ensures in
    let same : c.saturating_sub.result ≡ length others = omega (arith, many, len, known, less) in
    c.in_ok-add_absent.ensures.ports ∙ ap (λ items. items ++ replicate c.saturating_sub.result Absent) c.in_ok-ports.ensures.ports ∙ ap (λ (n : ℕ). c.args.first ∷ replicate n Absent) same
