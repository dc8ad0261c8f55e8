use Rattle.std.specs.Prelude.{◌≡◌, ◌++◌, replicate}
use Rattle.morsel_ports.specs.declared.node.Ends.TheVariants.{Absent}
use Rattle.morsel_join_lines.proofs.units.add_absent.Given as goal

abbrev pub invariant-loop : goal.invariant-loop
invariant-loop g l = l.ports.items ≡ l.fn.ports.items ++ replicate l.counter Absent
