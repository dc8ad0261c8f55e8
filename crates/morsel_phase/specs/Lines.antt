-- The nodes of a line.
use Rattle.std.specs.Prelude.{◌≡◌, ◌+◌, ℕ, [], ◌∷◌, Option, None, Some}
use Rattle.morsel_ports.specs.Nodes.{NodeSeen}
use Rattle.morsel_ports.specs.declared.node.PortKind.TheVariants.{Parallel}

-- a node that was made ready for so many pipelines, and has one receiving and one sending port, both parallel, and no unit out
pub record IsLineNode (pipelines : ℕ) (seen : NodeSeen) : Type 0 where
  pub ready : seen.pipelines ≡ Some pipelines
  pub takes : seen.recv_kinds ≡ Parallel ∷ []
  pub gives : seen.send_kinds ≡ Parallel ∷ []
  pub none_out : seen.units ≡ 0

-- how many tasks stand between the ends of a pipe that merges or spreads: one for each pipeline, and the one at the end that is alone
abbrev pub tasks_of : {P : Type 0} → (P → ℕ) → Option P → ℕ
tasks_of pipelines None = 0
tasks_of pipelines (Some pipe) = pipelines pipe + 1
