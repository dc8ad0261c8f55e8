-- The node of a join in each of its three phases, nodes that keep and nodes that give with other ports or none, and what the lanes of ports are for.
use Rattle.std.specs.Prelude.{◌≡◌, ℕ, List, [], ◌∷◌, Some, map}
use Rattle.morsel_ports.specs.Nodes.{NodeSeen}
use Rattle.morsel_ports.specs.declared.node.PortKind.{PortKind}
use Rattle.morsel_ports.specs.declared.node.PortKind.TheVariants.{Absent, Serial, Parallel}

-- a node that was made ready for so many pipelines, whose receiving and sending ports are of these kinds, and that has no unit out
pub record HasPorts (pipelines : ℕ) (recv send : List PortKind) (seen : NodeSeen) : Type 0 where
  pub ready : seen.pipelines ≡ Some pipelines
  pub takes : seen.recv_kinds ≡ recv
  pub gives : seen.send_kinds ≡ send
  pub none_out : seen.units ≡ 0

-- it keeps what comes through its first port
abbrev pub IsKeeping : ℕ → NodeSeen → Type 0
IsKeeping pipelines seen = HasPorts pipelines (Parallel ∷ Absent ∷ []) (Absent ∷ []) seen

-- it gives what it finds for what comes through its second port
abbrev pub IsFinding : ℕ → NodeSeen → Type 0
IsFinding pipelines seen = HasPorts pipelines (Absent ∷ Parallel ∷ []) (Parallel ∷ []) seen

-- it gives of what it has kept, and takes nothing
abbrev pub IsGiving : ℕ → NodeSeen → Type 0
IsGiving pipelines seen = HasPorts pipelines (Absent ∷ Absent ∷ []) (Serial ∷ []) seen

-- the first of two lists is of this job alone, and so is the second one of that
abbrev pub AreForOne : {J : Type 0} → J → J → List J → List J → Type 0
AreForOne from to recv send = (recv ≡ from ∷ []) × (send ≡ to ∷ [])

-- of two receiving ports the first one is for this job; one port sends
pub record AreForFirst {J : Type 0} (from : J) (recv send : List J) : Type 0 where
  pub other : J
  pub unused : J
  pub takes : recv ≡ from ∷ other ∷ []
  pub gives : send ≡ unused ∷ []

-- of two receiving ports the second one is for this job, and the sending port for that
pub record AreForSecond {J : Type 0} (from to : J) (recv send : List J) : Type 0 where
  pub other : J
  pub takes : recv ≡ other ∷ from ∷ []
  pub gives : send ≡ to ∷ []

-- there are two receiving ports, and the sending port is for this job
pub record AreForSending {J : Type 0} (to : J) (recv send : List J) : Type 0 where
  pub first : J
  pub second : J
  pub takes : recv ≡ first ∷ second ∷ []
  pub gives : send ≡ to ∷ []

-- a node that was made ready for so many pipelines, and has no unit out, keeps what comes through its first port, whose lanes are for this job; nothing comes through its other receiving ports, and nothing goes through the sending one
pub record KeepsFor {J : Type 0} (pipelines : ℕ) (job : J) (recv send : List J) (seen : NodeSeen) : Type 0 where
  pub others : List J
  pub unused : J
  pub takes : recv ≡ job ∷ others
  pub gives : send ≡ unused ∷ []
  pub ready : seen.pipelines ≡ Some pipelines
  pub none_out : seen.units ≡ 0
  pub recv_kinds : seen.recv_kinds ≡ Parallel ∷ map (λ (other : J). Absent) others
  pub send_kinds : seen.send_kinds ≡ Absent ∷ []

-- a node that was made ready for so many pipelines, and has no unit out, gives through its sending port, whose lanes are for this job; nothing comes through its receiving ports
pub record GivesFor {J : Type 0} (pipelines : ℕ) (job : J) (recv send : List J) (seen : NodeSeen) : Type 0 where
  pub gives : send ≡ job ∷ []
  pub ready : seen.pipelines ≡ Some pipelines
  pub none_out : seen.units ≡ 0
  pub recv_kinds : seen.recv_kinds ≡ map (λ (from : J). Absent) recv
  pub send_kinds : seen.send_kinds ≡ Serial ∷ []
