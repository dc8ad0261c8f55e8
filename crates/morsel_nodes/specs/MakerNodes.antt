-- Nodes whose units make one load of each that they take: their ends, their units, and the states of their ports.
use Rattle.std.specs.Prelude.{◌≡◌, ◌⊎◌, ◌==◌, ◌&&◌, ◌||◌, ℕ, Bool, true, false, List, [], ◌∷◌, Option, None, Some}
use Rattle.std.specs.List.{flat_map}
use Rattle.atomic_table.specs.Seated.{TableId}
use Rattle.morsel_meaning.specs.declared.fault.Fault.{Fault}
use Rattle.morsel_meaning.specs.declared.fault.Fault.TheVariants as faults
use Rattle.morsel_prims.specs.Polled.{LaneId}
use Rattle.morsel_load.specs.Loads.{LoadSeen}
use Rattle.morsel_lane_pipe.specs.Stretches.{ends_of}
use Rattle.morsel_lane_pipe.specs.declared.receipts.PipeOut.TheVariants.{OutOfMemory}
use Rattle.morsel_ports.specs.declared.node.PortState.{PortState}
use Rattle.morsel_ports.specs.declared.node.PortState.TheVariants.{Ready, Blocked, Done}
use Rattle.morsel_ports.specs.Nodes.{UnitSeen}
use Rattle.morsel_nodes.specs.declared.load_makers.Role.{Role}
use Rattle.morsel_nodes.specs.declared.load_makers.Role.TheVariants.{Source, Sink}

-- a unit may stand between these ends: they are of one board and for jobs that it joins, and nothing went through them
pub record CanJoin {R S J T : Type 0} (receiver_home : R → TableId) (receiver_job : R → J) (taken : R → List T) (sender_home : S → TableId) (sender_job : S → J) (sent : S → List T) (joins : J → J → Type 0) (from : R) (to : S) : Type 0 where
  pub same_home : sender_home to ≡ receiver_home from
  pub joined : joins (receiver_job from) (sender_job to)
  pub none_taken : taken from ≡ []
  pub none_sent : sent to ≡ []

-- the lanes of a unit for each pair of lanes of this table
abbrev pub lanes_of_pairs : TableId → List LaneId → List LaneId → List UnitSeen
lanes_of_pairs table [] to = []
lanes_of_pairs table (x ∷ xs) [] = []
lanes_of_pairs table (x ∷ xs) (y ∷ ys) = record { home = table; from = x ∷ []; to = y ∷ [] } ∷ lanes_of_pairs table xs ys

-- a unit may end by this fault: memory is out, or its maker has it
abbrev pub UnitFails : {T : Type 0} → (T → Fault → Type 0) → Option T → Fault → Type 0
UnitFails fails None fault = fault ≡ faults.OutOfMemory
UnitFails fails (Some task) fault = (fault ≡ faults.OutOfMemory) ⊎ fails task fault

-- memory may be out, or a load of this job has this fault
abbrev pub MayFail : {J : Type 0} → (J → Fault → Type 0) → J → Fault → Type 0
MayFail may_fail job fault = (fault ≡ faults.OutOfMemory) ⊎ may_fail job fault

-- the stretches that loads end, in their order
abbrev pub seen_stretches : List LoadSeen → List (ℕ × ℕ)
seen_stretches loads = flat_map ends_of loads

-- whether no more loads go through a port
abbrev pub is_done : PortState → Bool
is_done Done = true
is_done Ready = false
is_done Blocked = false

-- what a port answers: that it is ready, or done
abbrev pub ready_unless : Bool → PortState
ready_unless true = Done
ready_unless false = Ready

-- a source has finished: it had before; or all pieces were fed to it and all its units were given back; or nobody takes what it gives
abbrev pub has_finished : Bool → ℕ → PortState → PortState → Bool
has_finished finished units recv send = finished || ((is_done recv && units == 0) || is_done send)

-- the tables of sources and of sinks: whether the node has finished, what its ports are told, and what it and they are then
abbrev pub Moves : Role → Bool → ℕ → PortState → PortState → Bool → PortState → PortState → Type 0
Moves Source finished units recv send now recv_now send_now = (now ≡ has_finished finished units recv send) × (recv_now ≡ ready_unless now) × (send_now ≡ ready_unless now)
Moves Sink finished units recv send now recv_now send_now = (now ≡ finished) × (recv_now ≡ ready_unless (is_done recv)) × (send_now ≡ recv)

-- the same for a node of one receiving and one sending port
pub record MovesPorts (role : Role) (finished : Bool) (units : ℕ) (recv send : List PortState) (now : Bool) (recv_now send_now : List PortState) : Type 0 where
  pub told_recv : PortState
  pub told_send : PortState
  pub recv_is : recv ≡ told_recv ∷ []
  pub send_is : send ≡ told_send ∷ []
  pub answered_recv : PortState
  pub answered_send : PortState
  pub recv_now_is : recv_now ≡ answered_recv ∷ []
  pub send_now_is : send_now ≡ answered_send ∷ []
  pub moves : Moves role finished units told_recv told_send now answered_recv answered_send
