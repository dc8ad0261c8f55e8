-- What is seen of a node and of its units: its ports, which ends a unit has, and how a unit ended.
use Rattle.std.specs.Prelude.{◌≡◌, ◌≢◌, ◌==◌, if◌then◌else◌, ℕ, ◌<◌, ◌≤◌, Bool, true, false, List, [], ◌∷◌, length, map, All, Option, None, Some, Result, Err, IsOkAnd, slice_get, slice_index_or}
use Rattle.std.specs.List.{flat_map}
use Rattle.atomic_table.specs.Seated.{TableId}
use Rattle.morsel_meaning.specs.declared.fault.Fault.{Fault}
use Rattle.morsel_meaning.specs.declared.fault.Fault.TheVariants as faults
use Rattle.morsel_prims.specs.Polled.{LaneId, held_list, no_table}
use Rattle.morsel_prims.specs.Woken.{has_number}
use Rattle.morsel_lane_pipe.specs.Tasks.{TaskSeen}
use Rattle.morsel_lane_pipe.specs.declared.receipts.PipeOut.{PipeOut}
use Rattle.morsel_lane_pipe.specs.declared.receipts.PipeOut.TheVariants.{Whole, Cut, OutOfMemory, Failed}
use Rattle.morsel_lane_pipe.specs.declared.receipts.Receipts.{Receipts}
use Rattle.morsel_ports.specs.declared.node.PortKind.{PortKind}
use Rattle.morsel_ports.specs.declared.node.PortKind.TheVariants as kinds
use Rattle.morsel_ports.specs.declared.node.Ends.{Ends}
use Rattle.morsel_ports.specs.declared.node.Ends.TheVariants.{Absent, Serial, Parallel}

-- what is seen of a node
pub record NodeSeen : Type 0 where
  pub name : List ℕ
  pub blocks : Bool  -- whether it keeps in memory what it takes before it gives anything
  pub pipelines : Option ℕ  -- for how many it was made ready, once it was
  pub recv_kinds : List PortKind  -- of its receiving ports in this phase, in their order
  pub send_kinds : List PortKind  -- and of its sending ports
  pub units : ℕ  -- how many of its units were taken and not given back

-- what is seen of a unit: the table of its board, and the lanes from which it takes and through which it sends, in order of ports
pub record UnitSeen : Type 0 where
  pub home : TableId
  pub from : List LaneId
  pub to : List LaneId

-- how a unit ended: whole, with the receipts of its ends; at an end that was closed or cut; or by a fault
pub data UnitEnd (R S : Type 0) : Type 0 where
  EndedWhole : List R → List S → UnitEnd R S
  EndedCut : UnitEnd R S
  EndedBy : Fault → UnitEnd R S

-- how a unit that is a task between lanes ended
abbrev pub end_of_out : {R S : Type 0} → PipeOut (Receipts R S) → UnitEnd R S
end_of_out (Whole receipts) = EndedWhole receipts.taken.items receipts.sent.items
end_of_out Cut = EndedCut
end_of_out OutOfMemory = EndedBy faults.OutOfMemory
end_of_out (Failed fault) = EndedBy fault

-- the lanes of such a unit, until it has ended
abbrev pub lanes_of_task : {T : Type 0} → (T → TaskSeen) → Option T → UnitSeen
lanes_of_task seen None = record { home = no_table; from = []; to = [] }
lanes_of_task seen (Some task) = record { home = (seen task).home; from = (seen task).from; to = (seen task).to }

-- the fact holds of the receipts, where the unit ended whole
abbrev pub IfEndedWhole : {R S : Type 0} → UnitEnd R S → (List R → List S → Type 0) → Type 0
IfEndedWhole (EndedWhole taken sent) P = P taken sent
IfEndedWhole EndedCut P = Unit {0}
IfEndedWhole (EndedBy fault) P = Unit {0}

-- the fact holds of the fault by which the unit ended
abbrev pub IfEndedBy : {R S : Type 0} → UnitEnd R S → (Fault → Type 0) → Type 0
IfEndedBy (EndedWhole taken sent) P = Unit {0}
IfEndedBy EndedCut P = Unit {0}
IfEndedBy (EndedBy fault) P = P fault

-- what is answered for a unit that ended so: its receipts, two empty lists, or its fault
abbrev pub IsGivenBack : {R S : Type 0} → UnitEnd R S → Result (Receipts R S) Fault → Type 0
IsGivenBack (EndedWhole taken sent) result = IsOkAnd result (λ receipts. (receipts.taken.items ≡ taken) × (receipts.sent.items ≡ sent))
IsGivenBack EndedCut result = IsOkAnd result (λ receipts. (receipts.taken.items ≡ []) × (receipts.sent.items ≡ []))
IsGivenBack (EndedBy fault) result = result ≡ Err fault

-- the receipts of all ends of a unit, in order of ports
pub record AreUnitReceipts {R S : Type 0} (taken_home : R → TableId) (taken_lane : R → LaneId) (sent_home : S → TableId) (sent_lane : S → LaneId) (unit : UnitSeen) (taken : List R) (sent : List S) : Type 0 where
  pub taken_homes : All (λ receipt. taken_home receipt ≡ unit.home) taken
  pub sent_homes : All (λ receipt. sent_home receipt ≡ unit.home) sent
  pub taken_lanes : map taken_lane taken ≡ unit.from
  pub sent_lanes : map sent_lane sent ≡ unit.to

-- the kind of what a port gets
abbrev pub kind_of_ends : {E : Type 0} → Ends E → PortKind
kind_of_ends Absent = kinds.Absent
kind_of_ends (Serial end) = kinds.Serial
kind_of_ends (Parallel ends) = kinds.Parallel

-- all ends that a port gets, in order of lanes
abbrev pub port_ends : {E : Type 0} → Ends E → List E
port_ends Absent = []
port_ends (Serial end) = end ∷ []
port_ends (Parallel ends) = ends.items

-- of what a port gets, the end of unit i: an end that is alone is the first unit's
abbrev pub port_end_of : {E : Type 0} → ℕ → Ends E → List E
port_end_of i Absent = []
port_end_of i (Serial end) = if i == 0 then end ∷ [] else []
port_end_of i (Parallel ends) = held_list (slice_get ends.items i)

-- of what all ports get, the ends of unit i, in order of ports
abbrev pub unit_ends : {E : Type 0} → ℕ → List (Ends E) → List E
unit_ends i ports = flat_map (port_end_of i) ports

-- a parallel port gets as many ends as there are pipelines
abbrev pub HasEachPipeline : {E : Type 0} → Option ℕ → Ends E → Type 0
HasEachPipeline pipelines Absent = Unit {0}
HasEachPipeline pipelines (Serial end) = Unit {0}
HasEachPipeline pipelines (Parallel ends) = pipelines ≡ Some (length ends.items)

-- the ports get ends of these kinds
pub record AreEndsOfKinds {E : Type 0} (of_ports : List PortKind) (pipelines : Option ℕ) (ports : List (Ends E)) : Type 0 where
  pub same : map kind_of_ends ports ≡ of_ports
  pub each : All (HasEachPipeline pipelines) ports

-- there is a job for each port, and this is true of its ends
abbrev pub AreEndsFor : {E J : Type 0} → (J → E → Type 0) → List (Ends E) → List J → Type 0
AreEndsFor is_for [] [] = Unit {0}
AreEndsFor is_for [] (job ∷ jobs) = ⊥
AreEndsFor is_for (port ∷ ports) [] = ⊥
AreEndsFor is_for (port ∷ ports) (job ∷ jobs) = All (is_for job) (port_ends port) × AreEndsFor is_for ports jobs

-- what is seen of unit i between these ends
abbrev pub unit_between : {R S : Type 0} → (R → LaneId) → (S → LaneId) → TableId → List (Ends R) → List (Ends S) → ℕ → UnitSeen
unit_between taken_lane sent_lane home recv send i = record { home = home; from = map taken_lane (unit_ends i recv); to = map sent_lane (unit_ends i send) }

-- each unit has its own ends, at least one, and each end is a unit's
pub record AreUnitsBetween {U R S : Type 0} (seen : U → UnitSeen) (between : ℕ → UnitSeen) (recv : List (Ends R)) (send : List (Ends S)) (units : List U) : Type 0 where
  pub each : (i : ℕ) (unit : U) → slice_get units i ≡ Some unit → seen unit ≡ between i
  pub some : (i : ℕ) → i < length units → unit_ends i recv ≡ [] → unit_ends i send ≡ [] → ⊥
  pub no_more : (i : ℕ) → length units ≤ i → (unit_ends i recv ≡ []) × (unit_ends i send ≡ [])

-- no number stands in two of the lists
abbrev pub AreApart : List (List ℕ) → Type 0
AreApart lists = (i j number : ℕ) → i ≢ j → has_number (slice_index_or lists i []) number ≡ true → has_number (slice_index_or lists j []) number ≡ false

-- only the states of its ports moved on: the name, the pipelines, the number of ports and the units stay
pub record IsSameNode (before now : NodeSeen) : Type 0 where
  pub same_name : now.name ≡ before.name
  pub same_pipelines : now.pipelines ≡ before.pipelines
  pub same_recv : length now.recv_kinds ≡ length before.recv_kinds
  pub same_send : length now.send_kinds ≡ length before.send_kinds
  pub same_units : now.units ≡ before.units
