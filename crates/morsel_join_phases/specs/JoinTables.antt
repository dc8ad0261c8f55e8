-- The ports of a join, by where it is.
use Rattle.std.specs.Prelude.{◌≡◌, Bool, true, false, if◌then◌else◌, List, [], ◌∷◌, map}
use Rattle.std.specs.List.{flat_map}
use Rattle.morsel_load.specs.Loads.{LoadSeen}
use Rattle.morsel_lane_pipe.specs.Stretches.{ends_of}
use Rattle.morsel_ports.specs.declared.node.PortKind.{PortKind}
use Rattle.morsel_ports.specs.declared.node.PortKind.TheVariants as kinds
use Rattle.morsel_ports.specs.declared.node.PortState.{PortState}
use Rattle.morsel_ports.specs.declared.node.PortState.TheVariants as states
use Rattle.morsel_join_phases.specs.declared.places.JoinAt.{JoinAt}
use Rattle.morsel_join_phases.specs.declared.places.JoinAt.TheVariants.{Build, Probe, Emit, Done}
use Rattle.morsel_join_phases.specs.declared.places.JoinPorts.{JoinPorts}

-- whether no more loads go through a port
abbrev pub port_done : PortState → Bool
port_done states.Done = true
port_done states.Ready = false
port_done states.Blocked = false

-- whether it keeps rows before it gives any
abbrev pub is_keeping : JoinAt → Bool
is_keeping Build = true
is_keeping Probe = false
is_keeping Emit = false
is_keeping Done = false

-- how many ends its receiving ports have: that of the rows that are kept, and that of the rows that are looked up
abbrev pub recv_kinds_at : JoinAt → List PortKind
recv_kinds_at Build = kinds.Parallel ∷ kinds.Absent ∷ []
recv_kinds_at Probe = kinds.Absent ∷ kinds.Parallel ∷ []
recv_kinds_at Emit = kinds.Absent ∷ kinds.Absent ∷ []
recv_kinds_at Done = kinds.Absent ∷ kinds.Absent ∷ []

-- and its sending port
abbrev pub send_kinds_at : JoinAt → List PortKind
send_kinds_at Build = kinds.Absent ∷ []
send_kinds_at Probe = kinds.Parallel ∷ []
send_kinds_at Emit = kinds.Serial ∷ []
send_kinds_at Done = kinds.Absent ∷ []

-- where it is once the rows that are to be kept have ended
abbrev pub after_kept : JoinPorts → JoinAt → JoinAt
after_kept told Build = if port_done told.kept then Probe else Build
after_kept told Probe = Probe
after_kept told Emit = Emit
after_kept told Done = Done

-- and once the rows that are looked up have: kept rows that none found are given where the join has them
abbrev pub after_asked : Bool → JoinPorts → JoinAt → JoinAt
after_asked alone told Build = Build
after_asked alone told Probe = if port_done told.asked then (if alone then Emit else Done) else Probe
after_asked alone told Emit = Emit
after_asked alone told Done = Done

-- and once those were given
abbrev pub after_given : Bool → JoinAt → JoinAt
after_given given Build = Build
after_given given Probe = Probe
after_given given Emit = if given then Done else Emit
after_given given Done = Done

-- where the table moves it: by one move after the other; and where nobody takes what it gives, it is done
abbrev pub moved_at : Bool → Bool → JoinPorts → JoinAt → JoinAt
moved_at alone given told at = if port_done told.sent then Done else after_given given (after_asked alone told (after_kept told at))

-- what its ports answer then: while rows are looked up, each of both ports hears what the other one was told
abbrev pub answers_at : JoinPorts → JoinAt → JoinPorts
answers_at told Build = record { kept = states.Ready; asked = states.Blocked; sent = states.Blocked }
answers_at told Probe = record { kept = states.Done; asked = told.sent; sent = told.asked }
answers_at told Emit = record { kept = states.Done; asked = states.Done; sent = states.Ready }
answers_at told Done = record { kept = states.Done; asked = states.Done; sent = states.Done }

-- the table: where it is, whether it has kept rows that none finds, and whether they were given; what its ports are told; where it is then, and what they answer
pub record MovesAt (at : JoinAt) (alone given : Bool) (recv send : List PortState) (now : JoinAt) (recv_now send_now : List PortState) : Type 0 where
  pub told : JoinPorts
  pub recv_is : recv ≡ told.kept ∷ told.asked ∷ []
  pub send_is : send ≡ told.sent ∷ []
  pub moved : now ≡ moved_at alone given told at
  pub recv_now_is : recv_now ≡ (answers_at told now).kept ∷ (answers_at told now).asked ∷ []
  pub send_now_is : send_now ≡ (answers_at told now).sent ∷ []

-- no move is left after those of a call
abbrev pub NoMoveIsLeft : Type 0
NoMoveIsLeft = (at : JoinAt) (alone given : Bool) (told : JoinPorts) → moved_at alone given told (moved_at alone given told at) ≡ moved_at alone given told at

-- what a unit that ended whole has sent for what it took: nothing, while rows are kept; what ends the same stretches, while rows are looked up; and it took nothing, once they were
abbrev pub MakesAt : JoinAt → List (List LoadSeen) → List (List LoadSeen) → Type 0
MakesAt Build taken sent = sent ≡ []
MakesAt Probe taken sent = map (flat_map ends_of) taken ≡ map (flat_map ends_of) sent
MakesAt Emit taken sent = taken ≡ []
MakesAt Done taken sent = (taken ≡ []) × (sent ≡ [])
