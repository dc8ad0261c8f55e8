-- The ports of a group-by, by where it is.
use Rattle.std.specs.Prelude.{◌≡◌, Bool, true, false, Option, Some, List, [], ◌∷◌}
use Rattle.std.specs.List.{flat_map}
use Rattle.morsel_meaning.specs.Values.{Table}
use Rattle.morsel_load.specs.Loads.{LoadSeen}
use Rattle.morsel_rows_job.specs.RowsJobs.{rows_of_cuts}
use Rattle.morsel_group_units.specs.TakenLoads.{cuts_of_load}
use Rattle.morsel_ports.specs.declared.node.PortKind.{PortKind}
use Rattle.morsel_ports.specs.declared.node.PortKind.TheVariants as kinds
use Rattle.morsel_ports.specs.declared.node.PortState.{PortState}
use Rattle.morsel_ports.specs.declared.node.PortState.TheVariants as states
use Rattle.morsel_group_phases.specs.declared.places.GroupAt.{GroupAt}
use Rattle.morsel_group_phases.specs.declared.places.GroupAt.TheVariants.{Sink, Source, Done}
use Rattle.morsel_group_phases.specs.declared.places.GroupPorts.{GroupPorts}

-- how many ends its receiving port has, and its sending port
abbrev pub group_recv_kinds : GroupAt → List PortKind
group_recv_kinds Sink = kinds.Parallel ∷ []
group_recv_kinds Source = kinds.Absent ∷ []
group_recv_kinds Done = kinds.Absent ∷ []

abbrev pub group_send_kinds : GroupAt → List PortKind
group_send_kinds Sink = kinds.Absent ∷ []
group_send_kinds Source = kinds.Serial ∷ []
group_send_kinds Done = kinds.Absent ∷ []

-- where it is once no more rows come
abbrev pub group_taken : PortState → GroupAt → GroupAt
group_taken states.Done Sink = Source
group_taken states.Ready Sink = Sink
group_taken states.Blocked Sink = Sink
group_taken told Source = Source
group_taken told Done = Done

-- and once all of its rows were given
abbrev pub groups_given : Bool → GroupAt → GroupAt
groups_given true Source = Done
groups_given false Source = Source
groups_given given Sink = Sink
groups_given given Done = Done

-- where the table moves it: by one move after the other; and where nobody takes what it gives, it is done
abbrev pub group_moved : Bool → PortState → PortState → GroupAt → GroupAt
group_moved given taken states.Done at = Done
group_moved given taken states.Ready at = groups_given given (group_taken taken at)
group_moved given taken states.Blocked at = groups_given given (group_taken taken at)

-- what its ports answer then
abbrev pub group_answers : GroupAt → GroupPorts
group_answers Sink = record { taken = states.Ready; sent = states.Blocked }
group_answers Source = record { taken = states.Done; sent = states.Ready }
group_answers Done = record { taken = states.Done; sent = states.Done }

-- the table: where it is, and whether its rows were given; what its ports are told; where it is then, and what they answer
pub record MovesGroupAt (at : GroupAt) (given : Bool) (recv send : List PortState) (now : GroupAt) (recv_now send_now : List PortState) : Type 0 where
  pub told : GroupPorts
  pub recv_is : recv ≡ told.taken ∷ []
  pub send_is : send ≡ told.sent ∷ []
  pub moved : now ≡ group_moved given told.taken told.sent at
  pub recv_now_is : recv_now ≡ (group_answers now).taken ∷ []
  pub send_now_is : send_now ≡ (group_answers now).sent ∷ []

-- no move is left after those of a call
abbrev pub NoGroupMoveIsLeft : Type 0
NoGroupMoveIsLeft = (at : GroupAt) (given : Bool) (taken sent : PortState) → group_moved given taken sent (group_moved given taken sent at) ≡ group_moved given taken sent at

-- what a unit that ended whole has sent for what it took: nothing, while rows are taken; for nothing all rows of the frame, each once, when they were; and then there are no units
abbrev pub MakesGroups : GroupAt → Option Table → List (List LoadSeen) → List (List LoadSeen) → Type 0
MakesGroups Sink frame taken sent = sent ≡ []
MakesGroups Source frame taken sent = (taken ≡ []) × ((table : Table) → frame ≡ Some table → rows_of_cuts (flat_map cuts_of_load (flat_map (λ loads. loads) sent)) ≡ table.rows)
MakesGroups Done frame taken sent = ⊥
