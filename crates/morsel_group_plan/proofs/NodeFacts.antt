-- The node of a group-by: its ports, what stays of it, and its faults.
use Rattle.std.proofs.Common.{◌≡◌, ◌⊎◌, inl, inr, ◌∷◌, [], ℕ, List, Some, Result, Ok, Err, IfErr, OnOk, map, refl, sym, ap, subst, ◌∙◌}
use Rattle.morsel_meaning.specs.declared.fault.Fault.{Fault}
use Rattle.morsel_meaning.specs.declared.fault.Fault.TheVariants as faults
use Rattle.atomic_table.specs.Seated.{TableId}
use Rattle.morsel_meaning.specs.declared.value.Field.{Field}
use Rattle.morsel_outside.specs.Outside.{Outside}
use Rattle.morsel_scan.specs.Scans.{CsvScan}
use Rattle.morsel_scan.specs.ScanColumns.{output_fields}
use Rattle.morsel_read.specs.ScanReads.{PiecesRead}
use Rattle.morsel_scan_units.specs.LaneJobs.{LaneFor}
use Rattle.morsel_scan_units.specs.LaneRows.{CarriesCuts}
use Rattle.morsel_join_plan.specs.JoinLanes.{rows_lane}
use Rattle.morsel_ports.specs.Nodes.{NodeSeen}
use Rattle.morsel_ports.specs.declared.node.PortKind.TheVariants as kinds
use Rattle.morsel_join_lines.specs.JoinNodes.{GivesFor, KeepsFor}
use Rattle.morsel_group_phases.specs.declared.places.GroupAt.{GroupAt}
use Rattle.morsel_group_phases.specs.declared.places.GroupAt.TheVariants as at
use Rattle.morsel_group_phases.specs.GroupTables.{group_recv_kinds, group_send_kinds}
use Rattle.morsel_group_node.specs.declared.node.GroupByNode.{GroupByNode}
use Rattle.morsel_group_node.specs.GroupNodes.{StaysGroupNode}

-- of itself all stays
pub stays_same : {K J : Type 0} {a b : _} (node : GroupByNode K J a b) → StaysGroupNode node node
stays_same node = (
  λ n is. is,
  record { at = inl refl; rules = λ x is. is; job = λ x is. (is, refl); frame = λ x is. is },
)

-- while lanes are there, no unit tells a fault but that memory is out
pub no_unit_fault : {J : Type 0} (job : J) (jobs : List J) (fault : Fault) (F : Type 0) → jobs ≡ job ∷ [] → (fault ≡ faults.OutOfMemory) ⊎ ((jobs ≡ []) × F) → fault ≡ faults.OutOfMemory
no_unit_fault job jobs fault F are (inl is) = is
no_unit_fault job jobs fault F are (inr may) = absurd (let none : job ∷ [] ≡ [] = sym are ∙ may.0 in cc)

-- where states move, a fault is one of the group-by
pub move_fault : {J : Type 0} (jobs : List J) (fault : Fault) (F : Type 0) → (fault ≡ faults.OutOfMemory) ⊎ ((jobs ≡ []) × F) → (fault ≡ faults.OutOfMemory) ⊎ F
move_fault jobs fault F (inl is) = inl is
move_fault jobs fault F (inr may) = inr may.1

-- the ports of a group-by that takes rows
pub taking_node : {J : Type 0} (pipelines : ℕ) (job unused : J) (recv send : List J) (seen : NodeSeen) (place : GroupAt) → recv ≡ job ∷ [] → send ≡ unused ∷ [] → seen.pipelines ≡ Some pipelines → seen.recv_kinds ≡ group_recv_kinds place → seen.send_kinds ≡ group_send_kinds place
    → seen.units ≡ 0 → place ≡ at.Sink → KeepsFor pipelines job recv send seen
taking_node pipelines job unused recv send seen place takes gives ready recv_kinds send_kinds out is = record {
  others = [];
  unused = unused;
  takes = takes;
  gives = gives;
  ready = ready;
  none_out = out;
  recv_kinds = recv_kinds ∙ ap group_recv_kinds is;
  send_kinds = send_kinds ∙ ap group_send_kinds is;
}

-- and of one that gives rows
pub giving_node : {T : Type 0} (pipelines : ℕ) (job taken : T) (recv send : List T) (seen : NodeSeen) (place : GroupAt) → recv ≡ taken ∷ [] → send ≡ job ∷ [] → seen.pipelines ≡ Some pipelines → seen.recv_kinds ≡ group_recv_kinds place → seen.send_kinds ≡ group_send_kinds place
    → seen.units ≡ 0 → place ≡ at.Source → GivesFor pipelines job recv send seen
giving_node {T} pipelines job taken recv send seen place takes gives ready recv_kinds send_kinds out is = record {
  gives = gives;
  ready = ready;
  none_out = out;
  recv_kinds = recv_kinds ∙ ap group_recv_kinds is ∙ sym (ap (λ (jobs : List T). map (λ (from : T). kinds.Absent) jobs) takes);
  send_kinds = send_kinds ∙ ap group_send_kinds is;
}

-- the lane of a scan's rows carries rows of its columns
pub carries_cuts : (scan : CsvScan) (reader : PiecesRead) (outside : Outside) (tokens : TableId) (rows : LaneFor) (columns : List Field) → rows ≡ rows_lane scan reader outside tokens → columns ≡ output_fields scan.scan → CarriesCuts rows columns
carries_cuts scan reader outside tokens rows columns is have = subst (λ (lane : LaneFor). CarriesCuts lane columns) (sym is) (record { kind = refl; have = sym have })

-- what follows where it went well, and where it did not
pub on_ok : {X : Type 0} (P Q : Type 0) (result : Result X Fault) → (P → Q) → OnOk result P → OnOk result Q
on_ok P Q (Ok x) follows is = follows is
on_ok P Q (Err fault) follows is = tt

pub if_err : {X : Type 0} (P Q : Fault → Type 0) (result : Result X Fault) → ((fault : Fault) → P fault → Q fault) → IfErr result P → IfErr result Q
if_err P Q (Ok x) follows is = tt
if_err P Q (Err fault) follows is = follows fault is

pub follows_fault : (fault : Fault) (F G : Type 0) → (F → G) → (fault ≡ faults.OutOfMemory) ⊎ F → (fault ≡ faults.OutOfMemory) ⊎ G
follows_fault fault F G follows (inl is) = inl is
follows_fault fault F G follows (inr may) = inr (follows may)
