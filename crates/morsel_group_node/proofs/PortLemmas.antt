-- The ends that the ports of a group-by get.
use Rattle.std.proofs.Common.{◌≡◌, ℕ, List, [], ◌∷◌, All, length, false, Option, Some, refl, sym, ap, subst, ◌∙◌}
use Rattle.std.specs.List.{slice_get}
use Rattle.std.specs.Prelude.{Vec}
use Rattle.std.specs.declared.alloc.Global.{Global}
use Rattle.std.proofs.lemmas.List.Elements.{All-head}
use Rattle.morsel_ports.specs.declared.node.Ends.{Ends}
use Rattle.morsel_ports.specs.declared.node.Ends.TheVariants.{Absent, Parallel, Serial}
use Rattle.morsel_ports.specs.declared.node.PortKind.TheVariants as kinds
use Rattle.morsel_ports.specs.Nodes.{AreEndsFor, AreEndsOfKinds, HasEachPipeline, IsSameNode, NodeSeen}
use Rattle.morsel_group_phases.specs.declared.places.GroupAt.{GroupAt}
use Rattle.morsel_group_phases.specs.declared.places.GroupAt.TheVariants as at
use Rattle.morsel_group_phases.specs.GroupTables.{group_recv_kinds, group_send_kinds}

-- a port has an end for each pipeline, or one, or none
pub each_port : {E : Type 0} (pipelines : Option ℕ) (ports : List (Ends E)) → AreEndsOfKinds (kinds.Parallel ∷ []) pipelines ports
    → (ends : Vec E Global) × (ports ≡ Parallel ends ∷ []) × (pipelines ≡ Some (length ends.items))
each_port pipelines [] are = let same = are.same in absurd (cc)
each_port pipelines (Absent ∷ ports) are = let same = are.same in absurd (cc)
each_port pipelines (Serial end ∷ ports) are = let same = are.same in absurd (cc)
each_port pipelines (Parallel ends ∷ []) are = (ends, refl, All-head (HasEachPipeline pipelines) (Parallel ends) [] are.each)
each_port pipelines (Parallel ends ∷ port ∷ ports) are = let same = are.same in absurd (cc)

pub one_port : {E : Type 0} (pipelines : Option ℕ) (ports : List (Ends E)) → AreEndsOfKinds (kinds.Serial ∷ []) pipelines ports → (end : E) × (ports ≡ Serial end ∷ [])
one_port pipelines [] are = let same = are.same in absurd (cc)
one_port pipelines (Absent ∷ ports) are = let same = are.same in absurd (cc)
one_port pipelines (Parallel ends ∷ ports) are = let same = are.same in absurd (cc)
one_port pipelines (Serial end ∷ []) are = (end, refl)
one_port pipelines (Serial end ∷ port ∷ ports) are = let same = are.same in absurd (cc)

pub no_port : {E : Type 0} (pipelines : Option ℕ) (ports : List (Ends E)) → AreEndsOfKinds (kinds.Absent ∷ []) pipelines ports → ports ≡ Absent ∷ []
no_port pipelines [] are = let same = are.same in absurd (cc)
no_port pipelines (Serial end ∷ ports) are = let same = are.same in absurd (cc)
no_port pipelines (Parallel ends ∷ ports) are = let same = are.same in absurd (cc)
no_port pipelines (Absent ∷ []) are = refl
no_port pipelines (Absent ∷ port ∷ ports) are = let same = are.same in absurd (cc)

-- the ends that were taken are those of the port
pub each_taken_port : {E : Type 0} (pipelines : Option ℕ) (ports : List (Ends E)) (ends : Vec E Global) → AreEndsOfKinds (kinds.Parallel ∷ []) pipelines ports → slice_get ports 0 ≡ Some (Parallel ends)
    → (ports ≡ Parallel ends ∷ []) × (pipelines ≡ Some (length ends.items))
each_taken_port {E} pipelines ports ends are taken =
    let port = each_port pipelines ports are in
    let first : Some (Parallel port.0) ≡ Some (Parallel ends) = sym (subst (λ (ps : List (Ends E)). slice_get ps 0 ≡ Some (Parallel port.0)) (sym port.1) refl) ∙ taken in
    let same : port.0 ≡ ends = cc in
    (subst (λ (v : Vec E Global). ports ≡ Parallel v ∷ []) same port.1, subst (λ (v : Vec E Global). pipelines ≡ Some (length v.items)) same port.2)

pub one_taken : {E : Type 0} (pipelines : Option ℕ) (ports : List (Ends E)) (end : E) → AreEndsOfKinds (kinds.Serial ∷ []) pipelines ports → slice_get ports 0 ≡ Some (Serial end) → ports ≡ Serial end ∷ []
one_taken {E} pipelines ports end are taken =
    let port = one_port pipelines ports are in
    let first : Some (Serial port.0) ≡ Some (Serial end) = sym (subst (λ (ps : List (Ends E)). slice_get ps 0 ≡ Some (Serial port.0)) (sym port.1) refl) ∙ taken in
    let same : port.0 ≡ end = cc in
    subst (λ (e : E). ports ≡ Serial e ∷ []) same port.1

-- what is so of the ends of a port, for the job of its lanes
pub of_each : {E J : Type 0} (P : J → E → Type 0) (ports : List (Ends E)) (ends : Vec E Global) (jobs : List J) (sent : J) → ports ≡ Parallel ends ∷ [] → jobs ≡ sent ∷ [] → AreEndsFor P ports jobs → All (P sent) ends.items
of_each P ports ends jobs sent ports_are jobs_are are = (subst (λ js. AreEndsFor P (Parallel ends ∷ []) js) jobs_are (subst (λ ps. AreEndsFor P ps jobs) ports_are are)).0

pub of_one : {E J : Type 0} (P : J → E → Type 0) (ports : List (Ends E)) (end : E) (jobs : List J) (sent : J) → ports ≡ Serial end ∷ [] → jobs ≡ sent ∷ [] → AreEndsFor P ports jobs → P sent end
of_one P ports end jobs sent ports_are jobs_are are = All-head (P sent) end [] (subst (λ js. AreEndsFor P (Serial end ∷ []) js) jobs_are (subst (λ ps. AreEndsFor P ps jobs) ports_are are)).0

-- wherever a group-by is, it has one receiving port and one sending port
pub one_recv : (place : GroupAt) → length (group_recv_kinds place) ≡ 1
one_recv at.Sink = refl
one_recv at.Source = refl
one_recv at.Done = refl

pub one_send : (place : GroupAt) → length (group_send_kinds place) ≡ 1
one_send at.Sink = refl
one_send at.Source = refl
one_send at.Done = refl

-- what is seen of a group-by, by where it is
abbrev pub seen_there : List ℕ → Option ℕ → GroupAt → ℕ → NodeSeen
seen_there name pipelines place units = record { name = name; blocks = false; pipelines = pipelines; recv_kinds = group_recv_kinds place; send_kinds = group_send_kinds place; units = units }

pub seen_same : (name : List ℕ) (pipelines : Option ℕ) (place now : GroupAt) (n m : ℕ) → now ≡ place → n ≡ m → seen_there name pipelines now n ≡ seen_there name pipelines place m
seen_same name pipelines place now n m at many = ap (λ (p : GroupAt). seen_there name pipelines p n) at ∙ ap (seen_there name pipelines place) many

-- only where it is may change
pub same_node : (name : List ℕ) (pipelines : Option ℕ) (units : ℕ) (place now : GroupAt) → IsSameNode (seen_there name pipelines place units) (seen_there name pipelines now units)
same_node name pipelines units place now = record {
  same_name = refl;
  same_pipelines = refl;
  same_recv = one_recv now ∙ sym (one_recv place);
  same_send = one_send now ∙ sym (one_send place);
  same_units = refl;
}
