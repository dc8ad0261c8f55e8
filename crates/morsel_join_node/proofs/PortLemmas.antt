-- The ends that the ports of a join get.
use Rattle.std.proofs.Common.{◌≡◌, ℕ, Bool, List, [], ◌∷◌, All, length, Option, Some, refl, sym, ap, subst, ◌∙◌}
use Rattle.std.specs.List.{slice_get}
use Rattle.std.specs.Prelude.{Vec}
use Rattle.std.specs.declared.alloc.Global.{Global}
use Rattle.std.proofs.lemmas.List.Elements.{All-head, All-tail}
use Rattle.morsel_ports.specs.declared.node.Ends.{Ends}
use Rattle.morsel_ports.specs.declared.node.Ends.TheVariants.{Absent, Parallel, Serial}
use Rattle.morsel_ports.specs.declared.node.PortKind.TheVariants as kinds
use Rattle.morsel_ports.specs.Nodes.{AreEndsFor, AreEndsOfKinds, HasEachPipeline, IsSameNode, NodeSeen}
use Rattle.morsel_join_phases.specs.declared.places.JoinAt.{JoinAt}
use Rattle.morsel_join_phases.specs.declared.places.JoinAt.TheVariants as at
use Rattle.morsel_join_phases.specs.JoinTables.{is_keeping, recv_kinds_at, send_kinds_at}

-- the receiving ports while rows are kept: the first one has an end for each pipeline
pub kept_ports : {E : Type 0} (pipelines : Option ℕ) (ports : List (Ends E)) → AreEndsOfKinds (kinds.Parallel ∷ kinds.Absent ∷ []) pipelines ports
    → (ends : Vec E Global) × (ports ≡ Parallel ends ∷ Absent ∷ []) × (pipelines ≡ Some (length ends.items))
kept_ports pipelines [] are = let same = are.same in absurd (cc)
kept_ports pipelines (Absent ∷ ports) are = let same = are.same in absurd (cc)
kept_ports pipelines (Serial end ∷ ports) are = let same = are.same in absurd (cc)
kept_ports pipelines (Parallel ends ∷ []) are = let same = are.same in absurd (cc)
kept_ports pipelines (Parallel ends ∷ Absent ∷ []) are = (ends, refl, All-head (HasEachPipeline pipelines) (Parallel ends) (Absent ∷ []) are.each)
kept_ports pipelines (Parallel ends ∷ Serial end ∷ ports) are = let same = are.same in absurd (cc)
kept_ports pipelines (Parallel ends ∷ Parallel others ∷ ports) are = let same = are.same in absurd (cc)
kept_ports pipelines (Parallel ends ∷ Absent ∷ port ∷ ports) are = let same = are.same in absurd (cc)

-- while rows are looked up: the second one has
pub asked_ports : {E : Type 0} (pipelines : Option ℕ) (ports : List (Ends E)) → AreEndsOfKinds (kinds.Absent ∷ kinds.Parallel ∷ []) pipelines ports
    → (ends : Vec E Global) × (ports ≡ Absent ∷ Parallel ends ∷ []) × (pipelines ≡ Some (length ends.items))
asked_ports pipelines [] are = let same = are.same in absurd (cc)
asked_ports pipelines (Parallel ends ∷ ports) are = let same = are.same in absurd (cc)
asked_ports pipelines (Serial end ∷ ports) are = let same = are.same in absurd (cc)
asked_ports pipelines (Absent ∷ []) are = let same = are.same in absurd (cc)
asked_ports pipelines (Absent ∷ Absent ∷ ports) are = let same = are.same in absurd (cc)
asked_ports pipelines (Absent ∷ Serial end ∷ ports) are = let same = are.same in absurd (cc)
asked_ports pipelines (Absent ∷ Parallel ends ∷ []) are = (ends, refl, All-head (HasEachPipeline pipelines) (Parallel ends) [] (All-tail (HasEachPipeline pipelines) Absent (Parallel ends ∷ []) are.each))
asked_ports pipelines (Absent ∷ Parallel ends ∷ port ∷ ports) are = let same = are.same in absurd (cc)

-- the sending port has an end for each pipeline, or one, or none
pub sent_ports : {E : Type 0} (pipelines : Option ℕ) (ports : List (Ends E)) → AreEndsOfKinds (kinds.Parallel ∷ []) pipelines ports
    → (ends : Vec E Global) × (ports ≡ Parallel ends ∷ []) × (pipelines ≡ Some (length ends.items))
sent_ports pipelines [] are = let same = are.same in absurd (cc)
sent_ports pipelines (Absent ∷ ports) are = let same = are.same in absurd (cc)
sent_ports pipelines (Serial end ∷ ports) are = let same = are.same in absurd (cc)
sent_ports pipelines (Parallel ends ∷ []) are = (ends, refl, All-head (HasEachPipeline pipelines) (Parallel ends) [] are.each)
sent_ports pipelines (Parallel ends ∷ port ∷ ports) are = let same = are.same in absurd (cc)

pub one_port : {E : Type 0} (pipelines : Option ℕ) (ports : List (Ends E)) → AreEndsOfKinds (kinds.Serial ∷ []) pipelines ports → (end : E) × (ports ≡ Serial end ∷ [])
one_port pipelines [] are = let same = are.same in absurd (cc)
one_port pipelines (Absent ∷ ports) are = let same = are.same in absurd (cc)
one_port pipelines (Parallel ends ∷ ports) are = let same = are.same in absurd (cc)
one_port pipelines (Serial end ∷ []) are = (end, refl)
one_port pipelines (Serial end ∷ port ∷ ports) are = let same = are.same in absurd (cc)

pub no_port : {E : Type 0} (pipelines : Option ℕ) (ports : List (Ends E)) → AreEndsOfKinds (kinds.Absent ∷ []) pipelines ports → ports ≡ Absent ∷ []
no_port pipelines [] are = let same = are.same in absurd (cc)
no_port pipelines (Serial end ∷ ports) are = let same = are.same in absurd (cc)
no_port pipelines (Parallel ends ∷ ports) are = let same = are.same in absurd (cc)
no_port pipelines (Absent ∷ []) are = refl
no_port pipelines (Absent ∷ port ∷ ports) are = let same = are.same in absurd (cc)

pub no_ports : {E : Type 0} (pipelines : Option ℕ) (ports : List (Ends E)) → AreEndsOfKinds (kinds.Absent ∷ kinds.Absent ∷ []) pipelines ports → ports ≡ Absent ∷ Absent ∷ []
no_ports pipelines [] are = let same = are.same in absurd (cc)
no_ports pipelines (Serial end ∷ ports) are = let same = are.same in absurd (cc)
no_ports pipelines (Parallel ends ∷ ports) are = let same = are.same in absurd (cc)
no_ports pipelines (Absent ∷ []) are = let same = are.same in absurd (cc)
no_ports pipelines (Absent ∷ Serial end ∷ ports) are = let same = are.same in absurd (cc)
no_ports pipelines (Absent ∷ Parallel ends ∷ ports) are = let same = are.same in absurd (cc)
no_ports pipelines (Absent ∷ Absent ∷ []) are = refl
no_ports pipelines (Absent ∷ Absent ∷ port ∷ ports) are = let same = are.same in absurd (cc)

-- the ends that were taken are those of the port
pub kept_taken : {E : Type 0} (pipelines : Option ℕ) (ports : List (Ends E)) (ends : Vec E Global) → AreEndsOfKinds (kinds.Parallel ∷ kinds.Absent ∷ []) pipelines ports → slice_get ports 0 ≡ Some (Parallel ends)
    → (ports ≡ Parallel ends ∷ Absent ∷ []) × (pipelines ≡ Some (length ends.items))
kept_taken {E} pipelines ports ends are taken =
    let port = kept_ports pipelines ports are in
    let first : Some (Parallel port.0) ≡ Some (Parallel ends) = sym (subst (λ (ps : List (Ends E)). slice_get ps 0 ≡ Some (Parallel port.0)) (sym port.1) refl) ∙ taken in
    let same : port.0 ≡ ends = cc in
    (subst (λ (v : Vec E Global). ports ≡ Parallel v ∷ Absent ∷ []) same port.1, subst (λ (v : Vec E Global). pipelines ≡ Some (length v.items)) same port.2)

pub asked_taken : {E : Type 0} (pipelines : Option ℕ) (ports : List (Ends E)) (ends : Vec E Global) → AreEndsOfKinds (kinds.Absent ∷ kinds.Parallel ∷ []) pipelines ports → slice_get ports 1 ≡ Some (Parallel ends)
    → (ports ≡ Absent ∷ Parallel ends ∷ []) × (pipelines ≡ Some (length ends.items))
asked_taken {E} pipelines ports ends are taken =
    let port = asked_ports pipelines ports are in
    let first : Some (Parallel port.0) ≡ Some (Parallel ends) = sym (subst (λ (ps : List (Ends E)). slice_get ps 1 ≡ Some (Parallel port.0)) (sym port.1) refl) ∙ taken in
    let same : port.0 ≡ ends = cc in
    (subst (λ (v : Vec E Global). ports ≡ Absent ∷ Parallel v ∷ []) same port.1, subst (λ (v : Vec E Global). pipelines ≡ Some (length v.items)) same port.2)

pub sent_taken : {E : Type 0} (pipelines : Option ℕ) (ports : List (Ends E)) (ends : Vec E Global) → AreEndsOfKinds (kinds.Parallel ∷ []) pipelines ports → slice_get ports 0 ≡ Some (Parallel ends)
    → (ports ≡ Parallel ends ∷ []) × (pipelines ≡ Some (length ends.items))
sent_taken {E} pipelines ports ends are taken =
    let port = sent_ports pipelines ports are in
    let first : Some (Parallel port.0) ≡ Some (Parallel ends) = sym (subst (λ (ps : List (Ends E)). slice_get ps 0 ≡ Some (Parallel port.0)) (sym port.1) refl) ∙ taken in
    let same : port.0 ≡ ends = cc in
    (subst (λ (v : Vec E Global). ports ≡ Parallel v ∷ []) same port.1, subst (λ (v : Vec E Global). pipelines ≡ Some (length v.items)) same port.2)

pub one_taken : {E : Type 0} (pipelines : Option ℕ) (ports : List (Ends E)) (end : E) → AreEndsOfKinds (kinds.Serial ∷ []) pipelines ports → slice_get ports 0 ≡ Some (Serial end) → ports ≡ Serial end ∷ []
one_taken {E} pipelines ports end are taken =
    let port = one_port pipelines ports are in
    let first : Some (Serial port.0) ≡ Some (Serial end) = sym (subst (λ (ps : List (Ends E)). slice_get ps 0 ≡ Some (Serial port.0)) (sym port.1) refl) ∙ taken in
    let same : port.0 ≡ end = cc in
    subst (λ (e : E). ports ≡ Serial e ∷ []) same port.1

-- what is so of the ends of a port, for the job of its lanes
pub of_kept : {E J : Type 0} (P : J → E → Type 0) (ports : List (Ends E)) (ends : Vec E Global) (jobs : List J) (kept asked : J) → ports ≡ Parallel ends ∷ Absent ∷ [] → jobs ≡ kept ∷ asked ∷ [] → AreEndsFor P ports jobs → All (P kept) ends.items
of_kept P ports ends jobs kept asked ports_are jobs_are are = (subst (λ js. AreEndsFor P (Parallel ends ∷ Absent ∷ []) js) jobs_are (subst (λ ps. AreEndsFor P ps jobs) ports_are are)).0

pub of_asked : {E J : Type 0} (P : J → E → Type 0) (ports : List (Ends E)) (ends : Vec E Global) (jobs : List J) (kept asked : J) → ports ≡ Absent ∷ Parallel ends ∷ [] → jobs ≡ kept ∷ asked ∷ [] → AreEndsFor P ports jobs → All (P asked) ends.items
of_asked P ports ends jobs kept asked ports_are jobs_are are = (subst (λ js. AreEndsFor P (Absent ∷ Parallel ends ∷ []) js) jobs_are (subst (λ ps. AreEndsFor P ps jobs) ports_are are)).1.0

pub of_sent : {E J : Type 0} (P : J → E → Type 0) (ports : List (Ends E)) (ends : Vec E Global) (jobs : List J) (sent : J) → ports ≡ Parallel ends ∷ [] → jobs ≡ sent ∷ [] → AreEndsFor P ports jobs → All (P sent) ends.items
of_sent P ports ends jobs sent ports_are jobs_are are = (subst (λ js. AreEndsFor P (Parallel ends ∷ []) js) jobs_are (subst (λ ps. AreEndsFor P ps jobs) ports_are are)).0

pub of_one : {E J : Type 0} (P : J → E → Type 0) (ports : List (Ends E)) (end : E) (jobs : List J) (sent : J) → ports ≡ Serial end ∷ [] → jobs ≡ sent ∷ [] → AreEndsFor P ports jobs → P sent end
of_one P ports end jobs sent ports_are jobs_are are = All-head (P sent) end [] (subst (λ js. AreEndsFor P (Serial end ∷ []) js) jobs_are (subst (λ ps. AreEndsFor P ps jobs) ports_are are)).0

-- there are as many ends on both sides
pub as_many_ends : (pipelines : Option ℕ) (n m : ℕ) → pipelines ≡ Some n → pipelines ≡ Some m → n ≡ m
as_many_ends pipelines n m one other = let both : Some n ≡ Some m = sym one ∙ other in cc

-- wherever a join is, it has two receiving ports and one sending port
pub two_recv : (place : JoinAt) → length (recv_kinds_at place) ≡ 2
two_recv at.Build = refl
two_recv at.Probe = refl
two_recv at.Emit = refl
two_recv at.Done = refl

pub one_send : (place : JoinAt) → length (send_kinds_at place) ≡ 1
one_send at.Build = refl
one_send at.Probe = refl
one_send at.Emit = refl
one_send at.Done = refl

-- what is seen of a join, by where it is
abbrev pub seen_there : List ℕ → Option ℕ → JoinAt → ℕ → NodeSeen
seen_there name pipelines place units = record { name = name; blocks = is_keeping place; pipelines = pipelines; recv_kinds = recv_kinds_at place; send_kinds = send_kinds_at place; units = units }

pub seen_same : (name : List ℕ) (pipelines : Option ℕ) (place now : JoinAt) (n m : ℕ) → now ≡ place → n ≡ m → seen_there name pipelines now n ≡ seen_there name pipelines place m
seen_same name pipelines place now n m at many = ap (λ (p : JoinAt). seen_there name pipelines p n) at ∙ ap (seen_there name pipelines place) many

-- only where it is may change
pub same_node : (name : List ℕ) (blocks later : Bool) (pipelines : Option ℕ) (units : ℕ) (place now : JoinAt)
    → IsSameNode (record { name = name; blocks = blocks; pipelines = pipelines; recv_kinds = recv_kinds_at place; send_kinds = send_kinds_at place; units = units })
    (record { name = name; blocks = later; pipelines = pipelines; recv_kinds = recv_kinds_at now; send_kinds = send_kinds_at now; units = units })
same_node name blocks later pipelines units place now = record {
  same_name = refl;
  same_pipelines = refl;
  same_recv = two_recv now ∙ sym (two_recv place);
  same_send = one_send now ∙ sym (one_send place);
  same_units = refl;
}
