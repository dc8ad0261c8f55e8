-- What one port, two ports and more get, and what their lanes are for.
use Rattle.std.proofs.Common.{◌≡◌, All, List, [], ◌∷◌, length, map, replicate, ℕ, Option, refl, ap, sym, subst, ◌∙◌, arith}
use Rattle.std.proofs.lemmas.List.Elements.{All-cons, All-replicate, All-same}
use Rattle.morsel_ports.specs.declared.node.Ends.{Ends}
use Rattle.morsel_ports.specs.declared.node.Ends.TheVariants.{Absent, Serial}
use Rattle.morsel_ports.specs.declared.node.PortKind.{PortKind}
use Rattle.morsel_ports.specs.declared.node.PortKind.TheVariants as kinds
use Rattle.morsel_ports.specs.Nodes.{AreEndsFor, AreEndsOfKinds, HasEachPipeline, NodeSeen, kind_of_ends, port_ends}
use Rattle.morsel_join_lines.specs.JoinNodes.{AreForFirst, AreForSending, GivesFor, IsGiving, IsKeeping, KeepsFor}

pub all_none : {X : Type 0} (P : X → Type 0) → All P []
all_none P = λ k d lt. absurd (omega (arith, lt))

-- the kind of one port
pub one_kind : {E : Type 0} (pipelines : Option ℕ) (kinds : List PortKind) (ports : List (Ends E)) (port : Ends E) → ports ≡ port ∷ [] → kinds ≡ kind_of_ends port ∷ [] → HasEachPipeline pipelines port → AreEndsOfKinds kinds pipelines ports
one_kind {E} pipelines kinds ports port are of each = record {
  same = ap (map kind_of_ends) are ∙ sym of;
  each = All-same (HasEachPipeline {E = E} pipelines) ports (port ∷ []) are (All-cons (HasEachPipeline {E = E} pipelines) port [] each (all_none (HasEachPipeline {E = E} pipelines)));
}

-- those of two ports
pub two_kinds : {E : Type 0} (pipelines : Option ℕ) (kinds : List PortKind) (ports : List (Ends E)) (first second : Ends E) → ports ≡ first ∷ second ∷ [] → kinds ≡ kind_of_ends first ∷ kind_of_ends second ∷ []
    → HasEachPipeline pipelines first → HasEachPipeline pipelines second → AreEndsOfKinds kinds pipelines ports
two_kinds {E} pipelines kinds ports first second are of one other = record {
  same = ap (map kind_of_ends) are ∙ sym of;
  each = All-same (HasEachPipeline {E = E} pipelines) ports (first ∷ second ∷ []) are
      (All-cons (HasEachPipeline {E = E} pipelines) first (second ∷ []) one (All-cons (HasEachPipeline {E = E} pipelines) second [] other (all_none (HasEachPipeline {E = E} pipelines))));
}

-- the lanes of one port are for this job
pub one_for : {E J : Type 0} (P : J → E → Type 0) (ports : List (Ends E)) (jobs : List J) (port : Ends E) (job : J) → ports ≡ port ∷ [] → jobs ≡ job ∷ [] → All (P job) (port_ends port) → AreEndsFor P ports jobs
one_for {E} {J} P ports jobs port job are for all =
    subst (λ (some : List (Ends E)). AreEndsFor P some jobs) (sym are) (subst (λ (some : List J). AreEndsFor P (port ∷ []) some) (sym for) (all, tt))

-- those of two ports are for these two
pub two_for : {E J : Type 0} (P : J → E → Type 0) (ports : List (Ends E)) (jobs : List J) (first second : Ends E) (one other : J) → ports ≡ first ∷ second ∷ [] → jobs ≡ one ∷ other ∷ []
    → All (P one) (port_ends first) → All (P other) (port_ends second) → AreEndsFor P ports jobs
two_for {E} {J} P ports jobs first second one other are for these those =
    subst (λ (some : List (Ends E)). AreEndsFor P some jobs) (sym are) (subst (λ (some : List J). AreEndsFor P (first ∷ second ∷ []) some) (sym for) (these, (those, tt)))

-- of two ports the second one has ends
pub second_for : {E J : Type 0} (P : J → E → Type 0) (ports : List (Ends E)) (jobs : List J) (second : Ends E) (one other : J) → ports ≡ Absent ∷ second ∷ [] → jobs ≡ one ∷ other ∷ [] → All (P other) (port_ends second) → AreEndsFor P ports jobs
second_for {E} {J} P ports jobs second one other are for those = two_for P ports jobs Absent second one other are for (all_none (P one)) those

-- the only port has no ends, or one
pub absent_for : {E J : Type 0} (P : J → E → Type 0) (ports : List (Ends E)) (jobs : List J) (job : J) → ports ≡ Absent ∷ [] → jobs ≡ job ∷ [] → AreEndsFor P ports jobs
absent_for {E} {J} P ports jobs job are for = one_for P ports jobs Absent job are for (all_none (P job))

pub serial_for : {E J : Type 0} (P : J → E → Type 0) (ports : List (Ends E)) (jobs : List J) (end : E) (job : J) → ports ≡ Serial end ∷ [] → jobs ≡ job ∷ [] → P job end → AreEndsFor P ports jobs
serial_for {E} {J} P ports jobs end job are for this = one_for P ports jobs (Serial end) job are for (All-cons (P job) end [] this (all_none (P job)))

-- ports that have no ends are of no kind
absent_kinds : (E J : Type 0) (others : List J) → map (kind_of_ends {E = E}) (replicate (length others) Absent) ≡ map (λ (other : J). kinds.Absent) others
absent_kinds E J [] = refl
absent_kinds E J (other ∷ others) = ap (λ (of : List PortKind). kinds.Absent ∷ of) (absent_kinds E J others)

absent_ends : {E J : Type 0} (P : J → E → Type 0) (others : List J) → AreEndsFor P (replicate (length others) Absent) others
absent_ends P [] = tt
absent_ends P (other ∷ others) = (all_none (P other), absent_ends P others)

-- the kinds of ports of which the first one alone has ends, and what those are for
pub first_kinds : {E J : Type 0} (pipelines : Option ℕ) (of : List PortKind) (ports : List (Ends E)) (first : Ends E) (others : List J) → ports ≡ first ∷ replicate (length others) Absent
    → of ≡ kind_of_ends first ∷ map (λ (other : J). kinds.Absent) others → HasEachPipeline pipelines first → AreEndsOfKinds of pipelines ports
first_kinds {E} {J} pipelines of ports first others are same each = record {
  same = ap (map kind_of_ends) are ∙ ap (λ (more : List PortKind). kind_of_ends first ∷ more) (absent_kinds E J others) ∙ sym same;
  each = All-same (HasEachPipeline {E = E} pipelines) ports (first ∷ replicate (length others) Absent) are
      (All-cons (HasEachPipeline {E = E} pipelines) first (replicate (length others) Absent) each (All-replicate (HasEachPipeline {E = E} pipelines) (length others) Absent tt));
}

pub first_of_more : {E J : Type 0} (P : J → E → Type 0) (ports : List (Ends E)) (jobs : List J) (first : Ends E) (one : J) (others : List J) → ports ≡ first ∷ replicate (length others) Absent → jobs ≡ one ∷ others
    → All (P one) (port_ends first) → AreEndsFor P ports jobs
first_of_more {E} {J} P ports jobs first one others are for these =
    subst (λ (some : List (Ends E)). AreEndsFor P some jobs) (sym are) (subst (λ (some : List J). AreEndsFor P (first ∷ replicate (length others) Absent) some) (sym for) (these, absent_ends P others))

-- the kinds of ports of which none has ends, and that they are for any jobs
pub no_kinds : {E J : Type 0} (pipelines : Option ℕ) (of : List PortKind) (ports : List (Ends E)) (jobs : List J) → ports ≡ replicate (length jobs) Absent → of ≡ map (λ (from : J). kinds.Absent) jobs → AreEndsOfKinds of pipelines ports
no_kinds {E} {J} pipelines of ports jobs are same = record {
  same = ap (map kind_of_ends) are ∙ absent_kinds E J jobs ∙ sym same;
  each = All-same (HasEachPipeline {E = E} pipelines) ports (replicate (length jobs) Absent) are (All-replicate (HasEachPipeline {E = E} pipelines) (length jobs) Absent tt);
}

pub none_of_more : {E J : Type 0} (P : J → E → Type 0) (ports : List (Ends E)) (jobs : List J) → ports ≡ replicate (length jobs) Absent → AreEndsFor P ports jobs
none_of_more {E} {J} P ports jobs are = subst (λ (some : List (Ends E)). AreEndsFor P some jobs) (sym are) (absent_ends P jobs)

-- the node of a join keeps what comes through its first port
pub keeps_by_first : {J : Type 0} (pipelines : ℕ) (job : J) (recv send : List J) (seen : NodeSeen) → IsKeeping pipelines seen → AreForFirst job recv send → KeepsFor pipelines job recv send seen
keeps_by_first pipelines job recv send seen is for = record {
  others = for.other ∷ [];
  unused = for.unused;
  takes = for.takes;
  gives = for.gives;
  ready = is.ready;
  none_out = is.none_out;
  recv_kinds = is.takes;
  send_kinds = is.gives;
}

-- the node of a join gives of what it has kept
pub gives_of_kept : {J : Type 0} (pipelines : ℕ) (job : J) (recv send : List J) (seen : NodeSeen) → IsGiving pipelines seen → AreForSending job recv send → GivesFor pipelines job recv send seen
gives_of_kept {J} pipelines job recv send seen is for = record {
  gives = for.gives;
  ready = is.ready;
  none_out = is.none_out;
  recv_kinds = is.takes ∙ ap (map (λ (from : J). kinds.Absent)) (sym for.takes);
  send_kinds = is.gives;
}
