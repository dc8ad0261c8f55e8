-- The ends and the units of a node of one receiving and one sending port, both parallel.
use Rattle.std.proofs.Common.{◌≡◌, ◌⊎◌, inl, inr, ◌<◌, ◌≤◌, ◌++◌, ℕ, zero, suc, List, [], ◌∷◌, All, map, length, Option, Some, None, refl, sym, ap, subst, ◌∙◌, arith}
use Rattle.std.specs.List.{slice_get}
use Rattle.std.specs.Prelude.{Vec}
use Rattle.std.specs.declared.alloc.Global.{Global}
use Rattle.std.proofs.lemmas.List.Elements.{All-head}
use Rattle.atomic_table.specs.Seated.{TableId}
use Rattle.morsel_prims.specs.Polled.{LaneId, held_list}
use Rattle.morsel_load.specs.Loads.{load_seen}
use Rattle.morsel_load.specs.declared.load.Load.{Load}
use Rattle.morsel_lane_pipe.specs.Stretches.{ends_of, stretches}
use Rattle.morsel_meaning.specs.declared.fault.Fault.{Fault}
use Rattle.morsel_meaning.specs.declared.fault.Fault.TheVariants as faults
use Rattle.morsel_lane_pipe.specs.Tasks.{AreReceipts, Has, IfFailed, IfWhole, IsWorkOf, MakesOthers, PipeRole, TaskSeen}
use Rattle.morsel_lane_pipe.specs.declared.receipts.PipeOut.{PipeOut}
use Rattle.morsel_lane_pipe.specs.declared.receipts.PipeOut.TheVariants.{Whole, Cut, OutOfMemory, Failed}
use Rattle.morsel_lane_pipe.specs.declared.receipts.Receipts.{Receipts}
use Rattle.morsel_ports.specs.declared.node.Ends.{Ends}
use Rattle.morsel_ports.specs.declared.node.Ends.TheVariants.{Absent, Parallel, Serial}
use Rattle.morsel_ports.specs.declared.node.PortKind.TheVariants as kinds
use Rattle.morsel_ports.specs.Nodes.{AreEndsFor, AreEndsOfKinds, AreUnitsBetween, end_of_out, HasEachPipeline, IfEndedWhole, unit_between, UnitSeen}
use Rattle.morsel_nodes.specs.MakerNodes.{MayFail, lanes_of_pairs, seen_stretches}

-- one port with an end for each pipeline
pub one_port : {E : Type 0} (pipelines : Option ℕ) (ports : List (Ends E)) → AreEndsOfKinds (kinds.Parallel ∷ []) pipelines ports
    → (ends : Vec E Global) × (ports ≡ Parallel ends ∷ []) × (pipelines ≡ Some (length ends.items))
one_port pipelines [] are = let same = are.same in absurd (cc)
one_port pipelines (Absent ∷ ports) are = let same = are.same in absurd (cc)
one_port pipelines (Serial end ∷ ports) are = let same = are.same in absurd (cc)
one_port pipelines (Parallel ends ∷ []) are = (ends, refl, All-head (HasEachPipeline pipelines) (Parallel ends) [] are.each)
one_port pipelines (Parallel ends ∷ port ∷ ports) are = let same = are.same in absurd (cc)

-- there are as many ends as pipelines
pub pipelines_are : {E : Type 0} (pipelines : Option ℕ) (ports : List (Ends E)) (ends : Vec E Global) → AreEndsOfKinds (kinds.Parallel ∷ []) pipelines ports → ports ≡ Parallel ends ∷ [] → pipelines ≡ Some (length ends.items)
pipelines_are pipelines ports ends are is = All-head (HasEachPipeline pipelines) (Parallel ends) [] (subst (All (HasEachPipeline pipelines)) is are.each)

pub as_many_ends : (pipelines : Option ℕ) (n m : ℕ) → pipelines ≡ Some n → pipelines ≡ Some m → n ≡ m
as_many_ends pipelines n m one other = let both : Some n ≡ Some m = sym one ∙ other in cc

-- all its ends are for the one job
pub one_job : {E J : Type 0} (is_for : J → E → Type 0) (ports : List (Ends E)) (ends : Vec E Global) (jobs : List J) (job : J) → ports ≡ Parallel ends ∷ [] → jobs ≡ job ∷ [] → AreEndsFor is_for ports jobs → All (is_for job) ends.items
one_job is_for ports ends jobs job ports_are jobs_are are = (subst (λ js. AreEndsFor is_for (Parallel ends ∷ []) js) jobs_are (subst (λ ps. AreEndsFor is_for ps jobs) ports_are are)).0

-- the unit between two ends of the same place
module _ {U R S : Type 0} (seen : U → UnitSeen) (taken_lane : R → LaneId) (sent_lane : S → LaneId) (table : TableId) where
  abbrev place_of : List R → List S → ℕ → UnitSeen
  place_of rs ss i = record { home = table; from = map taken_lane (held_list (slice_get rs i) ++ []); to = map sent_lane (held_list (slice_get ss i) ++ []) }

  each_place : (rs : List R) (ss : List S) (units : List U) → map seen units ≡ lanes_of_pairs table (map taken_lane rs) (map sent_lane ss)
      → (i : ℕ) (unit : U) → slice_get units i ≡ Some unit → seen unit ≡ place_of rs ss i
  each_place rs ss [] are i unit is = absurd (let none : None ≡ Some unit = is in cc)
  each_place [] ss (first ∷ units) are i unit is = absurd (let none : seen first ∷ map seen units ≡ [] = are in cc)
  each_place (r ∷ rs) [] (first ∷ units) are i unit is = absurd (let none : seen first ∷ map seen units ≡ [] = are in cc)
  each_place (r ∷ rs) (s ∷ ss) (first ∷ units) are zero unit is =
      let both : seen first ∷ map seen units ≡ record { home = table; from = taken_lane r ∷ []; to = sent_lane s ∷ [] } ∷ lanes_of_pairs table (map taken_lane rs) (map sent_lane ss) = are in
      let same : first ≡ unit = cc in let head : seen first ≡ record { home = table; from = taken_lane r ∷ []; to = sent_lane s ∷ [] } = cc in ap seen (sym same) ∙ head
  each_place (r ∷ rs) (s ∷ ss) (first ∷ units) are (suc i) unit is =
      let both : seen first ∷ map seen units ≡ record { home = table; from = taken_lane r ∷ []; to = sent_lane s ∷ [] } ∷ lanes_of_pairs table (map taken_lane rs) (map sent_lane ss) = are in
      let rest : map seen units ≡ lanes_of_pairs table (map taken_lane rs) (map sent_lane ss) = cc in each_place rs ss units rest i unit is

  pub as_many_units : (rs : List R) (ss : List S) (units : List U) → length rs ≡ length ss → map seen units ≡ lanes_of_pairs table (map taken_lane rs) (map sent_lane ss) → length units ≡ length rs
  as_many_units [] ss [] same are = refl
  as_many_units [] ss (first ∷ units) same are = absurd (let none : seen first ∷ map seen units ≡ [] = are in cc)
  as_many_units (r ∷ rs) [] units same are = absurd (omega (arith, same))
  as_many_units (r ∷ rs) (s ∷ ss) [] same are = absurd (let none : [] ≡ record { home = table; from = taken_lane r ∷ []; to = sent_lane s ∷ [] } ∷ lanes_of_pairs table (map taken_lane rs) (map sent_lane ss) = are in cc)
  as_many_units (r ∷ rs) (s ∷ ss) (first ∷ units) same are =
      let both : seen first ∷ map seen units ≡ record { home = table; from = taken_lane r ∷ []; to = sent_lane s ∷ [] } ∷ lanes_of_pairs table (map taken_lane rs) (map sent_lane ss) = are in
      let rest : map seen units ≡ lanes_of_pairs table (map taken_lane rs) (map sent_lane ss) = cc in ap suc (as_many_units rs ss units (omega (arith, same)) rest)

some_within : {E : Type 0} (ends : List E) (i : ℕ) → i < length ends → held_list (slice_get ends i) ++ [] ≡ [] → ⊥
some_within [] i within none = omega (arith, within)
some_within (end ∷ ends) zero within none = cc
some_within (end ∷ ends) (suc i) within none = some_within ends i (omega (arith, within)) none

none_past : {E : Type 0} (ends : List E) (i : ℕ) → length ends ≤ i → held_list (slice_get ends i) ++ [] ≡ []
none_past [] i past = refl
none_past (end ∷ ends) zero past = absurd (omega (arith, past))
none_past (end ∷ ends) (suc i) past = none_past ends i (omega (arith, past))

-- the units between the ends of both ports
pub units_between : {U R S : Type 0} (seen : U → UnitSeen) (taken_lane : R → LaneId) (sent_lane : S → LaneId) (table : TableId) (from : Vec R Global) (to : Vec S Global) (units : List U) → length from.items ≡ length to.items
    → map seen units ≡ lanes_of_pairs table (map taken_lane from.items) (map sent_lane to.items)
    → AreUnitsBetween seen (unit_between taken_lane sent_lane table (Parallel from ∷ []) (Parallel to ∷ [])) (Parallel from ∷ []) (Parallel to ∷ []) units
units_between seen taken_lane sent_lane table from to units same are =
    let many : length units ≡ length from.items = as_many_units seen taken_lane sent_lane table from.items to.items units same are in record {
      each = λ i unit is. each_place seen taken_lane sent_lane table from.items to.items units are i unit is;
      some = λ i within none none_to. some_within from.items i (omega (arith, within, many)) none;
      no_more = λ i past. (none_past from.items i (omega (arith, past, many)), none_past to.items i (omega (arith, past, many, same)));
    }

-- the stretches of loads are those of what is seen of them
stretches_seen : {K J : Type 0} (loads : List (Load K J)) → stretches loads ≡ seen_stretches (map load_seen loads)
stretches_seen [] = refl
stretches_seen (load ∷ loads) = ap (λ more. ends_of (load_seen load) ++ more) (stretches_seen loads)

pub stretches_each : {K J R : Type 0} (loads : R → List (Load K J)) (receipts : List R) → map stretches (map loads receipts) ≡ map seen_stretches (map (λ receipt. map load_seen (loads receipt)) receipts)
stretches_each loads [] = refl
stretches_each loads (receipt ∷ receipts) = ap (λ x. x ∷ map stretches (map loads receipts)) (stretches_seen (loads receipt)) ∙ ap (λ xs. seen_stretches (map load_seen (loads receipt)) ∷ xs) (stretches_each loads receipts)

-- what a unit that ended whole has sent ends the stretches of what it took
pub made_by : {T R S K J : Type 0} (taken_home : R → TableId) (taken_lane : R → LaneId) (all_taken : R → List (Load K J)) (sent_home : S → TableId) (sent_lane : S → LaneId) (all_sent : S → List (Load K J)) (seen : T → TaskSeen) (fails : T → Fault → Type 0) (leaves : T → Receipts R S → Type 0)
    → ((t : T) → (seen t).work ≡ MakesOthers) → (task : Option T) (out : PipeOut (Receipts R S))
    → Has task (λ t. IfWhole out (λ receipts. AreReceipts taken_home taken_lane all_taken sent_home sent_lane all_sent (seen t) receipts.taken.items receipts.sent.items) × IfFailed out (fails t) × IfWhole out (leaves t))
    → IfEndedWhole (end_of_out out) (λ taken sent. map seen_stretches (map (λ receipt. map load_seen (all_taken receipt)) taken) ≡ map seen_stretches (map (λ receipt. map load_seen (all_sent receipt)) sent))
made_by taken_home taken_lane all_taken sent_home sent_lane all_sent seen fails leaves makes None out h = absurd h
made_by taken_home taken_lane all_taken sent_home sent_lane all_sent seen fails leaves makes (Some t) (Whole receipts) h =
    sym (stretches_each all_taken receipts.taken.items)
    ∙ subst (λ (role : PipeRole). IsWorkOf role (map all_taken receipts.taken.items) (map all_sent receipts.sent.items)) (makes t) h.0.work
    ∙ stretches_each all_sent receipts.sent.items
made_by taken_home taken_lane all_taken sent_home sent_lane all_sent seen fails leaves makes (Some t) Cut h = tt
made_by taken_home taken_lane all_taken sent_home sent_lane all_sent seen fails leaves makes (Some t) OutOfMemory h = tt
made_by taken_home taken_lane all_taken sent_home sent_lane all_sent seen fails leaves makes (Some t) (Failed fault) h = tt

-- a unit may end by the faults of the node
pub fails_from : {J : Type 0} (may_fail : J → Fault → Type 0) (jobs : List J) (job : J) (fault : Fault) → jobs ≡ job ∷ [] → MayFail may_fail job fault → (fault ≡ faults.OutOfMemory) ⊎ ((first : J) × (jobs ≡ first ∷ []) × may_fail first fault)
fails_from may_fail jobs job fault are (inl memory) = inl memory
fails_from may_fail jobs job fault are (inr may) = inr (job, are, may)
