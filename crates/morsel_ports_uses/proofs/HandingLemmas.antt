-- The ends and the unit of a node that hands loads on.
use Rattle.std.proofs.Common.{◌≡◌, ◌<◌, ◌≤◌, ◌==◌, ◌++◌, if◌then◌else◌, ℕ, zero, suc, false, All, List, [], ◌∷◌, map, Option, None, Some, refl, sym, ap, subst, ◌∙◌, arith}
use Rattle.std.specs.List.{slice_get}
use Rattle.std.proofs.lemmas.Bool.Decides.{nat_tests}
use Rattle.std.proofs.lemmas.List.Elements.{All-cons, All-head}
use Rattle.atomic_table.specs.Seated.{TableId}
use Rattle.morsel_prims.specs.Polled.{LaneId}
use Rattle.morsel_ports.specs.declared.node.Ends.{Ends}
use Rattle.morsel_ports.specs.declared.node.Ends.TheVariants.{Absent, Parallel, Serial}
use Rattle.morsel_ports.specs.declared.node.PortKind.TheVariants as kinds
use Rattle.morsel_ports.specs.Nodes.{AreEndsFor, AreEndsOfKinds, AreUnitsBetween, end_of_out, IfEndedWhole, lanes_of_task, unit_between, unit_ends, UnitSeen}
use Rattle.morsel_meaning.specs.declared.fault.Fault.{Fault}
use Rattle.morsel_prims.specs.Waiting.{WaitPlace}
use Rattle.morsel_load.specs.Loads.{load_seen}
use Rattle.morsel_load.specs.declared.load.Load.{Load}
use Rattle.morsel_lane_pipe.specs.Tasks.{AreReceipts, Has, HandsOn, IfFailed, IfWhole, IsWorkOf, PipeRole, TaskSeen}
use Rattle.morsel_lane_pipe.specs.declared.receipts.PipeOut.{PipeOut}
use Rattle.morsel_lane_pipe.specs.declared.receipts.PipeOut.TheVariants.{Whole, Cut, OutOfMemory, Failed}
use Rattle.morsel_lane_pipe.specs.declared.receipts.Receipts.{Receipts}

-- one port with one end
pub one_end : {E : Type 0} (pipelines : Option ℕ) (ports : List (Ends E)) → AreEndsOfKinds (kinds.Serial ∷ []) pipelines ports → (end : E) × (ports ≡ Serial end ∷ [])
one_end pipelines [] are = let same = are.same in absurd (cc)
one_end pipelines (Absent ∷ ports) are = let same = are.same in absurd (cc)
one_end pipelines (Parallel ends ∷ ports) are = let same = are.same in absurd (cc)
one_end pipelines (Serial end ∷ []) are = (end, refl)
one_end pipelines (Serial end ∷ port ∷ ports) are = let same = are.same in absurd (cc)

-- its end is for the one job
pub one_job : {E J : Type 0} (is_for : J → E → Type 0) (ports : List (Ends E)) (end : E) (jobs : List J) (job : J) → ports ≡ Serial end ∷ [] → jobs ≡ job ∷ [] → AreEndsFor is_for ports jobs → is_for job end
one_job is_for ports end jobs job ports_are jobs_are are =
    All-head (is_for job) end [] (subst (λ js. AreEndsFor is_for (Serial end ∷ []) js) jobs_are (subst (λ ps. AreEndsFor is_for ps jobs) ports_are are)).0

-- an end that is alone is the first unit's
none_past : {E : Type 0} (i : ℕ) → 1 ≤ i → (end : E) → unit_ends i (Serial end ∷ []) ≡ []
none_past i past end = let other : (i == 0) ≡ false = grind (arith, nat_tests) in ap (λ first. (if first then end ∷ [] else []) ++ []) other

-- the unit between two ends
module _ {U R S : Type 0} (seen : U → UnitSeen) (taken_lane : R → LaneId) (sent_lane : S → LaneId) (home : TableId) (from : R) (to : S) (unit : U) where
  unit_first : seen unit ≡ record { home = home; from = taken_lane from ∷ []; to = sent_lane to ∷ [] } → (i : ℕ) (other : U) → slice_get (unit ∷ []) i ≡ Some other → seen other ≡ unit_between taken_lane sent_lane home (Serial from ∷ []) (Serial to ∷ []) i
  unit_first is zero other got = let same : unit ≡ other = cc in ap seen (sym same) ∙ is
  unit_first is (suc i) other got = absurd (cc)

  unit_some : (i : ℕ) → i < 1 → unit_ends i (Serial from ∷ []) ≡ [] → unit_ends i (Serial to ∷ []) ≡ [] → ⊥
  unit_some zero within none none_to = cc
  unit_some (suc i) within none none_to = absurd (omega (arith, within))

  unit_no_more : (i : ℕ) → 1 ≤ i → (unit_ends i (Serial from ∷ []) ≡ []) × (unit_ends i (Serial to ∷ []) ≡ [])
  unit_no_more zero past = absurd (omega (arith, past))
  unit_no_more (suc i) past = (none_past (suc i) past from, none_past (suc i) past to)

  pub one_between : seen unit ≡ record { home = home; from = taken_lane from ∷ []; to = sent_lane to ∷ [] }
      → AreUnitsBetween seen (unit_between taken_lane sent_lane home (Serial from ∷ []) (Serial to ∷ [])) (Serial from ∷ []) (Serial to ∷ []) (unit ∷ [])
  one_between is = record { each = unit_first is; some = unit_some; no_more = unit_no_more }

  -- the same, between what was had of the ports
  pub one_between-of : (recv : List (Ends R)) (send : List (Ends S)) (units : List U) → recv ≡ Serial from ∷ [] → send ≡ Serial to ∷ [] → units ≡ unit ∷ [] → seen unit ≡ record { home = home; from = taken_lane from ∷ []; to = sent_lane to ∷ [] }
      → AreUnitsBetween seen (unit_between taken_lane sent_lane home recv send) recv send units
  one_between-of recv send units recv_are send_are units_are is =
      subst (λ xs. AreUnitsBetween seen (unit_between taken_lane sent_lane home xs send) xs send units) (sym recv_are)
      (subst (λ ys. AreUnitsBetween seen (unit_between taken_lane sent_lane home (Serial from ∷ []) ys) (Serial from ∷ []) ys units) (sym send_are)
      (subst (λ us. AreUnitsBetween seen (unit_between taken_lane sent_lane home (Serial from ∷ []) (Serial to ∷ [])) (Serial from ∷ []) (Serial to ∷ []) us) (sym units_are) (one_between is)))

-- the loads that are seen of each receipt
pub seen-each : {R L Y : Type 0} (loads : R → List L) (seen : L → Y) (receipts : List R) → map (map seen) (map loads receipts) ≡ map (λ receipt. map seen (loads receipt)) receipts
seen-each loads seen [] = refl
seen-each loads seen (receipt ∷ receipts) = ap (λ more. map seen (loads receipt) ∷ more) (seen-each loads seen receipts)

-- a task that hands on has sent what it took
pub handed_on : {T R S K J : Type 0} (taken_home : R → TableId) (taken_lane : R → LaneId) (all_taken : R → List (Load K J)) (sent_home : S → TableId) (sent_lane : S → LaneId) (all_sent : S → List (Load K J)) (seen : T → TaskSeen) (fails : T → Fault → Type 0) (leaves : T → Receipts R S → Type 0) (out : PipeOut (Receipts R S)) (task : Option T)
    → ((one : T) → (seen one).work ≡ HandsOn)
    → Has task (λ one. IfWhole out (λ receipts. AreReceipts taken_home taken_lane all_taken sent_home sent_lane all_sent (seen one) receipts.taken.items receipts.sent.items) × IfFailed out (fails one) × IfWhole out (leaves one))
    → IfEndedWhole (end_of_out out) (λ taken sent. map (λ receipt. map load_seen (all_taken receipt)) taken ≡ map (λ receipt. map load_seen (all_sent receipt)) sent)
handed_on taken_home taken_lane all_taken sent_home sent_lane all_sent seen fails leaves out None hands gives = absurd gives
handed_on taken_home taken_lane all_taken sent_home sent_lane all_sent seen fails leaves (Whole receipts) (Some one) hands gives =
    let same = subst (λ work. IsWorkOf work (map all_taken receipts.taken.items) (map all_sent receipts.sent.items)) (hands one) gives.0.work in
    sym (seen-each all_taken load_seen receipts.taken.items) ∙ same ∙ seen-each all_sent load_seen receipts.sent.items
handed_on taken_home taken_lane all_taken sent_home sent_lane all_sent seen fails leaves Cut (Some one) hands gives = tt
handed_on taken_home taken_lane all_taken sent_home sent_lane all_sent seen fails leaves OutOfMemory (Some one) hands gives = tt
handed_on taken_home taken_lane all_taken sent_home sent_lane all_sent seen fails leaves (Failed fault) (Some one) hands gives = tt

-- a unit that is one task may go on, and is of the task's lanes
pub one-can_poll : {U T : Type 0} (work : U → Option T) (can : T → Type 0) (units : List U) (unit : U) (task : T) → units ≡ unit ∷ [] → work unit ≡ Some task → can task → All (λ one. Has (work one) can) units
one-can_poll work can units unit task are is may =
    subst (All (λ one. Has (work one) can)) (sym are) (All-cons (λ one. Has (work one) can) unit [] (subst (λ one. Has one can) (sym is) may) (λ k d within. absurd (omega (arith, within))))

pub one-lanes : {T : Type 0} (seen : T → TaskSeen) (unit : Option T) (task : T) (role : PipeRole) (home table : TableId) (from to : List LaneId) (places : List WaitPlace)
    → unit ≡ Some task → seen task ≡ record { work = role; home = home; from = from; to = to; places = places } → home ≡ table → lanes_of_task seen unit ≡ record { home = table; from = from; to = to }
one-lanes seen unit task role home table from to places is seen_is same =
    let first : lanes_of_task seen unit ≡ lanes_of_task seen (Some task) = ap (lanes_of_task seen) is in
    let of : TaskSeen → UnitSeen = λ s. record { home = s.home; from = s.from; to = s.to } in
    let at : TableId → UnitSeen = λ h. record { home = h; from = from; to = to } in
    first ∙ ap of seen_is ∙ ap at same
