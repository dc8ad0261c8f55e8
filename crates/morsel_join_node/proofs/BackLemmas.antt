-- What a unit of a join ended with.
use Rattle.std.proofs.Common.{◌≡◌, ◌++◌, List, [], ◌∷◌, map, Option, Some, None, refl, sym, ap, subst, ◌∙◌}
use Rattle.std.specs.Option.{IfSome}
use Rattle.std.specs.List.{flat_map}
use Rattle.atomic_table.specs.Seated.{TableId}
use Rattle.morsel_meaning.specs.declared.fault.Fault.{Fault}
use Rattle.morsel_meaning.specs.declared.fault.Fault.TheVariants as faults
use Rattle.morsel_prims.specs.Polled.{LaneId}
use Rattle.morsel_load.specs.Loads.{load_seen}
use Rattle.morsel_load.specs.declared.load.Load.{Load}
use Rattle.morsel_lane_pipe.specs.Stretches.{ends_of, stretches}
use Rattle.morsel_lane_pipe.specs.Tasks.{AreReceipts, GivesOwn, Has, IfFailed, IfWhole, IsWorkOf, KeepsAll, MakesOthers, PipeRole, TaskSeen}
use Rattle.morsel_lane_pipe.specs.declared.receipts.PipeOut.{PipeOut}
use Rattle.morsel_lane_pipe.specs.declared.receipts.PipeOut.TheVariants.{Whole, Cut, OutOfMemory, Failed}
use Rattle.morsel_lane_pipe.specs.declared.receipts.Receipts.{Receipts}
use Rattle.morsel_lane_pipe.specs.declared.stepping.Stepping.{Stepping}
use Rattle.morsel_ports.specs.Nodes.{AreUnitReceipts, IfEndedBy, IfEndedWhole, lanes_of_task}
use Rattle.morsel_stage.specs.declared.one_of.OneOf.{OneOf}
use Rattle.morsel_stage.specs.declared.one_of.OneOf.TheVariants.{First, Second, Third}
use Rattle.morsel_stage.specs.Kinds.{ByKinds}
use Rattle.morsel_units.specs.declared.finished.Finished.{Finished}
use Rattle.morsel_join_phases.specs.declared.places.JoinAt.{JoinAt}
use Rattle.morsel_join_phases.specs.declared.places.JoinAt.TheVariants as at
use Rattle.morsel_join_phases.specs.JoinTables.{MakesAt}
use Rattle.morsel_join_node.specs.JoinUnits.{IsUnitAt, end_of_join, end_of_work, unit_lanes, work_of}

-- of which kind a unit is that ended so, and where the join is
pub record IsFirst {A M Z : Type 0} (place : JoinAt) (unit : OneOf (Stepping A) (Stepping M) (Stepping Z)) (P : A → Type 0) (G : Stepping A → Type 0) : Type 0 where
  pub task : Stepping A
  pub unit_is : unit ≡ First task
  pub place_is : place ≡ at.Build
  pub is : Has task.task P
  pub given : G task

pub record IsSecond {A M Z : Type 0} (place : JoinAt) (unit : OneOf (Stepping A) (Stepping M) (Stepping Z)) (P : M → Type 0) (G : Stepping M → Type 0) : Type 0 where
  pub task : Stepping M
  pub unit_is : unit ≡ Second task
  pub place_is : place ≡ at.Probe
  pub is : Has task.task P
  pub given : G task

module _ {A M Z X Y W : Type 0} (P : A → Type 0) (Q : M → Type 0) (R : Z → Type 0) (G : Stepping A → X → Type 0) (H : Stepping M → Y → Type 0) (I : Stepping Z → W → Type 0) where
  abbrev one_first : X → OneOf X Y W
  one_first out = First out

  abbrev one_second : Y → OneOf X Y W
  one_second out = Second out

  first_of : (place : JoinAt) (unit : OneOf (Stepping A) (Stepping M) (Stepping Z)) (out : X) → IsUnitAt place unit P Q R → ByKinds unit (one_first out) G H I → IsFirst place unit P (λ task. G task out)
  first_of at.Build (First task) out is given = record { task = task; unit_is = refl; place_is = refl; is = is; given = given }
  first_of at.Probe (First task) out is given = absurd is
  first_of at.Emit (First task) out is given = absurd is
  first_of at.Done (First task) out is given = absurd is
  first_of place (Second task) out is given = absurd given
  first_of place (Third task) out is given = absurd given

  second_of : (place : JoinAt) (unit : OneOf (Stepping A) (Stepping M) (Stepping Z)) (out : Y) → IsUnitAt place unit P Q R → ByKinds unit (one_second out) G H I → IsSecond place unit Q (λ task. H task out)
  second_of at.Probe (Second task) out is given = record { task = task; unit_is = refl; place_is = refl; is = is; given = given }
  second_of at.Build (Second task) out is given = absurd is
  second_of at.Emit (Second task) out is given = absurd is
  second_of at.Done (Second task) out is given = absurd is
  second_of place (First task) out is given = absurd given
  second_of place (Third task) out is given = absurd given

  pub is_first : (place : JoinAt) (unit : OneOf (Stepping A) (Stepping M) (Stepping Z)) (all : OneOf X Y W) (out : X) → all ≡ First out → IsUnitAt place unit P Q R → ByKinds unit all G H I → IsFirst place unit P (λ task. G task out)
  is_first place unit all out out_is is given = first_of place unit out is (subst (λ o. ByKinds unit o G H I) out_is given)

  pub is_second : (place : JoinAt) (unit : OneOf (Stepping A) (Stepping M) (Stepping Z)) (all : OneOf X Y W) (out : Y) → all ≡ Second out → IsUnitAt place unit P Q R → ByKinds unit all G H I → IsSecond place unit Q (λ task. H task out)
  is_second place unit all out out_is is given = second_of place unit out is (subst (λ o. ByKinds unit o G H I) out_is given)

-- what a task ended with that is given back
module _ {T F W : Type 0} (gives : T → Finished F W → Type 0) (fails : T → Fault → Type 0) (leaves : T → Finished F W → Type 0) where
  abbrev pub EndsWith : Option T → PipeOut (Finished F W) → Type 0
  EndsWith task out = Has task (λ t. IfWhole out (gives t) × IfFailed out (fails t) × IfWhole out (leaves t))

  -- what follows of the task and of what it leaves is so of what it worked with
  pub work_back : (K : T → Type 0) (Good : W → Type 0) → ((t : T) (finished : Finished F W) → K t → leaves t finished → Good finished.work) → (task : Option T) (out : PipeOut (Finished F W)) → Has task K → EndsWith task out → IfSome (work_of out) Good
  work_back K Good then None out is ended = absurd is
  work_back K Good then (Some t) (Whole finished) is ended = then t finished is ended.2
  work_back K Good then (Some t) Cut is ended = tt
  work_back K Good then (Some t) OutOfMemory is ended = tt
  work_back K Good then (Some t) (Failed fault) is ended = tt

-- how it ended
module _ {T R S W K J : Type 0} (taken_home : R → TableId) (taken_lane : R → LaneId) (all_taken : R → List (Load K J)) (sent_home : S → TableId) (sent_lane : S → LaneId) (all_sent : S → List (Load K J)) (seen : T → TaskSeen) (fails : T → Fault → Type 0) (leaves : T → Finished (Receipts R S) W → Type 0) where
  abbrev pub EndsSo : Option T → PipeOut (Finished (Receipts R S) W) → Type 0
  EndsSo task out = Has task (λ t. IfWhole out (λ finished. AreReceipts taken_home taken_lane all_taken sent_home sent_lane all_sent (seen t) finished.receipts.taken.items finished.receipts.sent.items) × IfFailed out (fails t) × IfWhole out (leaves t))

  pub receipts_back : (task : Option T) (out : PipeOut (Finished (Receipts R S) W)) → EndsSo task out → IfEndedWhole (end_of_work out) (AreUnitReceipts taken_home taken_lane sent_home sent_lane (lanes_of_task seen task))
  receipts_back None out ended = absurd ended
  receipts_back (Some t) (Whole finished) ended = record { taken_homes = ended.0.taken_homes; sent_homes = ended.0.sent_homes; taken_lanes = ended.0.taken_lanes; sent_lanes = ended.0.sent_lanes }
  receipts_back (Some t) Cut ended = tt
  receipts_back (Some t) OutOfMemory ended = tt
  receipts_back (Some t) (Failed fault) ended = tt

  pub fault_back : ((t : T) (fault : Fault) → fails t fault → fault ≡ faults.OutOfMemory) → (task : Option T) (out : PipeOut (Finished (Receipts R S) W)) → EndsSo task out → IfEndedBy (end_of_work out) (λ fault. fault ≡ faults.OutOfMemory)
  fault_back memory None out ended = absurd ended
  fault_back memory (Some t) (Whole finished) ended = tt
  fault_back memory (Some t) Cut ended = tt
  fault_back memory (Some t) OutOfMemory ended = refl
  fault_back memory (Some t) (Failed fault) ended = memory t fault ended.1

  -- what it has made of what it took, by the work that it does
  pub made_back : (Made : List R → List S → Type 0) → ((t : T) (taken : List R) (sent : List S) → IsWorkOf (seen t).work (map all_taken taken) (map all_sent sent) → Made taken sent) → (task : Option T) (out : PipeOut (Finished (Receipts R S) W)) → EndsSo task out → IfEndedWhole (end_of_work out) Made
  made_back Made then None out ended = absurd ended
  made_back Made then (Some t) (Whole finished) ended = then t finished.receipts.taken.items finished.receipts.sent.items ended.0.work
  made_back Made then (Some t) Cut ended = tt
  made_back Made then (Some t) OutOfMemory ended = tt
  made_back Made then (Some t) (Failed fault) ended = tt

-- the work that the units of a join do is what the join says
module _ {R S K J : Type 0} (all_taken : R → List (Load K J)) (all_sent : S → List (Load K J)) where
  none_of : {X Y : Type 0} (f : X → Y) (xs : List X) → map f xs ≡ [] → xs ≡ []
  none_of f [] is = refl
  none_of f (x ∷ xs) is = absurd (let none : f x ∷ map f xs ≡ [] = is in cc)

  ends_seen : (loads : List (Load K J)) → stretches loads ≡ flat_map ends_of (map load_seen loads)
  ends_seen [] = refl
  ends_seen (load ∷ loads) = ap (λ more. ends_of (load_seen load) ++ more) (ends_seen loads)

  ends_each : {E : Type 0} (loads : E → List (Load K J)) (receipts : List E) → map stretches (map loads receipts) ≡ map (flat_map ends_of) (map (λ receipt. map load_seen (loads receipt)) receipts)
  ends_each loads [] = refl
  ends_each loads (receipt ∷ receipts) = ap (λ x. x ∷ map stretches (map loads receipts)) (ends_seen (loads receipt)) ∙ ap (λ xs. flat_map ends_of (map load_seen (loads receipt)) ∷ xs) (ends_each loads receipts)

  abbrev pub MakesThere : JoinAt → List R → List S → Type 0
  MakesThere place taken sent = MakesAt place (map (λ receipt. map load_seen (all_taken receipt)) taken) (map (λ receipt. map load_seen (all_sent receipt)) sent)

  pub keeps_all : (role : PipeRole) → role ≡ KeepsAll → (taken : List R) (sent : List S) → IsWorkOf role (map all_taken taken) (map all_sent sent) → MakesThere at.Build taken sent
  keeps_all role is taken sent work =
      let none : sent ≡ [] = none_of all_sent sent (subst (λ (r : PipeRole). IsWorkOf r (map all_taken taken) (map all_sent sent)) is work) in
      ap (map (λ receipt. map load_seen (all_sent receipt))) none

  pub makes_others : (role : PipeRole) → role ≡ MakesOthers → (taken : List R) (sent : List S) → IsWorkOf role (map all_taken taken) (map all_sent sent) → MakesThere at.Probe taken sent
  makes_others role is taken sent work = sym (ends_each all_taken taken) ∙ subst (λ (r : PipeRole). IsWorkOf r (map all_taken taken) (map all_sent sent)) is work ∙ ends_each all_sent sent

  pub gives_own : (role : PipeRole) → role ≡ GivesOwn → (taken : List R) (sent : List S) → IsWorkOf role (map all_taken taken) (map all_sent sent) → MakesThere at.Emit taken sent
  gives_own role is taken sent work =
      let none : taken ≡ [] = none_of all_taken taken (subst (λ (r : PipeRole). IsWorkOf r (map all_taken taken) (map all_sent sent)) is work) in
      ap (map (λ receipt. map load_seen (all_taken receipt))) none

-- whatever it ended with
any_end : {R S W : Type 0} (out : PipeOut (Finished (Receipts R S) W)) → IfEndedWhole (end_of_work out) (λ taken sent. Unit {0})
any_end (Whole finished) = tt
any_end Cut = tt
any_end OutOfMemory = tt
any_end (Failed fault) = tt

-- the same of a unit of any kind
module _ {A M Z R S U V W K J : Type 0} (taken_home : R → TableId) (taken_lane : R → LaneId) (all_taken : R → List (Load K J)) (sent_home : S → TableId) (sent_lane : S → LaneId) (all_sent : S → List (Load K J))
    (first_seen : A → TaskSeen) (first_fails : A → Fault → Type 0) (first_leaves : A → Finished (Receipts R S) U → Type 0)
    (second_seen : M → TaskSeen) (second_fails : M → Fault → Type 0) (second_leaves : M → Finished (Receipts R S) V → Type 0)
    (third_seen : Z → TaskSeen) (third_fails : Z → Fault → Type 0) (third_leaves : Z → Finished (Receipts R S) W → Type 0) where
  abbrev pub EndsJoin : OneOf (Stepping A) (Stepping M) (Stepping Z) → OneOf (PipeOut (Finished (Receipts R S) U)) (PipeOut (Finished (Receipts R S) V)) (PipeOut (Finished (Receipts R S) W)) → Type 0
  EndsJoin unit out = ByKinds unit out
      (λ task o. EndsSo taken_home taken_lane all_taken sent_home sent_lane all_sent first_seen first_fails first_leaves task.task o)
      (λ task o. EndsSo taken_home taken_lane all_taken sent_home sent_lane all_sent second_seen second_fails second_leaves task.task o)
      (λ task o. EndsSo taken_home taken_lane all_taken sent_home sent_lane all_sent third_seen third_fails third_leaves task.task o)

  pub receipts_of : (unit : OneOf (Stepping A) (Stepping M) (Stepping Z)) (out : OneOf (PipeOut (Finished (Receipts R S) U)) (PipeOut (Finished (Receipts R S) V)) (PipeOut (Finished (Receipts R S) W))) → EndsJoin unit out
      → IfEndedWhole (end_of_join out) (AreUnitReceipts taken_home taken_lane sent_home sent_lane (unit_lanes first_seen second_seen third_seen unit))
  receipts_of (First task) (First out) ended = receipts_back taken_home taken_lane all_taken sent_home sent_lane all_sent first_seen first_fails first_leaves task.task out ended
  receipts_of (Second task) (Second out) ended = receipts_back taken_home taken_lane all_taken sent_home sent_lane all_sent second_seen second_fails second_leaves task.task out ended
  receipts_of (Third task) (Third out) ended = receipts_back taken_home taken_lane all_taken sent_home sent_lane all_sent third_seen third_fails third_leaves task.task out ended
  receipts_of (First task) (Second out) ended = absurd ended
  receipts_of (First task) (Third out) ended = absurd ended
  receipts_of (Second task) (First out) ended = absurd ended
  receipts_of (Second task) (Third out) ended = absurd ended
  receipts_of (Third task) (First out) ended = absurd ended
  receipts_of (Third task) (Second out) ended = absurd ended

  pub fault_of : ((t : A) (fault : Fault) → first_fails t fault → fault ≡ faults.OutOfMemory) → ((t : M) (fault : Fault) → second_fails t fault → fault ≡ faults.OutOfMemory) → ((t : Z) (fault : Fault) → third_fails t fault → fault ≡ faults.OutOfMemory)
      → (unit : OneOf (Stepping A) (Stepping M) (Stepping Z)) (out : OneOf (PipeOut (Finished (Receipts R S) U)) (PipeOut (Finished (Receipts R S) V)) (PipeOut (Finished (Receipts R S) W))) → EndsJoin unit out
      → IfEndedBy (end_of_join out) (λ fault. fault ≡ faults.OutOfMemory)
  fault_of a m z (First task) (First out) ended = fault_back taken_home taken_lane all_taken sent_home sent_lane all_sent first_seen first_fails first_leaves a task.task out ended
  fault_of a m z (Second task) (Second out) ended = fault_back taken_home taken_lane all_taken sent_home sent_lane all_sent second_seen second_fails second_leaves m task.task out ended
  fault_of a m z (Third task) (Third out) ended = fault_back taken_home taken_lane all_taken sent_home sent_lane all_sent third_seen third_fails third_leaves z task.task out ended
  fault_of a m z (First task) (Second out) ended = absurd ended
  fault_of a m z (First task) (Third out) ended = absurd ended
  fault_of a m z (Second task) (First out) ended = absurd ended
  fault_of a m z (Second task) (Third out) ended = absurd ended
  fault_of a m z (Third task) (First out) ended = absurd ended
  fault_of a m z (Third task) (Second out) ended = absurd ended

  pub made_of : ((t : A) → (first_seen t).work ≡ KeepsAll) → ((t : M) → (second_seen t).work ≡ MakesOthers) → ((t : Z) → (third_seen t).work ≡ GivesOwn) → (P : A → Type 0) (Q : M → Type 0) (N : Z → Type 0)
      → (place : JoinAt) (unit : OneOf (Stepping A) (Stepping M) (Stepping Z)) (out : OneOf (PipeOut (Finished (Receipts R S) U)) (PipeOut (Finished (Receipts R S) V)) (PipeOut (Finished (Receipts R S) W))) → IsUnitAt place unit P Q N → EndsJoin unit out
      → IfEndedWhole (end_of_join out) (MakesThere all_taken all_sent place)
  made_of a m z P Q N at.Build (First task) (First out) is ended =
      made_back taken_home taken_lane all_taken sent_home sent_lane all_sent first_seen first_fails first_leaves (MakesThere all_taken all_sent at.Build) (λ t taken sent work. keeps_all all_taken all_sent (first_seen t).work (a t) taken sent work) task.task out ended
  made_of a m z P Q N at.Probe (Second task) (Second out) is ended =
      made_back taken_home taken_lane all_taken sent_home sent_lane all_sent second_seen second_fails second_leaves (MakesThere all_taken all_sent at.Probe) (λ t taken sent work. makes_others all_taken all_sent (second_seen t).work (m t) taken sent work) task.task out ended
  made_of a m z P Q N at.Emit (Third task) (Third out) is ended =
      made_back taken_home taken_lane all_taken sent_home sent_lane all_sent third_seen third_fails third_leaves (MakesThere all_taken all_sent at.Emit) (λ t taken sent work. gives_own all_taken all_sent (third_seen t).work (z t) taken sent work) task.task out ended
  made_of a m z P Q N at.Build (Second task) out is ended = absurd is
  made_of a m z P Q N at.Build (Third task) out is ended = absurd is
  made_of a m z P Q N at.Probe (First task) out is ended = absurd is
  made_of a m z P Q N at.Probe (Third task) out is ended = absurd is
  made_of a m z P Q N at.Emit (First task) out is ended = absurd is
  made_of a m z P Q N at.Emit (Second task) out is ended = absurd is
  made_of a m z P Q N at.Done unit out is ended = absurd is
  made_of a m z P Q N at.Build (First task) (Second out) is ended = absurd ended
  made_of a m z P Q N at.Build (First task) (Third out) is ended = absurd ended
  made_of a m z P Q N at.Probe (Second task) (First out) is ended = absurd ended
  made_of a m z P Q N at.Probe (Second task) (Third out) is ended = absurd ended
  made_of a m z P Q N at.Emit (Third task) (First out) is ended = absurd ended
  made_of a m z P Q N at.Emit (Third task) (Second out) is ended = absurd ended

-- whatever a unit of a join ended with
pub any_join : {R S U V W : Type 0} (out : OneOf (PipeOut (Finished (Receipts R S) U)) (PipeOut (Finished (Receipts R S) V)) (PipeOut (Finished (Receipts R S) W))) → IfEndedWhole (end_of_join out) (λ taken sent. Unit {0})
any_join (First out) = any_end out
any_join (Second out) = any_end out
any_join (Third out) = any_end out
