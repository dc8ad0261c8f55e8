-- What a unit of a group-by ended with.
use Rattle.std.proofs.Common.{◌≡◌, ◌⊎◌, ◌++◌, inl, inr, ℕ, Bool, true, false, List, [], ◌∷◌, map, length, take, Option, Some, None, refl, sym, ap, subst, ◌∙◌, arith}
use Rattle.std.specs.List.{flat_map}
use Rattle.std.proofs.lemmas.List.{take_all}
use Rattle.std.specs.Option.{IfSome}
use Rattle.atomic_table.specs.Seated.{TableId}
use Rattle.morsel_meaning.specs.declared.fault.Fault.{Fault}
use Rattle.morsel_meaning.specs.declared.fault.Fault.TheVariants as faults
use Rattle.morsel_meaning.specs.Values.{Table}
use Rattle.morsel_prims.specs.Polled.{LaneId}
use Rattle.morsel_load.specs.Loads.{LoadSeen, load_seen}
use Rattle.morsel_load.specs.declared.load.Load.{Load}
use Rattle.morsel_lane_pipe.specs.Tasks.{AreReceipts, GivesOwn, Has, IfFailed, IfWhole, IsWorkOf, KeepsAll, PipeRole, TaskSeen}
use Rattle.morsel_lane_pipe.specs.declared.receipts.PipeOut.{PipeOut}
use Rattle.morsel_lane_pipe.specs.declared.receipts.PipeOut.TheVariants.{Whole, Cut, OutOfMemory, Failed}
use Rattle.morsel_lane_pipe.specs.declared.receipts.Receipts.{Receipts}
use Rattle.morsel_lane_pipe.specs.declared.stepping.Stepping.{Stepping}
use Rattle.morsel_ports.specs.Nodes.{AreUnitReceipts, IfEndedBy, IfEndedWhole, lanes_of_task}
use Rattle.morsel_pair.specs.declared.two_of.TwoOf.{TwoOf}
use Rattle.morsel_pair.specs.declared.two_of.TwoOf.TheVariants.{First, Second}
use Rattle.morsel_pair.specs.Pairs.{ByEithers}
use Rattle.morsel_units.specs.declared.finished.Finished.{Finished}
use Rattle.morsel_flat_units.specs.FlatUnits.{loads_of}
use Rattle.morsel_group_units.specs.GroupGivers.{DidGiveGroups, IsLaterGroupGiver, groups_left}
use Rattle.morsel_group_units.specs.TakenLoads.{cuts_of_load}
use Rattle.morsel_group_units.specs.declared.giver.GroupGiver.{GroupGiver}
use Rattle.morsel_rows_job.specs.RowsJobs.{rows_of_cuts}
use Rattle.morsel_group_phases.specs.declared.places.GroupAt.{GroupAt}
use Rattle.morsel_group_phases.specs.declared.places.GroupAt.TheVariants as at
use Rattle.morsel_group_phases.specs.GroupTables.{MakesGroups}
use Rattle.morsel_join_node.specs.JoinUnits.{end_of_work, work_of}
use Rattle.morsel_group_node.specs.GroupUnits.{IsGroupUnitAt, end_of_group, group_lanes}

-- a unit that takes rows, and where the group-by is
pub record IsTaking {A Z : Type 0} (place : GroupAt) (unit : TwoOf (Stepping A) (Stepping Z)) (P : A → Type 0) (G : Stepping A → Type 0) : Type 0 where
  pub task : Stepping A
  pub unit_is : unit ≡ First task
  pub place_is : place ≡ at.Sink
  pub is : Has task.task P
  pub given : G task

module _ {A Z X Y : Type 0} (P : A → Type 0) (Q : Z → Type 0) (G : Stepping A → X → Type 0) (H : Stepping Z → Y → Type 0) where
  abbrev one_first : X → TwoOf X Y
  one_first out = First out

  taking_of : (place : GroupAt) (unit : TwoOf (Stepping A) (Stepping Z)) (out : X) → IsGroupUnitAt place unit P Q → ByEithers unit (one_first out) G H → IsTaking place unit P (λ task. G task out)
  taking_of at.Sink (First task) out is given = record { task = task; unit_is = refl; place_is = refl; is = is; given = given }
  taking_of at.Source (First task) out is given = absurd is
  taking_of at.Done (First task) out is given = absurd is
  taking_of place (Second task) out is given = absurd given

  pub is_taking : (place : GroupAt) (unit : TwoOf (Stepping A) (Stepping Z)) (all : TwoOf X Y) (out : X) → all ≡ First out → IsGroupUnitAt place unit P Q → ByEithers unit all G H → IsTaking place unit P (λ task. G task out)
  is_taking place unit all out out_is is given = taking_of place unit out is (subst (λ o. ByEithers unit o G H) out_is given)

-- what a task ended with that is given back
module _ {T F W : Type 0} (gives : T → Finished F W → Type 0) (fails : T → Fault → Type 0) (leaves : T → Finished F W → Type 0) where
  abbrev pub EndsWith : Option T → PipeOut (Finished F W) → Type 0
  EndsWith task out = Has task (λ t. IfWhole out (gives t) × IfFailed out (fails t) × IfWhole out (leaves t))

  -- what follows of the task and of what it leaves is so of what it worked with
  pub work_back : (K : T → Type 0) (Good : W → Type 0) → ((t : T) (finished : Finished F W) → K t → leaves t finished → Good finished.work) → (task : Option T) (out : PipeOut (Finished F W)) → Has task K → EndsWith task out → IfSome (work_of out) Good
  work_back K Good then None out is ended = absurd is
  work_back K Good then (Some t) (Whole finished) is ended = then t finished is ended.2
  work_back K Good then (Some t) Cut is ended = tt
  work_back K Good then (Some t) OutOfMemory is ended = tt
  work_back K Good then (Some t) (Failed fault) is ended = tt

-- how it ended
module _ {T R S W K J : Type 0} (taken_home : R → TableId) (taken_lane : R → LaneId) (all_taken : R → List (Load K J)) (sent_home : S → TableId) (sent_lane : S → LaneId) (all_sent : S → List (Load K J)) (seen : T → TaskSeen) (fails : T → Fault → Type 0) (leaves : T → Finished (Receipts R S) W → Type 0) where
  abbrev pub EndsSo : Option T → PipeOut (Finished (Receipts R S) W) → Type 0
  EndsSo task out = Has task (λ t. IfWhole out (λ finished. AreReceipts taken_home taken_lane all_taken sent_home sent_lane all_sent (seen t) finished.receipts.taken.items finished.receipts.sent.items) × IfFailed out (fails t) × IfWhole out (leaves t))

  pub receipts_back : (task : Option T) (out : PipeOut (Finished (Receipts R S) W)) → EndsSo task out → IfEndedWhole (end_of_work out) (AreUnitReceipts taken_home taken_lane sent_home sent_lane (lanes_of_task seen task))
  receipts_back None out ended = absurd ended
  receipts_back (Some t) (Whole finished) ended = record { taken_homes = ended.0.taken_homes; sent_homes = ended.0.sent_homes; taken_lanes = ended.0.taken_lanes; sent_lanes = ended.0.sent_lanes }
  receipts_back (Some t) Cut ended = tt
  receipts_back (Some t) OutOfMemory ended = tt
  receipts_back (Some t) (Failed fault) ended = tt

  pub fault_back : ((t : T) (fault : Fault) → fails t fault → fault ≡ faults.OutOfMemory) → (task : Option T) (out : PipeOut (Finished (Receipts R S) W)) → EndsSo task out → IfEndedBy (end_of_work out) (λ fault. fault ≡ faults.OutOfMemory)
  fault_back memory None out ended = absurd ended
  fault_back memory (Some t) (Whole finished) ended = tt
  fault_back memory (Some t) Cut ended = tt
  fault_back memory (Some t) OutOfMemory ended = refl
  fault_back memory (Some t) (Failed fault) ended = memory t fault ended.1

  -- what it has made of what it took, by the work that it does and by what it leaves
  pub made_back : (P : T → Type 0) (Made : List R → List S → Type 0) → ((t : T) (finished : Finished (Receipts R S) W) → P t → IsWorkOf (seen t).work (map all_taken finished.receipts.taken.items) (map all_sent finished.receipts.sent.items) → leaves t finished → Made finished.receipts.taken.items finished.receipts.sent.items)
      → (task : Option T) (out : PipeOut (Finished (Receipts R S) W)) → Has task P → EndsSo task out → IfEndedWhole (end_of_work out) Made
  made_back P Made then None out is ended = absurd ended
  made_back P Made then (Some t) (Whole finished) is ended = then t finished is ended.0.work ended.2
  made_back P Made then (Some t) Cut is ended = tt
  made_back P Made then (Some t) OutOfMemory is ended = tt
  made_back P Made then (Some t) (Failed fault) is ended = tt

-- the work that the units of a group-by do is what the group-by says
module _ {R S K J : Type 0} (all_taken : R → List (Load K J)) (all_sent : S → List (Load K J)) where
  none_of : {X Y : Type 0} (f : X → Y) (xs : List X) → map f xs ≡ [] → xs ≡ []
  none_of f [] is = refl
  none_of f (x ∷ xs) is = absurd (let none : f x ∷ map f xs ≡ [] = is in cc)

  -- lists one after the other
  flat_of : {X Y : Type 0} (f : X → List Y) (xs : List X) → flat_map (λ (ys : List Y). ys) (map f xs) ≡ flat_map f xs
  flat_of f [] = refl
  flat_of f (x ∷ xs) = ap (λ (ys : List _). f x ++ ys) (flat_of f xs)

  abbrev pub MakesThere : GroupAt → Option Table → List R → List S → Type 0
  MakesThere place frame taken sent = MakesGroups place frame (map (λ receipt. map load_seen (all_taken receipt)) taken) (map (λ receipt. map load_seen (all_sent receipt)) sent)

  pub keeps_all : (frame : Option Table) (role : PipeRole) → role ≡ KeepsAll → (taken : List R) (sent : List S) → IsWorkOf role (map all_taken taken) (map all_sent sent) → MakesThere at.Sink frame taken sent
  keeps_all frame role is taken sent work =
      let none : sent ≡ [] = none_of all_sent sent (subst (λ (r : PipeRole). IsWorkOf r (map all_taken taken) (map all_sent sent)) is work) in
      ap (map (λ receipt. map load_seen (all_sent receipt))) none

  abbrev pub HasSentRows : Option Table → List S → Type 0
  HasSentRows frame sent = (table : Table) → frame ≡ Some table → rows_of_cuts (flat_map cuts_of_load (loads_of all_sent sent)) ≡ table.rows

  pub gives_own : (frame : Option Table) (role : PipeRole) → role ≡ GivesOwn → (taken : List R) (sent : List S) → IsWorkOf role (map all_taken taken) (map all_sent sent) → HasSentRows frame sent → MakesThere at.Source frame taken sent
  gives_own frame role is taken sent work rows =
      let none : taken ≡ [] = none_of all_taken taken (subst (λ (r : PipeRole). IsWorkOf r (map all_taken taken) (map all_sent sent)) is work) in
      (ap (map (λ receipt. map load_seen (all_taken receipt))) none, λ table there. ap (λ (loads : List LoadSeen). rows_of_cuts (flat_map cuts_of_load loads)) (flat_of (λ receipt. map load_seen (all_sent receipt)) sent) ∙ rows table there)

-- whatever it ended with
any_end : {R S W : Type 0} (out : PipeOut (Finished (Receipts R S) W)) → IfEndedWhole (end_of_work out) (λ taken sent. Unit {0})
any_end (Whole finished) = tt
any_end Cut = tt
any_end OutOfMemory = tt
any_end (Failed fault) = tt

-- the same of a unit of either kind
module _ {A Z R S U W K J : Type 0} (taken_home : R → TableId) (taken_lane : R → LaneId) (all_taken : R → List (Load K J)) (sent_home : S → TableId) (sent_lane : S → LaneId) (all_sent : S → List (Load K J))
    (first_seen : A → TaskSeen) (first_fails : A → Fault → Type 0) (first_leaves : A → Finished (Receipts R S) U → Type 0)
    (second_seen : Z → TaskSeen) (second_fails : Z → Fault → Type 0) (second_leaves : Z → Finished (Receipts R S) W → Type 0) where
  abbrev pub EndsGroup : TwoOf (Stepping A) (Stepping Z) → TwoOf (PipeOut (Finished (Receipts R S) U)) (PipeOut (Finished (Receipts R S) W)) → Type 0
  EndsGroup unit out = ByEithers unit out
      (λ task o. EndsSo taken_home taken_lane all_taken sent_home sent_lane all_sent first_seen first_fails first_leaves task.task o)
      (λ task o. EndsSo taken_home taken_lane all_taken sent_home sent_lane all_sent second_seen second_fails second_leaves task.task o)

  pub receipts_of : (unit : TwoOf (Stepping A) (Stepping Z)) (out : TwoOf (PipeOut (Finished (Receipts R S) U)) (PipeOut (Finished (Receipts R S) W))) → EndsGroup unit out
      → IfEndedWhole (end_of_group out) (AreUnitReceipts taken_home taken_lane sent_home sent_lane (group_lanes first_seen second_seen unit))
  receipts_of (First task) (First out) ended = receipts_back taken_home taken_lane all_taken sent_home sent_lane all_sent first_seen first_fails first_leaves task.task out ended
  receipts_of (Second task) (Second out) ended = receipts_back taken_home taken_lane all_taken sent_home sent_lane all_sent second_seen second_fails second_leaves task.task out ended
  receipts_of (First task) (Second out) ended = absurd ended
  receipts_of (Second task) (First out) ended = absurd ended

  pub fault_of : ((t : A) (fault : Fault) → first_fails t fault → fault ≡ faults.OutOfMemory) → ((t : Z) (fault : Fault) → second_fails t fault → fault ≡ faults.OutOfMemory)
      → (unit : TwoOf (Stepping A) (Stepping Z)) (out : TwoOf (PipeOut (Finished (Receipts R S) U)) (PipeOut (Finished (Receipts R S) W))) → EndsGroup unit out
      → IfEndedBy (end_of_group out) (λ fault. fault ≡ faults.OutOfMemory)
  fault_of a z (First task) (First out) ended = fault_back taken_home taken_lane all_taken sent_home sent_lane all_sent first_seen first_fails first_leaves a task.task out ended
  fault_of a z (Second task) (Second out) ended = fault_back taken_home taken_lane all_taken sent_home sent_lane all_sent second_seen second_fails second_leaves z task.task out ended
  fault_of a z (First task) (Second out) ended = absurd ended
  fault_of a z (Second task) (First out) ended = absurd ended

  pub made_of : ((t : A) → (first_seen t).work ≡ KeepsAll) → ((t : Z) → (second_seen t).work ≡ GivesOwn) → (P : A → Type 0) (Q : Z → Type 0) (frame : Option Table)
      → ((t : Z) (finished : Finished (Receipts R S) W) → Q t → second_leaves t finished → HasSentRows all_taken all_sent frame finished.receipts.sent.items)
      → (place : GroupAt) (unit : TwoOf (Stepping A) (Stepping Z)) (out : TwoOf (PipeOut (Finished (Receipts R S) U)) (PipeOut (Finished (Receipts R S) W))) → IsGroupUnitAt place unit P Q → EndsGroup unit out
      → IfEndedWhole (end_of_group out) (MakesThere all_taken all_sent place frame)
  made_of a z P Q frame rows at.Sink (First task) (First out) is ended =
      made_back taken_home taken_lane all_taken sent_home sent_lane all_sent first_seen first_fails first_leaves P (MakesThere all_taken all_sent at.Sink frame)
      (λ t finished of work left. keeps_all all_taken all_sent frame (first_seen t).work (a t) finished.receipts.taken.items finished.receipts.sent.items work) task.task out is ended
  made_of a z P Q frame rows at.Source (Second task) (Second out) is ended =
      made_back taken_home taken_lane all_taken sent_home sent_lane all_sent second_seen second_fails second_leaves Q (MakesThere all_taken all_sent at.Source frame)
      (λ t finished of work left. gives_own all_taken all_sent frame (second_seen t).work (z t) finished.receipts.taken.items finished.receipts.sent.items work (rows t finished of left)) task.task out is ended
  made_of a z P Q frame rows at.Sink (Second task) out is ended = absurd is
  made_of a z P Q frame rows at.Source (First task) out is ended = absurd is
  made_of a z P Q frame rows at.Done unit out is ended = absurd is
  made_of a z P Q frame rows at.Sink (First task) (Second out) is ended = absurd ended
  made_of a z P Q frame rows at.Source (Second task) (First out) is ended = absurd ended

-- whatever a unit of a group-by ended with
pub any_group : {R S U W : Type 0} (out : TwoOf (PipeOut (Finished (Receipts R S) U)) (PipeOut (Finished (Receipts R S) W))) → IfEndedWhole (end_of_group out) (λ taken sent. Unit {0})
any_group (First out) = any_end out
any_group (Second out) = any_end out

-- a fault of a move is one of the node, which has no jobs for it
pub moved_fault : {P J : Type 0} (IsFault : P → Type 0) (jobs : List J) (taken old : P) (fault : Fault) → jobs ≡ [] → taken ≡ old → (fault ≡ faults.OutOfMemory) ⊎ IsFault taken → (fault ≡ faults.OutOfMemory) ⊎ ((jobs ≡ []) × IsFault old)
moved_fault IsFault jobs taken old fault none same (inl memory) = inl memory
moved_fault IsFault jobs taken old fault none same (inr cause) = inr (none, subst IsFault same cause)

-- a giver that has given all, and of which no place is left, has given its rows
pub given_rows : (giver later : GroupGiver) (loads : List LoadSeen) → IsLaterGroupGiver giver later → groups_left later.ended ≡ [] → DidGiveGroups later loads → rows_of_cuts (flat_map cuts_of_load loads) ≡ giver.frame.rows
given_rows giver later loads same none did =
    did.rows ∙ ap (λ (n : ℕ). take n later.frame.rows) (did.all (ended later.ended none)) ∙ take_all (length later.frame.rows) later.frame.rows (omega (arith)) ∙ ap (λ (table : Table). table.rows) same.frame
  where
    ended : (all : Bool) → groups_left all ≡ [] → all ≡ true
    ended true none = refl
    ended false none = absurd (cc)
