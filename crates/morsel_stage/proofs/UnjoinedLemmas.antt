-- Tasks of one thread whose outputs were not taken.
use Rattle.std.proofs.Common.{◌≡◌, ℕ, zero, suc, true, false, List, [], ◌∷◌, ◌++◌, Option, None, Some, IfSome, refl, ap, sym, subst, ◌∙◌}
use Rattle.morsel_prims.specs.declared.task.Cx.{Cx}
use Rattle.morsel_prims.specs.declared.task.Task.{Ghosts as TaskOf}
use Rattle.morsel_prims.specs.declared.task.Board.{Ghosts as BoardOf}
use Rattle.morsel_local.specs.declared.local_task.LocalTask.{LocalTask}
use Rattle.morsel_local.specs.declared.local_task.LocalAt.{LocalAt}
use Rattle.morsel_local.specs.declared.local_task.LocalAt.TheVariants.{Unfinished, Ended, Taken}
use Rattle.morsel_local.specs.Sweeps.{AreSwept, IfTask, IsTurnAt, all_woken, changed, new_task, output_at, output_in, output_taken_at, taken_out, woken, woken_at}
use Rattle.morsel_stage.specs.Unjoined.{before_others, unjoined}

no_output : {X : Type 0} (x : X) → None ≡ Some x → ⊥
no_output x is = cc

module _ {T O : Type 0} where
  before_more : (body : T) (at : LocalAt T O) (others more : List T) → before_others body at (others ++ more) ≡ before_others body at others ++ more
  before_more body (Unfinished queued now) others more = refl
  before_more body (Ended out) others more = refl
  before_more body Taken others more = refl

  -- a task more is one that was not taken
  pub unjoined_spawned : (tasks : List (LocalTask T O)) (body : T) → unjoined (tasks ++ new_task body ∷ []) ≡ unjoined tasks ++ body ∷ []
  unjoined_spawned [] body = refl
  unjoined_spawned (task ∷ tasks) body = ap (before_others task.spawned task.at) (unjoined_spawned tasks body) ∙ before_more task.spawned task.at (unjoined tasks) (body ∷ [])

  before_woken : (body : T) (at : LocalAt T O) (others : List T) → before_others body (woken_at at) others ≡ before_others body at others
  before_woken body (Unfinished queued now) others = refl
  before_woken body (Ended out) others = refl
  before_woken body Taken others = refl

  unjoined_woken : (n : ℕ) (tasks : List (LocalTask T O)) → unjoined (changed woken n tasks) ≡ unjoined tasks
  unjoined_woken n [] = refl
  unjoined_woken zero (task ∷ tasks) = refl
  unjoined_woken (suc zero) (task ∷ tasks) = before_woken task.spawned task.at (unjoined tasks)
  unjoined_woken (suc (suc n)) (task ∷ tasks) = ap (before_others task.spawned task.at) (unjoined_woken (suc n) tasks)

  unjoined_all_woken : (ns : List ℕ) (tasks : List (LocalTask T O)) → unjoined (all_woken ns tasks) ≡ unjoined tasks
  unjoined_all_woken [] tasks = refl
  unjoined_all_woken (n ∷ ns) tasks = unjoined_woken n (all_woken ns tasks) ∙ unjoined_all_woken ns tasks

  -- nothing is taken of a task that has no output
  before_none : (body : T) (at : LocalAt T O) (others : List T) → None ≡ output_in at → before_others body (output_taken_at at) others ≡ before_others body at others
  before_none body (Unfinished queued now) others none = refl
  before_none body (Ended out) others none = absurd (no_output out none)
  before_none body Taken others none = refl

  -- nothing was taken where there is no output
  pub unjoined_none : (n : ℕ) (tasks : List (LocalTask T O)) → None ≡ output_at tasks n → unjoined (changed taken_out n tasks) ≡ unjoined tasks
  unjoined_none n [] none = refl
  unjoined_none zero (task ∷ tasks) none = refl
  unjoined_none (suc zero) (task ∷ tasks) none = before_none task.spawned task.at (unjoined tasks) none
  unjoined_none (suc (suc n)) (task ∷ tasks) none = ap (before_others task.spawned task.at) (unjoined_none (suc n) tasks none)

-- a task whose output is taken: what was spawned, and those before and behind it whose outputs were not taken
pub record IsJoined {T O : Type 0} (gives : T → O → Type 0) (before taken : List T) (out : O) : Type 0 where
  pub front : List T
  pub body : T
  pub behind : List T
  pub was : before ≡ front ++ body ∷ behind
  pub is : taken ≡ front ++ behind
  pub gave : gives body out

module _ {T O : Type 0} (gives : T → O → Type 0) where
  first_joined : (body : T) (at : LocalAt T O) (others : List T) (out : O) → Some out ≡ output_in at → IfSome (output_in at) (λ o. gives body o) → IsJoined gives (before_others body at others) (before_others body (output_taken_at at) others) out
  first_joined body (Unfinished queued now) others out is gave = absurd (no_output out (sym is))
  first_joined body (Ended o) others out is gave = record { front = []; body = body; behind = others; was = refl; is = refl; gave = subst (λ (x : O). gives body x) (some_same o out is) gave }
    where
      some_same : (o out : O) → Some out ≡ Some o → o ≡ out
      some_same o out e = cc
  first_joined body Taken others out is gave = absurd (no_output out (sym is))

  later_joined : (body : T) (at : LocalAt T O) (xs ys : List T) (out : O) → IsJoined gives xs ys out → IsJoined gives (before_others body at xs) (before_others body at ys) out
  later_joined body (Unfinished queued now) xs ys out it = record { front = body ∷ it.front; body = it.body; behind = it.behind; was = ap (λ zs. body ∷ zs) it.was; is = ap (λ zs. body ∷ zs) it.is; gave = it.gave }
  later_joined body (Ended o) xs ys out it = record { front = body ∷ it.front; body = it.body; behind = it.behind; was = ap (λ zs. body ∷ zs) it.was; is = ap (λ zs. body ∷ zs) it.is; gave = it.gave }
  later_joined body Taken xs ys out it = it

  -- the task of this number had this output, and it is taken
  pub joined_at : (n : ℕ) (tasks : List (LocalTask T O)) (out : O) → Some out ≡ output_at tasks n → IfTask tasks n (λ spawned. gives spawned out) → IsJoined gives (unjoined tasks) (unjoined (changed taken_out n tasks)) out
  joined_at n [] out is gave = absurd (no_output out (sym is))
  joined_at zero (task ∷ tasks) out is gave = absurd (no_output out (sym is))
  joined_at (suc zero) (task ∷ tasks) out is gave = first_joined task.spawned task.at (unjoined tasks) out is (if_output task.spawned task.at out is gave)
    where
      if_output : (body : T) (at : LocalAt T O) (out : O) → Some out ≡ output_in at → gives body out → IfSome (output_in at) (λ o. gives body o)
      if_output body at out e may = subst (λ (o : Option O). IfSome o (λ x. gives body x)) e may
  joined_at (suc (suc n)) (task ∷ tasks) out is gave = later_joined task.spawned task.at (unjoined tasks) (unjoined (changed taken_out (suc n) tasks)) out (joined_at (suc n) tasks out is gave)

module _ {T B O : Type 0} (task : TaskOf T B O) (board : BoardOf B) where
  before_turn : (n : ℕ) (body : T) (at at' : LocalAt T O) (others : List T) (old new : Cx B) → IsTurnAt task board n at at' old new → before_others body at' others ≡ before_others body at others
  before_turn n body (Unfinished true now) (Unfinished queued after) others old new turn = refl
  before_turn n body (Unfinished true now) (Ended out) others old new turn = refl
  before_turn n body (Unfinished true now) Taken others old new turn = absurd turn.answer
  before_turn n body (Unfinished false now) at' others old new turn = ap (λ (a : LocalAt T O). before_others body a others) turn.0
  before_turn n body (Ended out) at' others old new turn = ap (λ (a : LocalAt T O). before_others body a others) turn.0
  before_turn n body Taken at' others old new turn = ap (λ (a : LocalAt T O). before_others body a others) turn.0

  unjoined_swept : (n : ℕ) (ts ts' : List (LocalTask T O)) (old new : Cx B) → AreSwept task board n ts ts' old new → unjoined ts' ≡ unjoined ts
  unjoined_swept n [] [] old new swept = refl
  unjoined_swept n [] (t' ∷ ts') old new swept = absurd swept
  unjoined_swept n (t ∷ ts) [] old new swept = absurd swept
  unjoined_swept n (t ∷ ts) (t' ∷ ts') old new swept =
      ap (λ (b : T). before_others b t'.at (unjoined ts')) swept.1.0
      ∙ before_turn n t.spawned t.at t'.at (unjoined ts') old swept.0 swept.1.1
      ∙ ap (before_others t.spawned t.at) (unjoined_swept (suc n) ts ts' swept.0 new swept.2)

  -- a sweep takes no output
  pub unjoined_sweep : (ns : List ℕ) (ts ts' : List (LocalTask T O)) (old new : Cx B) → AreSwept task board 1 (all_woken ns ts) ts' old new → unjoined ts' ≡ unjoined ts
  unjoined_sweep ns ts ts' old new swept = unjoined_swept 1 (all_woken ns ts) ts' old new swept ∙ unjoined_all_woken ns ts

-- what is owed where an output is taken and given back
module _ {T O : Type 0} (gives : T → O → Type 0) (owes owes' : List T → Type 0) (tasks tasks' : List (LocalTask T O)) (n : ℕ) (out : O) (is : Some out ≡ output_at tasks n) (gave : IfTask tasks n (λ spawned. gives spawned out)) where
  pub owed_task : owes (unjoined tasks) → (before : List T) × (after : List T) × (task : T) × owes (before ++ task ∷ after) × gives task out
  owed_task owed = let it = joined_at gives n tasks out is gave in (it.front, it.behind, it.body, subst owes it.was owed, it.gave)

  pub owed_others : tasks' ≡ changed taken_out n tasks → owes (unjoined tasks) → ((before after : List T) (task : T) → owes (before ++ task ∷ after) → gives task out → owes' (before ++ after)) → owes' (unjoined tasks')
  owed_others taken owed back =
      let it = joined_at gives n tasks out is gave in
      subst (λ (ts : List (LocalTask T O)). owes' (unjoined ts)) (sym taken) (subst owes' (sym it.is) (back it.front it.behind it.body (subst owes it.was owed) it.gave))
