-- Tasks of three kinds, spawned one after the other.
use Rattle.std.proofs.Common.{◌≡◌, ℕ, zero, suc, ◌+◌, List, [], ◌∷◌, ◌++◌, refl, ap, sym, ◌∙◌, append_assoc, append-nil}
use Rattle.morsel_local.specs.Sweeps.{new_task}
use Rattle.morsel_local.specs.declared.local_task.LocalTask.{LocalTask}
use Rattle.morsel_stage.specs.declared.one_of.OneOf.{OneOf}
use Rattle.morsel_stage.specs.declared.one_of.OneOf.TheVariants.{First, Second, Third}
use Rattle.morsel_stage.specs.Joined.{output_left, outputs_left}
use Rattle.morsel_stage.specs.Kinds.{firsts, seconds, thirds}
use Rattle.morsel_stage.specs.Unjoined.{unjoined}
use Rattle.morsel_stage.proofs.UnjoinedLemmas.{unjoined_spawned}

module _ {A M Z : Type 0} where
  pub firsts_more : (xs ys : List (OneOf A M Z)) → firsts (xs ++ ys) ≡ firsts xs ++ firsts ys
  firsts_more [] ys = refl
  firsts_more (First x ∷ xs) ys = ap (λ zs. x ∷ zs) (firsts_more xs ys)
  firsts_more (Second x ∷ xs) ys = firsts_more xs ys
  firsts_more (Third x ∷ xs) ys = firsts_more xs ys

  pub seconds_more : (xs ys : List (OneOf A M Z)) → seconds (xs ++ ys) ≡ seconds xs ++ seconds ys
  seconds_more [] ys = refl
  seconds_more (First x ∷ xs) ys = seconds_more xs ys
  seconds_more (Second x ∷ xs) ys = ap (λ zs. x ∷ zs) (seconds_more xs ys)
  seconds_more (Third x ∷ xs) ys = seconds_more xs ys

  pub thirds_more : (xs ys : List (OneOf A M Z)) → thirds (xs ++ ys) ≡ thirds xs ++ thirds ys
  thirds_more [] ys = refl
  thirds_more (First x ∷ xs) ys = thirds_more xs ys
  thirds_more (Second x ∷ xs) ys = thirds_more xs ys
  thirds_more (Third x ∷ xs) ys = ap (λ zs. x ∷ zs) (thirds_more xs ys)

-- a task more has not ended
module _ {T O : Type 0} where
  left_more : (n : ℕ) (tasks : List (LocalTask T O)) (task : T) → outputs_left n (tasks ++ new_task task ∷ []) ≡ outputs_left n tasks
  left_more zero [] task = refl
  left_more (suc n) [] task = refl
  left_more zero (other ∷ tasks) task = refl
  left_more (suc n) (other ∷ tasks) task = ap (λ k. output_left other.at + k) (left_more n tasks task)

  pub left_spawned : (n : ℕ) (tasks tasks' : List (LocalTask T O)) (task : T) → tasks' ≡ tasks ++ new_task task ∷ [] → outputs_left n tasks' ≡ outputs_left n tasks
  left_spawned n tasks tasks' task are = ap (outputs_left n) are ∙ left_more n tasks task

-- a task more, by its kind
module _ {A M Z O : Type 0} where
  pub spawned_first : (tasks tasks' : List (LocalTask (OneOf A M Z) O)) (task : A) → tasks' ≡ tasks ++ new_task (First task) ∷ []
      → (firsts (unjoined tasks') ≡ firsts (unjoined tasks) ++ task ∷ []) × (seconds (unjoined tasks') ≡ seconds (unjoined tasks)) × (thirds (unjoined tasks') ≡ thirds (unjoined tasks))
  spawned_first tasks tasks' task are =
      let one = ap unjoined are ∙ unjoined_spawned tasks (First task) in (
        ap firsts one ∙ firsts_more (unjoined tasks) (First task ∷ []),
        ap seconds one ∙ seconds_more (unjoined tasks) (First task ∷ []) ∙ append-nil (seconds (unjoined tasks)),
        ap thirds one ∙ thirds_more (unjoined tasks) (First task ∷ []) ∙ append-nil (thirds (unjoined tasks)),
      )

  pub spawned_second : (tasks tasks' : List (LocalTask (OneOf A M Z) O)) (task : M) → tasks' ≡ tasks ++ new_task (Second task) ∷ []
      → (seconds (unjoined tasks') ≡ seconds (unjoined tasks) ++ task ∷ []) × (firsts (unjoined tasks') ≡ firsts (unjoined tasks)) × (thirds (unjoined tasks') ≡ thirds (unjoined tasks))
  spawned_second tasks tasks' task are =
      let one = ap unjoined are ∙ unjoined_spawned tasks (Second task) in (
        ap seconds one ∙ seconds_more (unjoined tasks) (Second task ∷ []),
        ap firsts one ∙ firsts_more (unjoined tasks) (Second task ∷ []) ∙ append-nil (firsts (unjoined tasks)),
        ap thirds one ∙ thirds_more (unjoined tasks) (Second task ∷ []) ∙ append-nil (thirds (unjoined tasks)),
      )

  pub spawned_third : (tasks tasks' : List (LocalTask (OneOf A M Z) O)) (task : Z) → tasks' ≡ tasks ++ new_task (Third task) ∷ []
      → (thirds (unjoined tasks') ≡ thirds (unjoined tasks) ++ task ∷ []) × (firsts (unjoined tasks') ≡ firsts (unjoined tasks)) × (seconds (unjoined tasks') ≡ seconds (unjoined tasks))
  spawned_third tasks tasks' task are =
      let one = ap unjoined are ∙ unjoined_spawned tasks (Third task) in (
        ap thirds one ∙ thirds_more (unjoined tasks) (Third task ∷ []),
        ap firsts one ∙ firsts_more (unjoined tasks) (Third task ∷ []) ∙ append-nil (firsts (unjoined tasks)),
        ap seconds one ∙ seconds_more (unjoined tasks) (Third task ∷ []) ∙ append-nil (seconds (unjoined tasks)),
      )

-- one is taken out of what is left
pub list_more : {X : Type 0} (done done' left left' begun all : List X) (x : X) → left ≡ x ∷ left' → done' ≡ done ++ x ∷ [] → done ++ left ≡ begun ++ all → done' ++ left' ≡ begun ++ all
list_more done done' left left' begun all x left_is done_is before =
    ap (λ xs. xs ++ left') done_is ∙ append_assoc done (x ∷ []) left' ∙ ap (λ xs. done ++ xs) (sym left_is) ∙ before
