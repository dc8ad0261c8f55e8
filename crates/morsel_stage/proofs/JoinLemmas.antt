-- What is left of the outputs of tasks where one was taken.
use Rattle.std.proofs.Common.{◌≡◌, ◌⊎◌, inl, inr, ◌+◌, ◌<◌, ◌≤◌, ℕ, zero, suc, List, [], ◌∷◌, Option, None, Some, IfSome, refl, ap, sym, subst, ◌∙◌, arith}
use Rattle.std.proofs.Math.Nat.{eq-or-lt_of_le}
use Rattle.morsel_local.specs.declared.local_task.LocalTask.{LocalTask}
use Rattle.morsel_local.specs.declared.local_task.LocalAt.{LocalAt}
use Rattle.morsel_local.specs.declared.local_task.LocalAt.TheVariants.{Unfinished, Ended, Taken}
use Rattle.morsel_local.specs.Sweeps.{changed, output_at, output_in, output_taken_at, taken_out}
use Rattle.morsel_stage.specs.Joined.{AreJoined, output_left, outputs_left}

-- so it is of no output
pub if_none : {O : Type 0} (P : O → Type 0) (out : Option O) → out ≡ None → IfSome out P
if_none {O} P out none = subst (λ (o : Option O). IfSome o P) (sym none) tt

module _ {T O : Type 0} where
  none_left : (at : LocalAt T O) → output_in (output_taken_at at) ≡ None
  none_left (Unfinished queued body) = refl
  none_left (Ended out) = refl
  none_left Taken = refl

  -- no output of this number is left
  taken_at : (n : ℕ) (tasks : List (LocalTask T O)) → output_at (changed taken_out n tasks) n ≡ None
  taken_at n [] = refl
  taken_at zero (task ∷ tasks) = refl
  taken_at (suc zero) (task ∷ tasks) = none_left task.at
  taken_at (suc (suc n)) (task ∷ tasks) = taken_at (suc n) tasks

  -- another output stays
  pub taken_other : (n k : ℕ) (tasks : List (LocalTask T O)) → (n ≡ k → ⊥) → output_at (changed taken_out n tasks) k ≡ output_at tasks k
  taken_other n k [] other = refl
  taken_other zero k (task ∷ tasks) other = refl
  taken_other (suc zero) zero (task ∷ tasks) other = refl
  taken_other (suc zero) (suc zero) (task ∷ tasks) other = absurd (other refl)
  taken_other (suc zero) (suc (suc k)) (task ∷ tasks) other = refl
  taken_other (suc (suc n)) zero (task ∷ tasks) other = refl
  taken_other (suc (suc n)) (suc zero) (task ∷ tasks) other = refl
  taken_other (suc (suc n)) (suc (suc k)) (task ∷ tasks) other = taken_other (suc n) (suc k) tasks (λ e. other (ap suc e))

  none_at : (tasks : List (LocalTask T O)) (n : ℕ) → n ≤ 0 → output_at tasks n ≡ None
  none_at [] n le = refl
  none_at (task ∷ tasks) zero le = refl
  none_at (task ∷ tasks) (suc n) le = absurd (omega (arith, le))

  -- there is no task with the number 0
  pub joined_none : (P : O → Type 0) (tasks : List (LocalTask T O)) → AreJoined P 0 tasks tasks
  joined_none P tasks = record { taken = none_at tasks; told = λ n le. if_none P (output_at tasks n) (none_at tasks n le) }

  -- and of the next task
  pub joined_more : (P : O → Type 0) (number : ℕ) (before now after : List (LocalTask T O)) → after ≡ changed taken_out (number + 1) now → ((n : ℕ) → number < n → output_at now n ≡ output_at before n)
      → IfSome (output_at now (number + 1)) P → AreJoined P number before now → AreJoined P (number + 1) before after
  joined_more P number before now after is others more it = record { taken = λ n le. taken n (eq-or-lt_of_le le); told = λ n le. told n (eq-or-lt_of_le le) }
    where
      taken : (n : ℕ) → (n ≡ number + 1) ⊎ (n < number + 1) → output_at after n ≡ None
      taken n (inl same) = ap (λ (ts : List (LocalTask T O)). output_at ts n) is ∙ ap (λ k. output_at (changed taken_out k now) n) (sym same) ∙ taken_at n now
      taken n (inr less) = ap (λ (ts : List (LocalTask T O)). output_at ts n) is ∙ taken_other (number + 1) n now (λ e. omega (arith, less, e)) ∙ it.taken n (omega (arith, less))

      told : (n : ℕ) → (n ≡ number + 1) ⊎ (n < number + 1) → IfSome (output_at before n) P
      told n (inl same) = subst (λ (o : Option O). IfSome o P) (others n (omega (arith, same))) (subst (λ k. IfSome (output_at now k) P) (sym same) more)
      told n (inr less) = it.told n (omega (arith, less))

  -- those behind stay
  pub others_more : (number : ℕ) (before now after : List (LocalTask T O)) → after ≡ changed taken_out (number + 1) now → ((n : ℕ) → number < n → output_at now n ≡ output_at before n)
      → (n : ℕ) → number + 1 < n → output_at after n ≡ output_at before n
  others_more number before now after is others n less =
      ap (λ (ts : List (LocalTask T O)). output_at ts n) is ∙ taken_other (number + 1) n now (λ e. omega (arith, less, e)) ∙ others n (omega (arith, less))

  left_none : (at : LocalAt T O) → output_in at ≡ None → output_left at ≡ 0
  left_none (Unfinished queued body) none = refl
  left_none (Ended out) none = absurd (some_is_none out none)
    where
      some_is_none : (out : O) → Some out ≡ None → ⊥
      some_is_none out e = cc
  left_none Taken none = refl

  -- where no output of the first so many tasks is left, none is counted
  pub none_counted : (n : ℕ) (tasks : List (LocalTask T O)) → ((k : ℕ) → k ≤ n → output_at tasks k ≡ None) → outputs_left n tasks ≡ 0
  none_counted n [] none = refl
  none_counted zero (task ∷ tasks) none = refl
  none_counted (suc n) (task ∷ tasks) none =
      let here = left_none task.at (none 1 (omega arith)) in let later = none_counted n tasks (λ k le. behind k le) in omega (arith, here, later)
    where
      behind : (k : ℕ) → k ≤ n → output_at tasks k ≡ None
      behind zero le = none_at tasks zero (omega arith)
      behind (suc k) le = none (suc (suc k)) (omega (arith, le))
