-- Where a task may stand: what holds at each of the eight places holds everywhere.
use Rattle.std.proofs.Common.{◌≡◌, ℕ, zero, suc, Bool, true, false, ◌&&◌, ◌||◌, not, Option, None, Some, List, [], ◌∷◌, get_or, refl}
use Rattle.std.proofs.lemmas.Bool.{false≢true}
use Rattle.morsel_exec.specs.declared.machine.TaskAt.{TaskAt}
use Rattle.morsel_exec.specs.declared.machine.TaskAt.TheVariants.{Idle, Queued, Polling, PolledPending, Notified, Finished, Cancelled}

-- what a test says at each place
abbrev answers : (Option TaskAt → Bool) → List Bool
answers test = test None ∷ test (Some Idle) ∷ test (Some Queued) ∷ test (Some Polling) ∷ test (Some PolledPending) ∷ test (Some Notified) ∷ test (Some Finished) ∷ test (Some Cancelled) ∷ []

abbrev all_true : List Bool → Bool
all_true [] = true
all_true (b ∷ bs) = b && all_true bs

true_at : (bs : List Bool) → all_true bs ≡ true → (k : ℕ) → get_or bs k true ≡ true
true_at [] all k = refl
true_at (true ∷ bs) all zero = refl
true_at (true ∷ bs) all (suc k) = true_at bs all k
true_at (false ∷ bs) all k = absurd (false≢true all)

-- whether a test passes at each place
abbrev pub passes_each : (Option TaskAt → Bool) → Bool
passes_each test = all_true (answers test)

-- a test that passes at each place passes wherever a task stands
pub passed : (test : Option TaskAt → Bool) → passes_each test ≡ true → (at : Option TaskAt) → test at ≡ true
passed test all None = true_at (answers test) all 0
passed test all (Some Idle) = true_at (answers test) all 1
passed test all (Some Queued) = true_at (answers test) all 2
passed test all (Some Polling) = true_at (answers test) all 3
passed test all (Some PolledPending) = true_at (answers test) all 4
passed test all (Some Notified) = true_at (answers test) all 5
passed test all (Some Finished) = true_at (answers test) all 6
passed test all (Some Cancelled) = true_at (answers test) all 7

-- one test passes where another does, if that is so at each place
pub implied : (test other : Option TaskAt → Bool) → passes_each (λ at. not (test at) || other at) ≡ true → (at : Option TaskAt) → test at ≡ true → other at ≡ true
implied test other all at holds = follows (test at) (other at) (passed (λ at. not (test at) || other at) all at) holds
  where
    follows : (a b : Bool) → (not a || b) ≡ true → a ≡ true → b ≡ true
    follows true b either holds = either
    follows false b either holds = absurd (false≢true holds)
