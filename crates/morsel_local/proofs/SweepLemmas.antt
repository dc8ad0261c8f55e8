-- Lists in which one task is changed, and turns that follow one another.
use Rattle.std.proofs.Common.{◌≡◌, ℕ, zero, suc, ◌+◌, ◌-◌, ◌<◌, ◌≤◌, true, false, List, [], ◌∷◌, ◌++◌, length, set, slice_index_or, None, Some, All, refl, sym, ap, ◌∙◌, subst, arith, take, get_or-set_other, IfSome}
use Rattle.std.proofs.Math.Seq.{take-suc}
use Rattle.std.proofs.lemmas.List.{length-take-le, take_more_set}
use Rattle.std.proofs.lemmas.List.Elements.{All-cons}
use Rattle.morsel_prims.specs.declared.task.Cx.{Cx}
use Rattle.morsel_prims.specs.declared.task.Task.{Ghosts as TaskOf}
use Rattle.morsel_prims.specs.declared.task.Board.{Ghosts as BoardOf}
use Rattle.morsel_prims.specs.Polled.{BoardId}
use Rattle.morsel_local.specs.declared.local_task.LocalTask.{LocalTask}
use Rattle.morsel_local.specs.declared.local_task.LocalAt.{LocalAt}
use Rattle.morsel_local.specs.declared.local_task.LocalAt.TheVariants.{Unfinished, Ended, Taken}
use Rattle.morsel_local.specs.Sweeps.{AreAbandoned, AreSwept, IsAbandonedAt, IsKept, IsKeptAt, IsTurn, IsTurnAt, IfTask, all_woken, changed, count_ended, count_ended_at, ended_in, number_at, output_at, output_in, spawned_bodies, output_taken_at, taken_out, woken, woken_at}

-- number 0 is no task
pub changed-zero : {X : Type 0} (f : X → X) (n : ℕ) (xs : List X) → n ≡ 0 → xs ≡ changed f n xs
changed-zero f n xs none = subst (λ m. xs ≡ changed f m xs) (sym none) (zero_changes f xs)
  where
    zero_changes : {X : Type 0} (f : X → X) (xs : List X) → xs ≡ changed f 0 xs
    zero_changes f [] = refl
    zero_changes f (x ∷ xs) = refl

changed-at : {X : Type 0} (f : X → X) (n : ℕ) (xs : List X) (d : X) → n < length xs → set xs n (f (slice_index_or xs n d)) ≡ changed f (suc n) xs
changed-at f n [] d within = absurd (omega arith)
changed-at f zero (x ∷ xs) d within = refl
changed-at f (suc n) (x ∷ xs) d within = ap (λ ys. x ∷ ys) (changed-at f n xs d (omega arith))

changed-past : {X : Type 0} (f : X → X) (n : ℕ) (xs : List X) → length xs ≤ n → xs ≡ changed f (suc n) xs
changed-past f n [] past = refl
changed-past f zero (x ∷ xs) past = absurd (omega arith)
changed-past f (suc n) (x ∷ xs) past = ap (λ ys. x ∷ ys) (changed-past f n xs (omega arith))

-- the item of a number stands one place before it
pub changed-set : {X : Type 0} (f : X → X) (n : ℕ) (xs : List X) (d : X) → (n ≡ 0 → ⊥) → n - 1 < length xs → set xs (n - 1) (f (slice_index_or xs (n - 1) d)) ≡ changed f n xs
changed-set f zero xs d some within = absurd (some refl)
changed-set f (suc n) xs d some within = let place : n ≡ suc n - 1 = omega arith in subst (λ m. set xs m (f (slice_index_or xs m d)) ≡ changed f (suc n) xs) place (changed-at f n xs d (omega (arith, within)))

-- a number behind the last changes nothing
pub changed-beyond : {X : Type 0} (f : X → X) (n : ℕ) (xs : List X) → (n ≡ 0 → ⊥) → length xs ≤ n - 1 → xs ≡ changed f n xs
changed-beyond f zero xs some past = absurd (some refl)
changed-beyond f (suc n) xs some past = changed-past f n xs (omega (arith, past))

at-place : {X : Type 0} (n : ℕ) (xs : List X) (d : X) → n < length xs → number_at xs (suc n) ≡ Some (slice_index_or xs n d)
at-place n [] d within = absurd (omega arith)
at-place zero (x ∷ xs) d within = refl
at-place (suc n) (x ∷ xs) d within = at-place n xs d (omega arith)

past-place : {X : Type 0} (n : ℕ) (xs : List X) → length xs ≤ n → number_at xs (suc n) ≡ None
past-place n [] past = refl
past-place zero (x ∷ xs) past = absurd (omega arith)
past-place (suc n) (x ∷ xs) past = past-place n xs (omega arith)

pub number_at-set : {X : Type 0} (n : ℕ) (xs : List X) (d : X) → (n ≡ 0 → ⊥) → n - 1 < length xs → number_at xs n ≡ Some (slice_index_or xs (n - 1) d)
number_at-set zero xs d some within = absurd (some refl)
number_at-set (suc n) xs d some within = let place : n ≡ suc n - 1 = omega arith in subst (λ m. number_at xs (suc n) ≡ Some (slice_index_or xs m d)) place (at-place n xs d (omega (arith, within)))

pub number_at-beyond : {X : Type 0} (n : ℕ) (xs : List X) → (n ≡ 0 → ⊥) → length xs ≤ n - 1 → number_at xs n ≡ None
number_at-beyond zero xs some past = absurd (some refl)
number_at-beyond (suc n) xs some past = past-place n xs (omega (arith, past))

pub number_at-zero : {X : Type 0} (n : ℕ) (xs : List X) → n ≡ 0 → number_at xs n ≡ None
number_at-zero n xs none = subst (λ m. number_at xs m ≡ None) (sym none) (zero_none xs)
  where
    zero_none : {X : Type 0} (xs : List X) → number_at xs 0 ≡ None
    zero_none [] = refl
    zero_none (x ∷ xs) = refl

pub length-changed : {X : Type 0} (f : X → X) (n : ℕ) (xs : List X) → length (changed f n xs) ≡ length xs
length-changed f n [] = refl
length-changed f zero (x ∷ xs) = refl
length-changed f (suc zero) (x ∷ xs) = refl
length-changed f (suc (suc n)) (x ∷ xs) = ap (λ m. suc m) (length-changed f (suc n) xs)

All-changed : {X : Type 0} (P : X → Type 0) (f : X → X) → ((x : X) → P x → P (f x)) → (n : ℕ) (xs : List X) → All P xs → All P (changed f n xs)
All-changed P f keeps n [] all = all
All-changed P f keeps zero (x ∷ xs) all = all
All-changed P f keeps (suc zero) (x ∷ xs) all = All-cons P (f x) xs (keeps x (all zero x (omega arith))) (λ k d within. all (suc k) d (omega arith))
All-changed P f keeps (suc (suc n)) (x ∷ xs) all = All-cons P x (changed f (suc n) xs) (all zero x (omega arith)) (All-changed P f keeps (suc n) xs (λ k d within. all (suc k) d (omega arith)))

-- the items up to the next place
next-taken : {X : Type 0} (ts us : List X) (i : ℕ) (t : X) → i < length ts → ((k : ℕ) (d : X) → i ≤ k → slice_index_or us k d ≡ slice_index_or ts k d) → t ≡ slice_index_or us i t → take (i + 1) ts ≡ take i ts ++ t ∷ []
next-taken ts us i t within rest is =
    let next : suc i ≡ i + 1 = omega arith in
    subst (λ m. take m ts ≡ take i ts ++ t ∷ []) next (take-suc ts i t within ∙ ap (λ u. take i ts ++ u ∷ []) (sym (rest i t (omega arith)) ∙ sym is))

module _ {T O : Type 0} where
  ended-woken : (a : LocalAt T O) → count_ended_at (woken_at a) ≡ count_ended_at a
  ended-woken (Unfinished queued body) = refl
  ended-woken (Ended out) = refl
  ended-woken Taken = refl

  count-woken : (n : ℕ) (ts : List (LocalTask T O)) → count_ended (changed woken n ts) ≡ count_ended ts
  count-woken n [] = refl
  count-woken zero (t ∷ ts) = refl
  count-woken (suc zero) (t ∷ ts) = ap (λ k. k + count_ended ts) (ended-woken t.at)
  count-woken (suc (suc n)) (t ∷ ts) = ap (λ k. ended_in t + k) (count-woken (suc n) ts)

  spawned-woken : (n : ℕ) (ts : List (LocalTask T O)) → spawned_bodies (changed woken n ts) ≡ spawned_bodies ts
  spawned-woken n [] = refl
  spawned-woken zero (t ∷ ts) = refl
  spawned-woken (suc zero) (t ∷ ts) = refl
  spawned-woken (suc (suc n)) (t ∷ ts) = ap (λ bs. t.spawned ∷ bs) (spawned-woken (suc n) ts)

  -- a wake ends no task
  pub count-all_woken : (ns : List ℕ) (ts : List (LocalTask T O)) → count_ended (all_woken ns ts) ≡ count_ended ts
  count-all_woken [] ts = refl
  count-all_woken (n ∷ ns) ts = count-woken n (all_woken ns ts) ∙ count-all_woken ns ts

  pub spawned-all_woken : (ns : List ℕ) (ts : List (LocalTask T O)) → spawned_bodies (all_woken ns ts) ≡ spawned_bodies ts
  spawned-all_woken [] ts = refl
  spawned-all_woken (n ∷ ns) ts = spawned-woken n (all_woken ns ts) ∙ spawned-all_woken ns ts

  pub length-all_woken : (ns : List ℕ) (ts : List (LocalTask T O)) → length (all_woken ns ts) ≡ length ts
  length-all_woken [] ts = refl
  length-all_woken (n ∷ ns) ts = length-changed woken n (all_woken ns ts) ∙ length-all_woken ns ts

  -- the last number is delivered first
  pub all_woken-last : (n : ℕ) (ns : List ℕ) (ts : List (LocalTask T O)) → all_woken ns (changed woken n ts) ≡ all_woken (ns ++ n ∷ []) ts
  all_woken-last n [] ts = refl
  all_woken-last n (m ∷ ms) ts = ap (λ us. changed woken m us) (all_woken-last n ms ts)

  pub count-set : (ts : List (LocalTask T O)) (i : ℕ) (t d : LocalTask T O) → i < length ts → count_ended (set ts i t) + ended_in (slice_index_or ts i d) ≡ count_ended ts + ended_in t
  count-set [] i t d within = absurd (omega arith)
  count-set (u ∷ us) zero t d within = omega arith
  count-set (u ∷ us) (suc i) t d within = omega (arith, count-set us i t d (omega arith))

  pub spawned-set : (ts : List (LocalTask T O)) (i : ℕ) (t d : LocalTask T O) → i < length ts → t.spawned ≡ (slice_index_or ts i d).spawned → spawned_bodies (set ts i t) ≡ spawned_bodies ts
  spawned-set [] i t d within same = absurd (omega arith)
  spawned-set (u ∷ us) zero t d within same = ap (λ b. b ∷ spawned_bodies us) same
  spawned-set (u ∷ us) (suc i) t d within same = ap (λ bs. u.spawned ∷ bs) (spawned-set us i t d (omega arith) same)

module _ {T B O : Type 0} (task : TaskOf T B O) where
  kept-woken : (home : BoardId) (spawned : T) (a : LocalAt T O) → IsKeptAt task home spawned a → IsKeptAt task home spawned (woken_at a)
  kept-woken home spawned (Unfinished queued body) kept = kept
  kept-woken home spawned (Ended out) kept = kept
  kept-woken home spawned Taken kept = kept

  kept-taken : (home : BoardId) (spawned : T) (a : LocalAt T O) → IsKeptAt task home spawned a → IsKeptAt task home spawned (output_taken_at a)
  kept-taken home spawned (Unfinished queued body) kept = kept
  kept-taken home spawned (Ended out) kept = tt
  kept-taken home spawned Taken kept = kept

  -- the tasks are kept where an output is taken
  pub kept-taken_out : (home : BoardId) (n : ℕ) (ts : List (LocalTask T O)) → All (IsKept task home) ts → All (IsKept task home) (changed taken_out n ts)
  kept-taken_out home n ts all = All-changed (IsKept task home) taken_out (λ t kept. kept-taken home t.spawned t.at kept) n ts all

  gives-in : (home : BoardId) (spawned : T) (a : LocalAt T O) → IsKeptAt task home spawned a → IfSome (output_in a) (λ out. task.gives spawned out)
  gives-in home spawned (Unfinished queued body) kept = tt
  gives-in home spawned (Ended out) kept = kept
  gives-in home spawned Taken kept = tt

  -- an output is one that the spawned body may give
  pub output-gives : (home : BoardId) (n : ℕ) (ts : List (LocalTask T O)) → All (IsKept task home) ts → IfSome (output_at ts n) (λ out. IfTask ts n (λ spawned. task.gives spawned out))
  output-gives home n [] all = tt
  output-gives home zero (t ∷ ts) all = tt
  output-gives home (suc zero) (t ∷ ts) all = gives-in home t.spawned t.at (all zero t (omega arith))
  output-gives home (suc (suc n)) (t ∷ ts) all = output-gives home (suc n) ts (λ k d within. all (suc k) d (omega arith))

  pub kept-all_woken : (home : BoardId) (ns : List ℕ) (ts : List (LocalTask T O)) → All (IsKept task home) ts → All (IsKept task home) (all_woken ns ts)
  kept-all_woken home [] ts all = all
  kept-all_woken home (n ∷ ns) ts all = All-changed (IsKept task home) woken (λ t kept. kept-woken home t.spawned t.at kept) n (all_woken ns ts) (kept-all_woken home ns ts all)

module _ {T B O : Type 0} (task : TaskOf T B O) (board : BoardOf B) where
  -- one turn more
  pub swept-last : (n : ℕ) (ts ts' : List (LocalTask T O)) (t t' : LocalTask T O) (old mid new : Cx B) (m : ℕ) → n + length ts ≡ m → AreSwept task board n ts ts' old mid → IsTurn task board m t t' mid new → AreSwept task board n (ts ++ t ∷ []) (ts' ++ t' ∷ []) old new
  swept-last n [] [] t t' old mid new m number swept turn = let here : m ≡ n = omega (arith, number) in (new, subst (λ cx. IsTurn task board n t t' cx new) swept (subst (λ k. IsTurn task board k t t' mid new) here turn), refl)
  swept-last n [] (u' ∷ us') t t' old mid new m number swept turn = absurd swept
  swept-last n (u ∷ us) [] t t' old mid new m number swept turn = absurd swept
  swept-last n (u ∷ us) (u' ∷ us') t t' old mid new m number swept turn = (swept.0, swept.1, swept-last (suc n) us us' t t' swept.0 mid new m (omega (arith, number)) swept.2 turn)

  turn-bound : (n : ℕ) (a a' : LocalAt T O) (old new : Cx B) → IsTurnAt task board n a a' old new → new.wakes.bound ≡ old.wakes.bound
  turn-bound n (Unfinished true body) a' old new turn = turn.wakes.0
  turn-bound n (Unfinished false body) a' old new turn = ap (λ cx. cx.wakes.bound) turn.1
  turn-bound n (Ended out) a' old new turn = ap (λ cx. cx.wakes.bound) turn.1
  turn-bound n Taken a' old new turn = ap (λ cx. cx.wakes.bound) turn.1

  -- the same numbers may be woken after it
  pub swept-bound : (n : ℕ) (ts ts' : List (LocalTask T O)) (old new : Cx B) → AreSwept task board n ts ts' old new → new.wakes.bound ≡ old.wakes.bound
  swept-bound n [] [] old new swept = ap (λ cx. cx.wakes.bound) swept
  swept-bound n [] (t' ∷ ts') old new swept = absurd swept
  swept-bound n (t ∷ ts) [] old new swept = absurd swept
  swept-bound n (t ∷ ts) (t' ∷ ts') old new swept = swept-bound (suc n) ts ts' swept.0 new swept.2 ∙ turn-bound n t.at t'.at old swept.0 swept.1.1

  pub abandoned-last : (ts : List (LocalTask T O)) (t : LocalTask T O) (old mid new : Cx B) → AreAbandoned task board ts old mid → IsAbandonedAt task board t.at mid new → AreAbandoned task board (ts ++ t ∷ []) old new
  abandoned-last [] t old mid new done last = (new, subst (λ cx. IsAbandonedAt task board t.at cx new) done last, refl)
  abandoned-last (u ∷ us) t old mid new done last = (done.0, done.1, abandoned-last us t done.0 mid new done.2 last)

  -- one turn more, at the next place
  pub swept-step : (ts us : List (LocalTask T O)) (i : ℕ) (t t' : LocalTask T O) (old mid new : Cx B) → i < length ts → length us ≡ length ts → ((k : ℕ) (d : LocalTask T O) → i ≤ k → slice_index_or us k d ≡ slice_index_or ts k d) → t ≡ slice_index_or us i t → AreSwept task board 1 (take i ts) (take i us) old mid → IsTurn task board (i + 1) t t' mid new → AreSwept task board 1 (take (i + 1) ts) (take (i + 1) (set us i t')) old new
  swept-step ts us i t t' old mid new within long rest is swept turn =
      let first = next-taken ts us i t within rest is in let second = take_more_set us i t' (omega (arith, within, long)) in
      subst (λ xs. AreSwept task board 1 xs (take (i + 1) (set us i t')) old new) (sym first) (subst (λ ys. AreSwept task board 1 (take i ts ++ t ∷ []) ys old new) (sym second) (swept-last 1 (take i ts) (take i us) t t' old mid new (i + 1) (omega (arith, length-take-le i ts (omega (arith, within)))) swept turn))

  pub abandoned-step : (ts us : List (LocalTask T O)) (i : ℕ) (t : LocalTask T O) (old mid new : Cx B) → i < length ts → ((k : ℕ) (d : LocalTask T O) → i ≤ k → slice_index_or us k d ≡ slice_index_or ts k d) → t ≡ slice_index_or us i t → AreAbandoned task board (take i ts) old mid → IsAbandonedAt task board t.at mid new → AreAbandoned task board (take (i + 1) ts) old new
  abandoned-step ts us i t old mid new within rest is done last =
      subst (λ xs. AreAbandoned task board xs old new) (sym (next-taken ts us i t within rest is)) (abandoned-last (take i ts) t old mid new done last)

-- what is behind the place stays
pub rest-step : {X : Type 0} (ts us : List X) (i : ℕ) (x : X) → ((k : ℕ) (d : X) → i ≤ k → slice_index_or us k d ≡ slice_index_or ts k d) → (k : ℕ) (d : X) → i + 1 ≤ k → slice_index_or (set us i x) k d ≡ slice_index_or ts k d
rest-step ts us i x rest k d later = get_or-set_other us i k x d (λ e. omega (arith, e, later)) ∙ rest k d (omega (arith, later))
