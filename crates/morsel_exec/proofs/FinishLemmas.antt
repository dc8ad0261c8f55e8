-- A task finishes at most once, and only after it was taken.
use Rattle.std.proofs.Common.{◌≡◌, ℕ, ◌+◌, ◌≤◌, Bool, true, false, ◌||◌, not, cond, Option, None, Some, is_none, is_some, List, [], ◌∷◌, get_or, set, count_by, refl, sym, ap, ◌∙◌, subst, ◌⊎◌, inl, inr, arith, get_or-set_same}
use Rattle.std.specs.List.{list_any}
use Rattle.std.proofs.lemmas.Bool.{false≢true, or_left, or_right, and_parts, eqb-true, eq-eqb, cases_Bool, false_from_ne_true, not-true}
use Rattle.morsel_meaning.specs.declared.task.TaskNo.{TaskNo}
use Rattle.morsel_exec.specs.declared.machine.TaskAt.{TaskAt}
use Rattle.morsel_exec.specs.declared.machine.TaskAt.TheVariants.{Finished}
use Rattle.morsel_exec.specs.declared.machine.Event.{Event}
use Rattle.morsel_exec.specs.declared.machine.Event.TheVariants.{Spawn, Take, Register, Pend, EndTurn, Finish, Cancel, MakeReady, Spend, Wake, DeliverWake}
use Rattle.morsel_exec.specs.Machine.{State, task_at, is_queued, is_polled, is_pending, is_live, allowed, pended, turned, delivered, after, opening, run, made, is_take_of, is_finish_of}
use Rattle.morsel_exec.proofs.MachineLemmas.{written_at, replicate_at, place_within}
use Rattle.morsel_exec.proofs.CountLemmas.{count-cons}
use Rattle.morsel_exec.proofs.PlaceLemmas.{passes_each, implied}

-- between its `Take` and the end of its turn
abbrev turning : Option TaskAt → Bool
turning at = is_polled at || is_pending at

pended_turning : (at : Option TaskAt) → turning (pended at) ≡ true → turning at ≡ true
pended_turning = implied (λ at. turning (pended at)) turning refl

turned_turning : (at : Option TaskAt) → turning (turned at) ≡ true → turning at ≡ true
turned_turning = implied (λ at. turning (turned at)) turning refl

delivered_turning : (at : Option TaskAt) → turning (delivered at) ≡ true → turning at ≡ true
delivered_turning = implied (λ at. turning (delivered at)) turning refl

-- a task that is turning after a write was so before, or it is the one that was written and is so by that
turning_before : (tasks : List (Option TaskAt)) (i : ℕ) (at : Option TaskAt) (t : ℕ) → turning (get_or (set tasks i at) t None) ≡ true → (turning (get_or tasks t None) ≡ true) ⊎ ((t ≡ i) × (turning at ≡ true))
turning_before tasks i at t h = elim (written_at tasks i at None t) [
  | inl same ↦ inl (subst (λ x. turning x ≡ true) same h)
  | inr here ↦ inr (here.0, subst (λ x. turning x ≡ true) here.1 h)
]

-- the same, where what was written is turning only where what stood there was
turning_kept : (tasks : List (Option TaskAt)) (i : ℕ) (at : Option TaskAt) (t : ℕ) → (turning at ≡ true → turning (get_or tasks i None) ≡ true) → turning (get_or (set tasks i at) t None) ≡ true → turning (get_or tasks t None) ≡ true
turning_kept tasks i at t was h = elim (turning_before tasks i at t h) [
  | inl before ↦ before
  | inr here ↦ subst (λ n. turning (get_or tasks n None) ≡ true) (sym here.0) (was here.1)
]

-- an event makes a task turning only if it is a `Take` of it
event_turning : (event : Event) (s : State) (t : ℕ) → turning (task_at (after event s) t) ≡ true → (turning (task_at s t) ≡ true) ⊎ (is_take_of t event ≡ true)
event_turning (Spawn u) s t h = inl (turning_kept s.tasks u.0 _ t (λ no_turn. absurd (false≢true no_turn)) h)
event_turning (Take u) s t h = elim (turning_before s.tasks u.0 _ t h) [ inl before ↦ inl before | inr here ↦ inr (eq-eqb u.0 t (sym here.0)) ]
event_turning (Register u e) s t h = inl h
event_turning (Pend u) s t h = inl (turning_kept s.tasks u.0 _ t (pended_turning (task_at s u.0)) h)
event_turning (EndTurn u) s t h = inl (turning_kept s.tasks u.0 _ t (turned_turning (task_at s u.0)) h)
event_turning (Finish u) s t h = inl (turning_kept s.tasks u.0 _ t (λ no_turn. absurd (false≢true no_turn)) h)
event_turning (Cancel u) s t h = inl (turning_kept s.tasks u.0 _ t (λ no_turn. absurd (false≢true no_turn)) h)
event_turning (MakeReady e) s t h = inl h
event_turning (Spend e) s t h = inl h
event_turning (Wake u) s t h = inl h
event_turning (DeliverWake u) s t h = inl (turning_kept s.tasks u.0 _ t (delivered_turning (task_at s u.0)) h)

-- one more event at the front of a run
run-cons : (event : Event) (events : List Event) (s : State) (b : Bool) → allowed event s ≡ b → run (event ∷ events) s ≡ run events (cond b (after event s) s)
run-cons event events s b is = ap (λ may. run events (cond may (after event s) s)) is

made-cons : (event : Event) (events : List Event) (s : State) (b : Bool) → allowed event s ≡ b → made (event ∷ events) s ≡ cond b (event ∷ made events (after event s)) (made events s)
made-cons event events s b is = ap (λ may. cond may (event ∷ made events (after event s)) (made events s)) is

-- a task that is turning after a run was so before it, or the run took it
run_turning : (events : List Event) (s : State) (t : ℕ) → turning (task_at (run events s) t) ≡ true → (turning (task_at s t) ≡ true) ⊎ (list_any (is_take_of t) (made events s) ≡ true)
run_turning [] s t h = inl h
run_turning (event ∷ events) s t h = elim (cases_Bool (allowed event s)) [
  | inl may ↦
      let after_it = subst (λ x. turning (task_at x t) ≡ true) (run-cons event events s true may) h in
      let more : (turning (task_at s t) ≡ true) ⊎ (list_any (is_take_of t) (event ∷ made events (after event s)) ≡ true) =
      elim (run_turning events (after event s) t after_it) [
        | inl before ↦ elim (event_turning event s t before) [ inl earlier ↦ inl earlier | inr take ↦ inr (or_left (is_take_of t event) _ take) ]
        | inr later ↦ inr (or_right (is_take_of t event) _ later)
      ] in
      subst (λ xs. (turning (task_at s t) ≡ true) ⊎ (list_any (is_take_of t) xs ≡ true)) (sym (made-cons event events s true may)) more
  | inr refused ↦
      let as_before = subst (λ x. turning (task_at x t) ≡ true) (run-cons event events s false refused) h in
      subst (λ xs. (turning (task_at s t) ≡ true) ⊎ (list_any (is_take_of t) xs ≡ true)) (sym (made-cons event events s false refused)) (run_turning events s t as_before)
]

polled_turning : (at : Option TaskAt) → is_polled at ≡ true → turning at ≡ true
polled_turning at polled = or_left (is_polled at) (is_pending at) polled

pub finishes_after_take : (tasks ends : ℕ) (events : List Event) (t : TaskNo) → allowed (Finish t) (run events (opening tasks ends)) ≡ true → list_any (is_take_of t.0) (made events (opening tasks ends)) ≡ true
finishes_after_take tasks ends events t may = elim (run_turning events (opening tasks ends) t.0 (polled_turning _ may)) [
  | inl at_once ↦ absurd (false≢true (subst (λ x. turning x ≡ true) (replicate_at (tasks + 1) None t.0) at_once))
  | inr taken ↦ taken
]

-- ---- once

-- the task is live or unspawned
abbrev unfinished : Option TaskAt → Bool
unfinished (Some Finished) = false
unfinished _ = true

queued_unfinished : (at : Option TaskAt) → is_queued at ≡ true → unfinished at ≡ true
queued_unfinished = implied is_queued unfinished refl

live_unfinished : (at : Option TaskAt) → is_live at ≡ true → unfinished at ≡ true
live_unfinished = implied is_live unfinished refl

polled_unfinished : (at : Option TaskAt) → is_polled at ≡ true → unfinished at ≡ true
polled_unfinished = implied is_polled unfinished refl

none_unfinished : (at : Option TaskAt) → is_none at ≡ true → unfinished at ≡ true
none_unfinished = implied (λ at. is_none at) unfinished refl

polled_some : (at : Option TaskAt) → is_polled at ≡ true → is_some at ≡ true
polled_some = implied is_polled (λ at. is_some at) refl

-- what leaves a finished task so at each place does so everywhere
stays_finished : (f : Option TaskAt → Option TaskAt) → passes_each (λ at. not (not (unfinished at)) || not (unfinished (f at))) ≡ true → (at : Option TaskAt) → unfinished at ≡ false → unfinished (f at) ≡ false
stays_finished f all at was =
    not-true (unfinished (f at)) (implied (λ at. not (unfinished at)) (λ at. not (unfinished (f at))) all at (ap not was))

-- a finished task stays so over a write, if what is written over it is finished
finished_kept : (tasks : List (Option TaskAt)) (i : ℕ) (at : Option TaskAt) (t : ℕ) → (unfinished (get_or tasks i None) ≡ false → unfinished at ≡ false) → unfinished (get_or tasks t None) ≡ false → unfinished (get_or (set tasks i at) t None) ≡ false
finished_kept tasks i at t stays h = elim (written_at tasks i at None t) [
  | inl same ↦ subst (λ x. unfinished x ≡ false) (sym same) h
  | inr here ↦ subst (λ x. unfinished x ≡ false) (sym here.1) (stays (subst (λ n. unfinished (get_or tasks n None) ≡ false) here.0 h))
]

-- nothing makes a finished task another
event_finished : (event : Event) (s : State) (t : ℕ) → allowed event s ≡ true → unfinished (task_at s t) ≡ false → unfinished (task_at (after event s) t) ≡ false
event_finished (Spawn u) s t may h = finished_kept s.tasks u.0 _ t (λ was. absurd (false≢true (sym was ∙ none_unfinished (task_at s u.0) (and_parts _ _ may).1))) h
event_finished (Take u) s t may h = finished_kept s.tasks u.0 _ t (λ was. absurd (false≢true (sym was ∙ queued_unfinished (task_at s u.0) may))) h
event_finished (Register u e) s t may h = h
event_finished (Pend u) s t may h = finished_kept s.tasks u.0 _ t (stays_finished pended refl (task_at s u.0)) h
event_finished (EndTurn u) s t may h = finished_kept s.tasks u.0 _ t (stays_finished turned refl (task_at s u.0)) h
event_finished (Finish u) s t may h = finished_kept s.tasks u.0 _ t (λ was. refl) h
event_finished (Cancel u) s t may h = finished_kept s.tasks u.0 _ t (λ was. absurd (false≢true (sym was ∙ live_unfinished (task_at s u.0) may))) h
event_finished (MakeReady e) s t may h = h
event_finished (Spend e) s t may h = h
event_finished (Wake u) s t may h = h
event_finished (DeliverWake u) s t may h = finished_kept s.tasks u.0 _ t (stays_finished delivered refl (task_at s u.0)) h

-- a `Finish` of a task comes where it is not finished, and leaves it so
finish_first : (event : Event) (s : State) (t : ℕ) → allowed event s ≡ true → is_finish_of t event ≡ true → (unfinished (task_at s t) ≡ true) × (unfinished (task_at (after event s) t) ≡ false)
finish_first (Spawn u) s t may h = absurd (false≢true h)
finish_first (Take u) s t may h = absurd (false≢true h)
finish_first (Register u e) s t may h = absurd (false≢true h)
finish_first (Pend u) s t may h = absurd (false≢true h)
finish_first (EndTurn u) s t may h = absurd (false≢true h)
finish_first (Finish u) s t may h =
    let same = eqb-true u.0 t h in
    let within = place_within (λ at. is_some at) None refl s.tasks u.0 (polled_some (task_at s u.0) may) in (
      subst (λ n. unfinished (task_at s n) ≡ true) same (polled_unfinished (task_at s u.0) may),
      subst (λ n. unfinished (task_at (after (Finish u) s) n) ≡ false) same (ap unfinished (get_or-set_same s.tasks u.0 (Some Finished) None within)),
    )
finish_first (Cancel u) s t may h = absurd (false≢true h)
finish_first (MakeReady e) s t may h = absurd (false≢true h)
finish_first (Spend e) s t may h = absurd (false≢true h)
finish_first (Wake u) s t may h = absurd (false≢true h)
finish_first (DeliverWake u) s t may h = absurd (false≢true h)

-- how many a run counts, by its first event
count_made : (event : Event) (events : List Event) (s : State) (t : ℕ) (may is : Bool) → allowed event s ≡ may → is_finish_of t event ≡ is → count_by (is_finish_of t) (made (event ∷ events) s) ≡ cond may (cond is 1 0 + count_by (is_finish_of t) (made events (after event s))) (count_by (is_finish_of t) (made events s))
count_made event events s t true is p q = ap (λ xs. count_by (is_finish_of t) xs) (made-cons event events s true p) ∙ count-cons (is_finish_of t) event (made events (after event s)) is q
count_made event events s t false is p q = ap (λ xs. count_by (is_finish_of t) xs) (made-cons event events s false p)

-- no `Finish` follows where the task is finished
never_again : (events : List Event) (s : State) (t : ℕ) → unfinished (task_at s t) ≡ false → count_by (is_finish_of t) (made events s) ≡ 0
never_again [] s t h = refl
never_again (event ∷ events) s t h = elim (cases_Bool (allowed event s)) [
  | inl may ↦
      let none = false_from_ne_true (is_finish_of t event) (λ is. false≢true (sym h ∙ (finish_first event s t may is).0)) in
      let rest = never_again events (after event s) t (event_finished event s t may h) in
      let counted = count_made event events s t true false may none in
      omega arith
  | inr refused ↦ count_made event events s t false (is_finish_of t event) refused refl ∙ never_again events s t h
]

run_once : (events : List Event) (s : State) (t : ℕ) → count_by (is_finish_of t) (made events s) ≤ 1
run_once [] s t = omega arith
run_once (event ∷ events) s t = elim (cases_Bool (allowed event s)) [
  | inl may ↦ elim (cases_Bool (is_finish_of t event)) [
    | inl is ↦
        let counted = count_made event events s t true true may is in
        let rest = never_again events (after event s) t (finish_first event s t may is).1 in
        omega arith
    | inr other ↦
        let counted = count_made event events s t true false may other in
        let rest = run_once events (after event s) t in
        omega arith
  ]
  | inr refused ↦
      let counted = count_made event events s t false (is_finish_of t event) refused refl in
      let rest = run_once events s t in
      omega arith
]

pub finishes_once : (tasks ends : ℕ) (events : List Event) (t : ℕ) → count_by (is_finish_of t) (made events (opening tasks ends)) ≤ 1
finishes_once tasks ends events t = run_once events (opening tasks ends) t
