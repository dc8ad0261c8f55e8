-- Each event keeps that no task is lost, and so does every list of events from the opening.
use Rattle.std.proofs.Common.{◌≡◌, ℕ, zero, suc, ◌+◌, ◌<◌, ◌≤◌, Bool, true, false, ◌&&◌, ◌||◌, not, Option, None, Some, List, [], ◌∷◌, length, get_or, set, replicate, refl, sym, ap, ◌∙◌, subst, ◌⊎◌, inl, inr, arith, length-set, get_or-set_same, get_or-set_other, eqb}
use Rattle.std.proofs.lemmas.List.{length-replicate}
use Rattle.std.specs.List.{list_any}
use Rattle.std.proofs.lemmas.Bool.{false≢true, or_cases, or_left, or_right, and_parts, cases_eq, not-true, eqb-true, eq-eqb, cases_lt, cond_both}
use Rattle.morsel_meaning.specs.declared.task.TaskNo.{TaskNo}
use Rattle.morsel_exec.specs.declared.machine.TaskAt.{TaskAt}
use Rattle.morsel_exec.specs.declared.machine.TaskAt.TheVariants.{Queued, Polling, Finished, Cancelled}
use Rattle.morsel_exec.specs.declared.machine.End.{End}
use Rattle.morsel_exec.specs.declared.machine.Event.{Event}
use Rattle.morsel_exec.specs.declared.machine.Event.TheVariants.{Spawn, Take, Register, Pend, EndTurn, Finish, Cancel, MakeReady, Spend, Wake, DeliverWake}
use Rattle.morsel_exec.proofs.PlaceLemmas.{passed, implied}
use Rattle.morsel_exec.specs.Machine.{State, task_at, end_at, quiet, is_woken, is_end, is_idle, is_polling, is_pending, is_notified, is_live, names, is_awaited_by, is_registered, is_waiting, is_free, is_open, allowed, pended, turned, delivered, with_task_at, with_wake, after, stepped, opening, is_active, Held, Sound, run}

-- ---- lists

-- after a write at place i each place has what it had, or is i and has what was written
pub written_at : {X : Type 0} (xs : List X) (i : ℕ) (v d : X) (j : ℕ) → (get_or (set xs i v) j d ≡ get_or xs j d) ⊎ ((j ≡ i) × (get_or (set xs i v) j d ≡ v))
written_at xs i v d j = elim (cases_eq j i) [
  | inl same ↦ elim (cases_lt i (length xs)) [
    | inl within ↦ inr (same, rw same (get_or-set_same xs i v d within))
    | inr past ↦ inl (ap (λ ys. get_or ys j d) (set_past xs i v past))
  ]
  | inr other ↦ inl (get_or-set_other xs i j v d other)
]
  where
    set_past : {X : Type 0} (xs : List X) (i : ℕ) (v : X) → length xs ≤ i → set xs i v ≡ xs
    set_past [] i v past = refl
    set_past (x ∷ xs) zero v past = absurd (omega arith)
    set_past (x ∷ xs) (suc i) v past = ap (λ ys. x ∷ ys) (set_past xs i v (omega arith))

-- a place that is rewritten by f has what f makes of it, past the end too
rewritten_at : {X : Type 0} (f : X → X) (d : X) → f d ≡ d → (xs : List X) (i : ℕ) → get_or (set xs i (f (get_or xs i d))) i d ≡ f (get_or xs i d)
rewritten_at f d same [] i = sym same
rewritten_at f d same (x ∷ xs) zero = refl
rewritten_at f d same (x ∷ xs) (suc i) = rewritten_at f d same xs i

-- some element passes after a write too, if what was written passes where what stood there did
any-set : {X : Type 0} (p : X → Bool) (xs : List X) (i : ℕ) (v d : X) → (p (get_or xs i d) ≡ true → p v ≡ true) → list_any p xs ≡ true → list_any p (set xs i v) ≡ true
any-set p [] i v d keeps some = some
any-set p (x ∷ xs) zero v d keeps some =
    elim (or_cases (p x) (list_any p xs) some) [ inl here ↦ or_left (p v) _ (keeps here) | inr later ↦ or_right (p v) _ later ]
any-set p (x ∷ xs) (suc i) v d keeps some =
    elim (or_cases (p x) (list_any p xs) some) [ inl here ↦ or_left (p x) _ here | inr later ↦ or_right (p x) _ (any-set p xs i v d keeps later) ]

-- where some element passes, what is written over passed, or some element passes after the write
any-set_or : {X : Type 0} (p : X → Bool) (xs : List X) (i : ℕ) (v d : X) → list_any p xs ≡ true → (p (get_or xs i d) ≡ true) ⊎ (list_any p (set xs i v) ≡ true)
any-set_or p [] i v d some = inr some
any-set_or p (x ∷ xs) zero v d some =
    elim (or_cases (p x) (list_any p xs) some) [ inl here ↦ inl here | inr later ↦ inr (or_right (p v) _ later) ]
any-set_or p (x ∷ xs) (suc i) v d some =
    elim (or_cases (p x) (list_any p xs) some) [
      | inl here ↦ inr (or_left (p x) _ here)
      | inr later ↦ elim (any-set_or p xs i v d later) [ inl there ↦ inl there | inr other ↦ inr (or_right (p x) _ other) ]
    ]

-- what passes a test that the default does not pass has a place below the length
pub place_within : {X : Type 0} (p : X → Bool) (d : X) → p d ≡ false → (xs : List X) (i : ℕ) → p (get_or xs i d) ≡ true → i < length xs
place_within p d none [] i h = absurd (false≢true (sym none ∙ h))
place_within p d none (x ∷ xs) zero h = omega arith
place_within p d none (x ∷ xs) (suc i) h = let later = place_within p d none xs i h in omega arith

-- ---- where a task stands

-- idle, or pending after its poll
abbrev rests : Option TaskAt → Bool
rests at = is_idle at || is_pending at

-- a live task that is active, or waits where it rests, is not lost
not_lost : (at : Option TaskAt) (waiting : Bool) → (rests at ≡ true → waiting ≡ true) → is_live at ≡ true → (is_active at || waiting) ≡ true
not_lost at waiting at_rest live =
    elim (or_cases (is_active at) (rests at) (implied is_live (λ at. is_active at || rests at) refl at live)) [
      | inl active ↦ or_left (is_active at) waiting active
      | inr resting ↦ or_right (is_active at) waiting (at_rest resting)
    ]

-- a task that rests is live
rests_live : (at : Option TaskAt) → rests at ≡ true → is_live at ≡ true
rests_live = implied rests is_live refl

delivered_rests : (at : Option TaskAt) → rests (delivered at) ≡ true → ⊥
delivered_rests at h = false≢true (sym (not-true (rests (delivered at)) (passed (λ at. not (rests (delivered at))) refl at)) ∙ h)

-- after a poll without a result a task rests only where it waits
pended_rests : (at : Option TaskAt) (waiting : Bool) → (is_notified at || (is_polling at && waiting)) ≡ true → rests (pended at) ≡ true → waiting ≡ true
pended_rests at true may h = refl
pended_rests at false may h =
    absurd (false≢true (sym (not-true (rests (pended at)) (implied (λ at. is_notified at || (is_polling at && false)) (λ at. not (rests (pended at))) refl at may)) ∙ h))

-- after its turn a task rests only where it rested
turned_rests : (at : Option TaskAt) → rests (turned at) ≡ true → rests at ≡ true
turned_rests = implied (λ at. rests (turned at)) rests refl

-- ---- from the two facts that are kept, the whole

held_from : (s : State) → ((t : ℕ) → rests (task_at s t) ≡ true → is_waiting s t ≡ true) → ((e : ℕ) → (end_at s e).ready ≡ true → (end_at s e).waiting ≡ None) → Held s
held_from s at_rest ready_alone = record {
  none_lost = λ t. not_lost (task_at s t) (is_waiting s t) (at_rest t);
  at_rest = at_rest;
  ready_alone = ready_alone;
}

-- ---- each event

-- a task may go to where it waits if it rests there
moved_held : (s : State) (t : ℕ) (at : Option TaskAt) → (rests at ≡ true → is_waiting s t ≡ true) → Held s → Held (with_task_at s t at)
moved_held s t at waits held = held_from (with_task_at s t at)
    (λ u resting. elim (written_at s.tasks t at None u) [
      | inl same ↦ held.at_rest u (subst (λ x. rests x ≡ true) same resting)
      | inr here ↦ subst (λ n. is_waiting s n ≡ true) (sym here.0) (waits (subst (λ x. rests x ≡ true) here.1 resting))
    ])
    held.ready_alone

-- who is named is who is registered
named : (waiting : Option TaskNo) (u : ℕ) → names waiting u ≡ true → (w : TaskNo) × ((waiting ≡ Some w) × (w.0 ≡ u))
named None u h = absurd (false≢true h)
named (Some w) u h = (w, (refl, eqb-true w.0 u h))

-- nobody is registered at a ready end
abbrev Alone : List End → Type 0
Alone ends = (e : ℕ) → (get_or ends e quiet).ready ≡ true → (get_or ends e quiet).waiting ≡ None

alone-set : (ends : List End) (e : ℕ) (end : End) → (end.ready ≡ true → end.waiting ≡ None) → Alone ends → Alone (set ends e end)
alone-set ends e end own alone d ready = elim (written_at ends e end quiet d) [
  | inl same ↦ subst (λ (x : End). x.waiting ≡ None) (sym same) (alone d (subst (λ (x : End). x.ready ≡ true) same ready))
  | inr here ↦ subst (λ (x : End). x.waiting ≡ None) (sym here.1) (own (subst (λ (x : End). x.ready ≡ true) here.1 ready))
]

-- a live task that the end names is the one for whom it is free
free_for : (tasks : List (Option TaskAt)) (waiting : Option TaskNo) (t u : ℕ) → is_free tasks waiting t ≡ true → names waiting u ≡ true → is_live (get_or tasks u None) ≡ true → t ≡ u
free_for tasks None t u free name live = absurd (false≢true name)
free_for tasks (Some w) t u free name live =
    let is_u = eqb-true w.0 u name in
    elim (or_cases (eqb w.0 t) _ free) [
      | inl same ↦ sym (eqb-true w.0 t same) ∙ is_u
      | inr dead ↦ absurd (false≢true (sym (subst (λ n. is_live (get_or tasks n None) ≡ false) is_u (not-true _ dead)) ∙ live))
    ]

registered_held : (s : State) (t : TaskNo) (e : ℕ) → is_open s e t.0 ≡ true → Held s → Held (after (Register t e) s)
registered_held s t e may held = held_from (after (Register t e) s)
    (λ u resting. elim (or_cases (is_registered s u) (is_woken s u) (held.at_rest u resting)) [
      | inl reg ↦ or_left _ _ (any-set (λ end. is_awaited_by end u) s.ends e (record { ready = false; waiting = Some t }) quiet (keeps u resting) reg)
      | inr woken ↦ or_right _ _ woken
    ])
    (alone-set s.ends e (record { ready = false; waiting = Some t }) (λ ready. absurd (false≢true ready)) held.ready_alone)
  where
    free : is_free s.tasks (end_at s e).waiting t.0 ≡ true
    free = (and_parts (not (end_at s e).ready) (is_free s.tasks (end_at s e).waiting t.0) (and_parts (is_end s e) (not (end_at s e).ready && is_free s.tasks (end_at s e).waiting t.0) may).1).1

    keeps : (u : ℕ) → rests (task_at s u) ≡ true → is_awaited_by (end_at s e) u ≡ true → eqb t.0 u ≡ true
    keeps u resting held_there =
        eq-eqb t.0 u (free_for s.tasks (end_at s e).waiting t.0 u free (and_parts (not (end_at s e).ready) (names (end_at s e).waiting u) held_there).1 (rests_live (task_at s u) resting))

-- a wake of whoever is registered leaves the others, and is a wake of who is named
woken_kept : (wakes : List Bool) (waiting : Option TaskNo) (u : ℕ) → get_or wakes u false ≡ true → get_or (with_wake wakes waiting) u false ≡ true
woken_kept wakes None u woken = woken
woken_kept wakes (Some w) u woken = elim (written_at wakes w.0 true false u) [ inl same ↦ same ∙ woken | inr here ↦ here.1 ]

woken_named : (wakes : List Bool) (waiting : Option TaskNo) (u : ℕ) → u < length wakes → names waiting u ≡ true → get_or (with_wake wakes waiting) u false ≡ true
woken_named wakes None u within name = absurd (false≢true name)
woken_named wakes (Some w) u within name =
    rw (eqb-true w.0 u name) (get_or-set_same wakes u true false within)

length-with_wake : (wakes : List Bool) (waiting : Option TaskNo) → length (with_wake wakes waiting) ≡ length wakes
length-with_wake wakes None = refl
length-with_wake wakes (Some w) = length-set wakes w.0 true

made_ready_held : (s : State) (e : ℕ) → Sound s → Held (after (MakeReady e) s)
made_ready_held s e sound = held_from (after (MakeReady e) s)
    (λ u resting. elim (or_cases (is_registered s u) (is_woken s u) (sound.held.at_rest u resting)) [
      | inl reg ↦ elim (any-set_or (λ end. is_awaited_by end u) s.ends e (record { ready = true; waiting = None }) quiet reg) [
        | inl there ↦ or_right _ _ (woken_named s.wakes (end_at s e).waiting u (within u resting) (and_parts _ _ there).1)
        | inr other ↦ or_left _ _ other
      ]
      | inr woken ↦ or_right _ _ (woken_kept s.wakes (end_at s e).waiting u woken)
    ])
    (alone-set s.ends e (record { ready = true; waiting = None }) (λ ready. refl) sound.held.ready_alone)
  where
    within : (u : ℕ) → rests (task_at s u) ≡ true → u < length s.wakes
    within u resting = let below = place_within rests None refl s.tasks u resting in let same = sound.places in omega arith

spent_held : (s : State) (e : ℕ) → (end_at s e).ready ≡ true → Held s → Held (after (Spend e) s)
spent_held s e ready held = held_from (after (Spend e) s)
    (λ u resting. elim (or_cases (is_registered s u) (is_woken s u) (held.at_rest u resting)) [
      | inl reg ↦ or_left _ _ (any-set (λ end. is_awaited_by end u) s.ends e (record { ready = false; waiting = (end_at s e).waiting }) quiet (λ there. (and_parts _ _ there).1) reg)
      | inr woken ↦ or_right _ _ woken
    ])
    (alone-set s.ends e (record { ready = false; waiting = (end_at s e).waiting }) (λ is_ready. absurd (false≢true is_ready)) held.ready_alone)

woken_held : (s : State) (t : TaskNo) → Held s → Held (after (Wake t) s)
woken_held s t held = held_from (after (Wake t) s)
    (λ u resting. elim (or_cases (is_registered s u) (is_woken s u) (held.at_rest u resting)) [
      | inl reg ↦ or_left _ _ reg
      | inr woken ↦ or_right _ _ (woken_kept s.wakes (Some t) u woken)
    ])
    held.ready_alone

delivered_held : (s : State) (t : TaskNo) → Held s → Held (after (DeliverWake t) s)
delivered_held s t held = held_from (after (DeliverWake t) s)
    (λ u resting. elim (cases_eq u t.0) [
      | inl same ↦ absurd (delivered_rests (task_at s t.0) (subst (λ x. rests x ≡ true) (rewritten_at delivered None refl s.tasks t.0) (subst (λ n. rests (task_at (after (DeliverWake t) s) n) ≡ true) same resting)))
      | inr other ↦ elim (or_cases (is_registered s u) (is_woken s u) (held.at_rest u (subst (λ x. rests x ≡ true) (get_or-set_other s.tasks t.0 u _ None other) resting))) [
        | inl reg ↦ or_left _ _ reg
        | inr woken ↦ or_right _ _ (get_or-set_other s.wakes t.0 u false false other ∙ woken)
      ]
    ])
    held.ready_alone

-- each event that is allowed keeps that no task is lost
event_held : (event : Event) (s : State) → Sound s → allowed event s ≡ true → Held (after event s)
event_held (Spawn t) s sound may = moved_held s t.0 (Some Queued) (λ resting. absurd (false≢true resting)) sound.held
event_held (Take t) s sound may = moved_held s t.0 (Some Polling) (λ resting. absurd (false≢true resting)) sound.held
event_held (Register t e) s sound may = registered_held s t e (and_parts _ _ may).1 sound.held
event_held (Pend t) s sound may = moved_held s t.0 (pended (task_at s t.0)) (pended_rests (task_at s t.0) (is_waiting s t.0) may) sound.held
event_held (EndTurn t) s sound may = moved_held s t.0 (turned (task_at s t.0)) (λ resting. sound.held.at_rest t.0 (turned_rests (task_at s t.0) resting)) sound.held
event_held (Finish t) s sound may = moved_held s t.0 (Some Finished) (λ resting. absurd (false≢true resting)) sound.held
event_held (Cancel t) s sound may = moved_held s t.0 (Some Cancelled) (λ resting. absurd (false≢true resting)) sound.held
event_held (MakeReady e) s sound may = made_ready_held s e sound
event_held (Spend e) s sound may = spent_held s e may sound.held
event_held (Wake t) s sound may = woken_held s t sound.held
event_held (DeliverWake t) s sound may = delivered_held s t sound.held

event_places : (event : Event) (s : State) → length s.wakes ≡ length s.tasks → length (after event s).wakes ≡ length (after event s).tasks
event_places (Spawn t) s same = same ∙ sym (length-set s.tasks t.0 _)
event_places (Take t) s same = same ∙ sym (length-set s.tasks t.0 _)
event_places (Register t e) s same = same
event_places (Pend t) s same = same ∙ sym (length-set s.tasks t.0 _)
event_places (EndTurn t) s same = same ∙ sym (length-set s.tasks t.0 _)
event_places (Finish t) s same = same ∙ sym (length-set s.tasks t.0 _)
event_places (Cancel t) s same = same ∙ sym (length-set s.tasks t.0 _)
event_places (MakeReady e) s same = length-with_wake s.wakes (end_at s e).waiting ∙ same
event_places (Spend e) s same = same
event_places (Wake t) s same = length-set s.wakes t.0 true ∙ same
event_places (DeliverWake t) s same = length-set s.wakes t.0 false ∙ same ∙ sym (length-set s.tasks t.0 _)

pub event_sound : (event : Event) (s : State) → Sound s → allowed event s ≡ true → Sound (after event s)
event_sound event s sound may = record { places = event_places event s sound.places; held = event_held event s sound may }

-- ---- whole runs

pub stepped_sound : (event : Event) (s : State) → Sound s → Sound (stepped event s)
stepped_sound event s sound = cond_both (allowed event s) (after event s) s Sound (event_sound event s sound) (λ refused. sound)

run_sound : (events : List Event) (s : State) → Sound s → Sound (run events s)
run_sound [] s sound = sound
run_sound (event ∷ events) s sound = run_sound events (stepped event s) (stepped_sound event s sound)

pub replicate_at : {X : Type 0} (n : ℕ) (x : X) (i : ℕ) → get_or (replicate n x) i x ≡ x
replicate_at zero x i = refl
replicate_at (suc n) x zero = refl
replicate_at (suc n) x (suc i) = replicate_at n x i

pub opening_sound : (tasks ends : ℕ) → Sound (opening tasks ends)
opening_sound tasks ends = record {
  places = length-replicate (tasks + 1) false ∙ sym (length-replicate (tasks + 1) None);
  held = held_from (opening tasks ends)
      (λ t resting. absurd (false≢true (subst (λ x. rests x ≡ true) (replicate_at (tasks + 1) None t) resting)))
      (λ e ready. absurd (false≢true (subst (λ (x : End). x.ready ≡ true) (replicate_at ends quiet e) ready)));
}

-- what equals the opening loses no task either
pub opened_sound : (tasks ends : ℕ) (s : State) → s ≡ opening tasks ends → Sound s
opened_sound tasks ends s same = subst Sound (sym same) (opening_sound tasks ends)

pub run_held : (tasks ends : ℕ) (events : List Event) → Held (run events (opening tasks ends))
run_held tasks ends events = (run_sound events (opening tasks ends) (opening_sound tasks ends)).held
