-- What a board's lanes keep.
use Rattle.std.proofs.Common.{◌≡◌, ℕ, zero, suc, ◌+◌, ◌*◌, ◌-◌, ◌<◌, ◌≤◌, Bool, true, false, List, [], ◌∷◌, ◌++◌, length, length-set, set, get_or, slice_index_or, slice_get, Some, None, sym, refl, ap, ◌∙◌, subst, arith, get_or-set_same, get_or-set_other, append_assoc, length-append, length-drop, drop}
use mathlib.Core.Logic.{dite}
use mathlib.Core.Option.{some, some-injective, some-ne-none}
use native.Mathlib.Decide.{ℕ_discrete}
use lib.ListN.{get_elem?}
use Rattle.circular_buffer.proofs.Places.{slice_get-set_same, slice_get-set_other, slice_get-some}
use Rattle.std.proofs.lemmas.Option.{get_or_from_slice_get}
use Rattle.std.proofs.lemmas.List.{append-nil}
use Rattle.circular_buffer.specs.Buffer.{buffer, keep_last}
use Rattle.morsel_prims.specs.declared.plain_item.Mark.{Mark}
use Rattle.morsel_prims.specs.declared.plain_item.Mark.TheVariants.{Job, Value, End, Shut}
use Rattle.morsel_prims.specs.declared.plain_item.PlainLane.{PlainLane}
use Rattle.morsel_prims.specs.Marks.{is_unclosed, is_shut, lane_job, lane_values, lane_end, before_shut, is_closed_last, with_job, AreFor, IsPlainLane, ArePlainLanes, OnlyLane, are_sendable, lane_room, sent_row, taken_row}
use Rattle.morsel_prims.specs.Polled.{LaneHistory}
use Rattle.morsel_prims.specs.Rows.{IsNext}
use Rattle.atomic_table.proofs.Lists.{at_index}

pub found : {A : Type 0} (xs : List A) (i : ℕ) (x : A) → i < length xs → x ≡ get_or xs i x → slice_get xs i ≡ Some x
found xs i x small is = let y = slice_get-some xs i small in y.1 ∙ ap Some (sym (is ∙ get_or_from_slice_get xs i y.0 x y.1))

pub kept_whole : {A : Type 0} (n : ℕ) (xs : List A) → length xs ≤ n → keep_last n xs ≡ xs
kept_whole n xs le = let none_too_many : length xs - n ≡ 0 = omega arith in ap (λ k. drop k xs) none_too_many

-- what is kept of a queue is no longer
pub kept_fewer : {A : Type 0} (n : ℕ) (xs : List A) → length (keep_last n xs) ≤ length xs
kept_fewer n xs = let rest = length-drop (length xs - n) xs in omega arith

pub row_there : {X : Type 0} (rows : List (List X)) (k : ℕ) (xs : List X) → get_elem? rows k ≡ some xs → (k < length rows) × (slice_index_or rows k [] ≡ xs)
row_there [] k xs e = absurd (some-ne-none xs (sym e))
row_there (y ∷ ys) zero xs e = (omega arith, some-injective y xs e)
row_there (y ∷ ys) (suc k) xs e = let r = row_there ys k xs e in (omega arith, r.1)

-- the first of a list, and the rest
pub first_rest : {X : Type 0} (xs : List X) (x : X) → slice_get xs 0 ≡ Some x → xs ≡ x ∷ drop 1 xs
first_rest [] x e = absurd cc
first_rest (y ∷ ys) x e = let same : y ≡ x = some_same y x e in ap (λ z. z ∷ ys) same
  where
    some_same : {X : Type 0} (a b : X) → Some a ≡ Some b → a ≡ b
    some_same a b e = cc

-- a list without a first
pub none_first : {X : Type 0} (xs : List X) → slice_get xs 0 ≡ None → xs ≡ []
none_first [] e = refl
none_first (y ∷ ys) e = absurd cc

-- nothing is taken out of an empty queue
pub popped_none : {X : Type 0} (b : Rattle.circular_buffer.specs.Buffer.Buffer X) → b.items ≡ [] → buffer (drop 1 b.items) b.capacity ≡ b
popped_none b e = ap (λ z. buffer z b.capacity) (ap (drop 1) e ∙ sym e)

module _ {A J : Type 0} where
  pub lane_within : (rows : List (List (Mark (A × J) J))) (lanes : List (PlainLane (A × J) J)) (place i : ℕ) (xs : List (Mark (A × J) J)) → ArePlainLanes rows lanes → get_elem? rows place ≡ some xs → place ≡ 2 * i → i < length lanes
  lane_within rows lanes place i xs kept at is = let r = row_there rows place xs at in let n = kept.0 in omega arith

  pub same_lane : (a b : PlainLane (A × J) J) → Some a ≡ Some b → a ≡ b
  same_lane a b e = cc

  -- lane i is now l, and what its sender sent xs
  pub sent_changes : (rows : List (List (Mark (A × J) J))) (lanes : List (PlainLane (A × J) J)) (place i : ℕ) (old xs : List (Mark (A × J) J)) (was l : PlainLane (A × J) J) → ArePlainLanes rows lanes → get_elem? rows place ≡ some old → place ≡ 2 * i → slice_get lanes i ≡ Some was
      → ((taken : List (Mark (A × J) J)) → IsPlainLane old taken was → IsPlainLane xs taken l) → ArePlainLanes (set rows place xs) (set lanes i l)
  sent_changes rows lanes place i old xs was l kept at is there change =
      let here = row_there rows place old at in let small : i < length lanes = lane_within rows lanes place i old kept at is in (
        length-set rows place xs ∙ (kept.0 ∙ ap (λ n. 2 * n) (sym (length-set lanes i l))),
        λ j m e. dite (ℕ_discrete j i)
            (λ same. let is_l : l ≡ m = same_lane l m (sym (slice_get-set_same lanes i l small) ∙ subst (λ (n : ℕ). slice_get (set lanes i l) n ≡ Some m) same e) in
            let other : taken_row (set rows place xs) i ≡ taken_row rows i = get_or-set_other rows place (2 * i + 1) xs [] (λ q. omega arith) in
            let mine : sent_row (set rows place xs) i ≡ xs = ap (λ n. slice_index_or (set rows place xs) n []) (sym is) ∙ get_or-set_same rows place xs [] here.0 in
            let before : sent_row rows i ≡ old = ap (λ n. slice_index_or rows n []) (sym is) ∙ here.1 in
            let now = change (taken_row rows i) (subst (λ z. IsPlainLane z (taken_row rows i) was) before (kept.1 i was there)) in
            let lane : IsPlainLane (sent_row (set rows place xs) i) (taken_row (set rows place xs) i) l = subst (λ z. IsPlainLane z (taken_row (set rows place xs) i) l) (sym mine) (subst (λ z. IsPlainLane xs z l) (sym other) now) in
            subst (IsPlainLane (sent_row (set rows place xs) j) (taken_row (set rows place xs) j)) is_l (subst (λ (n : ℕ). IsPlainLane (sent_row (set rows place xs) n) (taken_row (set rows place xs) n) l) (sym same) lane))
            (λ apart. let k = kept.1 j m (sym (slice_get-set_other lanes i j l apart) ∙ e) in
            let a : sent_row (set rows place xs) j ≡ sent_row rows j = get_or-set_other rows place (2 * j) xs [] (λ q. apart (omega arith)) in
            let b : taken_row (set rows place xs) j ≡ taken_row rows j = get_or-set_other rows place (2 * j + 1) xs [] (λ q. omega arith) in
            subst (λ z. IsPlainLane z (taken_row (set rows place xs) j) m) (sym a) (subst (λ z. IsPlainLane (sent_row rows j) z m) (sym b) k)),
      )

  with_job-append : (job : J) (xs ys : List (Mark (A × J) J)) → with_job job (xs ++ ys) ≡ with_job job xs ++ with_job job ys
  with_job-append job [] ys = refl
  with_job-append job (Job j r ∷ xs) ys = ap (λ z. Job j r ∷ z) (with_job-append job xs ys)
  with_job-append job (Value p ∷ xs) ys = ap (λ z. Value (p.0, job) ∷ z) (with_job-append job xs ys)
  with_job-append job (End w ∷ xs) ys = ap (λ z. End w ∷ z) (with_job-append job xs ys)
  with_job-append job (Shut ∷ xs) ys = ap (λ z. Shut ∷ z) (with_job-append job xs ys)

  job_of-append : (xs ys : List (Mark (A × J) J)) (job : J) → lane_job xs ≡ Some job → lane_job (xs ++ ys) ≡ Some job
  job_of-append [] ys job e = absurd cc
  job_of-append (Job j r ∷ xs) ys job e = e
  job_of-append (Value p ∷ xs) ys job e = absurd cc
  job_of-append (End w ∷ xs) ys job e = absurd cc
  job_of-append (Shut ∷ xs) ys job e = absurd cc

  job_same : (xs ys : List (Mark (A × J) J)) (job other : J) → lane_job xs ≡ Some job → lane_job (xs ++ ys) ≡ Some other → other ≡ job
  job_same xs ys job other e f = let g = job_of-append xs ys job e in cc

  sendable-value : (xs : List (Mark (A × J) J)) (p : A × J) → are_sendable xs ≡ true → are_sendable (xs ++ Value p ∷ []) ≡ true
  sendable-value [] p e = refl
  sendable-value (Job j r ∷ xs) p e = absurd cc
  sendable-value (Value q ∷ xs) p e = sendable-value xs p e
  sendable-value (End w ∷ xs) p e = sendable-value xs p e
  sendable-value (Shut ∷ xs) p e = absurd cc

  sendable-end : (xs : List (Mark (A × J) J)) (w : Bool) → are_sendable xs ≡ true → are_sendable (xs ++ End w ∷ []) ≡ true
  sendable-end [] w e = refl
  sendable-end (Job j r ∷ xs) w e = absurd cc
  sendable-end (Value q ∷ xs) w e = sendable-end xs w e
  sendable-end (End v ∷ xs) w e = sendable-end xs w e
  sendable-end (Shut ∷ xs) w e = absurd cc

  closed-end : (xs : List (Mark (A × J) J)) (w : Bool) → is_unclosed (xs ++ End w ∷ []) ≡ false
  closed-end [] w = refl
  closed-end (Job j r ∷ xs) w = closed-end xs w
  closed-end (Value q ∷ xs) w = closed-end xs w
  closed-end (End v ∷ xs) w = refl
  closed-end (Shut ∷ xs) w = refl

  job-front : (xs : List (Mark (A × J) J)) (w : Bool) (job : J) → lane_job (xs ++ End w ∷ []) ≡ Some job → lane_job xs ≡ Some job
  job-front [] w job e = absurd cc
  job-front (Job j r ∷ xs) w job e = e
  job-front (Value q ∷ xs) w job e = absurd cc
  job-front (End v ∷ xs) w job e = absurd cc
  job-front (Shut ∷ xs) w job e = absurd cc

  room-front : (xs : List (Mark (A × J) J)) (w : Bool) (room : ℕ) → lane_room (xs ++ End w ∷ []) ≡ Some room → lane_room xs ≡ Some room
  room-front [] w room e = absurd cc
  room-front (Job j r ∷ xs) w room e = e
  room-front (Value q ∷ xs) w room e = absurd cc
  room-front (End v ∷ xs) w room e = absurd cc
  room-front (Shut ∷ xs) w room e = absurd cc

  room-before : (xs : List (Mark (A × J) J)) (p : A × J) (room : ℕ) → lane_room (xs ++ Value p ∷ []) ≡ Some room → lane_room xs ≡ Some room
  room-before [] p room e = absurd cc
  room-before (Job j r ∷ xs) p room e = e
  room-before (Value q ∷ xs) p room e = absurd cc
  room-before (End v ∷ xs) p room e = absurd cc
  room-before (Shut ∷ xs) p room e = absurd cc

  pub values-append : (xs ys : List (Mark (A × J) J)) → lane_values (xs ++ ys) ≡ lane_values xs ++ lane_values ys
  values-append [] ys = refl
  values-append (Job j r ∷ xs) ys = values-append xs ys
  values-append (Value p ∷ xs) ys = ap (λ z. p.0 ∷ z) (values-append xs ys)
  values-append (End w ∷ xs) ys = values-append xs ys
  values-append (Shut ∷ xs) ys = values-append xs ys

  -- at most as many values as marks
  pub values-fewer : (xs : List (Mark (A × J) J)) → length (lane_values xs) ≤ length xs
  values-fewer [] = omega arith
  values-fewer (Job j r ∷ xs) = let rest = values-fewer xs in omega arith
  values-fewer (Value p ∷ xs) = let rest = values-fewer xs in omega arith
  values-fewer (End w ∷ xs) = let rest = values-fewer xs in omega arith
  values-fewer (Shut ∷ xs) = let rest = values-fewer xs in omega arith

  values-rest : (x : Mark (A × J) J) (xs : List (Mark (A × J) J)) → length (lane_values xs) ≤ length (lane_values (x ∷ xs))
  values-rest (Job j r) xs = omega arith
  values-rest (Value p) xs = omega arith
  values-rest (End w) xs = omega arith
  values-rest Shut xs = omega arith

  values-end : (xs : List (Mark (A × J) J)) (w : Bool) → length (lane_values (xs ++ End w ∷ [])) ≡ length (lane_values xs)
  values-end [] w = refl
  values-end (Job j r ∷ xs) w = values-end xs w
  values-end (Value p ∷ xs) w = let rest = values-end xs w in omega arith
  values-end (End v ∷ xs) w = values-end xs w
  values-end (Shut ∷ xs) w = values-end xs w

  -- who has not closed, and sends a value, has not closed
  pub unclosed-value : (xs : List (Mark (A × J) J)) (p : A × J) → is_unclosed xs ≡ true → is_unclosed (xs ++ Value p ∷ []) ≡ true
  unclosed-value [] p e = refl
  unclosed-value (Job j r ∷ xs) p e = unclosed-value xs p e
  unclosed-value (Value q ∷ xs) p e = unclosed-value xs p e
  unclosed-value (End w ∷ xs) p e = absurd cc
  unclosed-value (Shut ∷ xs) p e = absurd cc

  last-unclosed : (xs : List (Mark (A × J) J)) → is_unclosed xs ≡ true → is_closed_last xs ≡ true
  last-unclosed [] e = refl
  last-unclosed (Job j r ∷ xs) e = last-unclosed xs e
  last-unclosed (Value p ∷ xs) e = last-unclosed xs e
  last-unclosed (End w ∷ xs) e = absurd cc
  last-unclosed (Shut ∷ xs) e = absurd cc

  last-end : (xs : List (Mark (A × J) J)) (w : Bool) → is_unclosed xs ≡ true → is_closed_last (xs ++ End w ∷ []) ≡ true
  last-end [] w e = refl
  last-end (Job j r ∷ xs) w e = last-end xs w e
  last-end (Value p ∷ xs) w e = last-end xs w e
  last-end (End v ∷ xs) w e = absurd cc
  last-end (Shut ∷ xs) w e = absurd cc

  -- all came before the receiver closed, where it has not
  pub before_unshut : (xs : List (Mark (A × J) J)) → is_shut xs ≡ false → before_shut xs ≡ xs
  before_unshut [] e = refl
  before_unshut (Job j r ∷ xs) e = ap (λ z. Job j r ∷ z) (before_unshut xs e)
  before_unshut (Value p ∷ xs) e = ap (λ z. Value p ∷ z) (before_unshut xs e)
  before_unshut (End w ∷ xs) e = ap (λ z. End w ∷ z) (before_unshut xs e)
  before_unshut (Shut ∷ xs) e = absurd cc

  before-shut : (xs : List (Mark (A × J) J)) → before_shut (xs ++ Shut ∷ []) ≡ before_shut xs
  before-shut [] = refl
  before-shut (Job j r ∷ xs) = ap (λ z. Job j r ∷ z) (before-shut xs)
  before-shut (Value p ∷ xs) = ap (λ z. Value p ∷ z) (before-shut xs)
  before-shut (End w ∷ xs) = ap (λ z. End w ∷ z) (before-shut xs)
  before-shut (Shut ∷ xs) = refl

  -- nothing comes after the sender's end
  pub nothing_after : (xs ys : List (Mark (A × J) J)) (w : Bool) → is_shut xs ≡ false → lane_end xs ≡ Some w → is_closed_last (xs ++ ys) ≡ true → ys ≡ []
  nothing_after [] ys w opened ended last = absurd cc
  nothing_after (Job j r ∷ xs) ys w opened ended last = nothing_after xs ys w opened ended last
  nothing_after (Value p ∷ xs) ys w opened ended last = nothing_after xs ys w opened ended last
  nothing_after (End v ∷ []) [] w opened ended last = refl
  nothing_after (End v ∷ []) (y ∷ ys) w opened ended last = absurd cc
  nothing_after (End v ∷ x ∷ xs) ys w opened ended last = absurd cc
  nothing_after (Shut ∷ xs) ys w opened ended last = absurd cc

  -- the sender closes
  pub lane_ends : (old taken : List (Mark (A × J) J)) (w : Bool) (was l : PlainLane (A × J) J) → is_unclosed old ≡ true → l.shut ≡ was.shut → l.room ≡ was.room
      → l.queue ≡ buffer (keep_last was.queue.capacity (was.queue.items ++ End w ∷ [])) was.queue.capacity → IsPlainLane old taken was → IsPlainLane (old ++ End w ∷ []) taken l
  lane_ends old taken w was l still shut room queue k =
      let long = length-append was.queue.items (End w ∷ []) in let wide = k.capacity in let space = k.closes still in
      let fit : length (was.queue.items ++ End w ∷ []) ≤ was.queue.capacity = omega arith in
      let items : l.queue.items ≡ was.queue.items ++ End w ∷ [] = ap (λ b. b.items) queue ∙ kept_whole was.queue.capacity (was.queue.items ++ End w ∷ []) fit in record {
        shut = shut ∙ k.shut;
        queue = ap (λ z. z ++ End w ∷ []) k.queue ∙ (append_assoc (before_shut taken) was.queue.items (End w ∷ []) ∙ ap (λ z. before_shut taken ++ z) (sym items));
        jobs = λ job is. with_job-append job old (End w ∷ []) ∙ ap (λ z. z ++ End w ∷ []) (k.jobs job (job-front old w job is));
        sendable = ap are_sendable items ∙ sendable-end was.queue.items w k.sendable;
        room = λ n is. room ∙ k.room n (room-front old w n is);
        capacity = ap (λ b. b.capacity) queue ∙ (k.capacity ∙ ap (λ n. n + 1) (sym room));
        closed_last = last-end old w still;
        closes = λ e. absurd (false_true (sym (closed-end old w) ∙ e));
        fits = let same = ap (λ z. length (lane_values z)) items in let none = values-end was.queue.items w in let most = k.fits in omega arith;
      }
    where
      false_true : false ≡ true → ⊥
      false_true e = cc

  -- lane i is now l, and what its receiver took xs
  pub taken_changes : (rows : List (List (Mark (A × J) J))) (lanes : List (PlainLane (A × J) J)) (place i : ℕ) (old xs : List (Mark (A × J) J)) (was l : PlainLane (A × J) J) → ArePlainLanes rows lanes → get_elem? rows place ≡ some old → place ≡ 2 * i + 1 → slice_get lanes i ≡ Some was
      → ((sent : List (Mark (A × J) J)) → IsPlainLane sent old was → IsPlainLane sent xs l) → ArePlainLanes (set rows place xs) (set lanes i l)
  taken_changes rows lanes place i old xs was l kept at is there change =
      let here = row_there rows place old at in let wide = kept.0 in let small : i < length lanes = omega arith in (
        length-set rows place xs ∙ (kept.0 ∙ ap (λ n. 2 * n) (sym (length-set lanes i l))),
        λ j m e. dite (ℕ_discrete j i)
            (λ same. let is_l : l ≡ m = same_lane l m (sym (slice_get-set_same lanes i l small) ∙ subst (λ (n : ℕ). slice_get (set lanes i l) n ≡ Some m) same e) in
            let other : sent_row (set rows place xs) i ≡ sent_row rows i = get_or-set_other rows place (2 * i) xs [] (λ q. omega arith) in
            let mine : taken_row (set rows place xs) i ≡ xs = ap (λ n. slice_index_or (set rows place xs) n []) (sym is) ∙ get_or-set_same rows place xs [] here.0 in
            let before : taken_row rows i ≡ old = ap (λ n. slice_index_or rows n []) (sym is) ∙ here.1 in
            let now = change (sent_row rows i) (subst (λ z. IsPlainLane (sent_row rows i) z was) before (kept.1 i was there)) in
            let lane : IsPlainLane (sent_row (set rows place xs) i) (taken_row (set rows place xs) i) l = subst (λ z. IsPlainLane (sent_row (set rows place xs) i) z l) (sym mine) (subst (λ z. IsPlainLane z xs l) (sym other) now) in
            subst (IsPlainLane (sent_row (set rows place xs) j) (taken_row (set rows place xs) j)) is_l (subst (λ (n : ℕ). IsPlainLane (sent_row (set rows place xs) n) (taken_row (set rows place xs) n) l) (sym same) lane))
            (λ apart. let k = kept.1 j m (sym (slice_get-set_other lanes i j l apart) ∙ e) in
            let a : sent_row (set rows place xs) j ≡ sent_row rows j = get_or-set_other rows place (2 * j) xs [] (λ q. omega arith) in
            let b : taken_row (set rows place xs) j ≡ taken_row rows j = get_or-set_other rows place (2 * j + 1) xs [] (λ q. apart (omega arith)) in
            subst (λ z. IsPlainLane z (taken_row (set rows place xs) j) m) (sym a) (subst (λ z. IsPlainLane (sent_row rows j) z m) (sym b) k)),
      )

  unshut : (xs rest : List (Mark (A × J) J)) (x : Mark (A × J) J) → are_sendable (x ∷ rest) ≡ true → is_shut (xs ++ x ∷ []) ≡ is_shut xs
  unshut [] rest (Job j r) s = absurd cc
  unshut [] rest (Value p) s = refl
  unshut [] rest (End w) s = refl
  unshut [] rest Shut s = absurd cc
  unshut (Job j r ∷ xs) rest x s = unshut xs rest x s
  unshut (Value p ∷ xs) rest x s = unshut xs rest x s
  unshut (End w ∷ xs) rest x s = unshut xs rest x s
  unshut (Shut ∷ xs) rest x s = refl

  sendable-rest : (x : Mark (A × J) J) (rest : List (Mark (A × J) J)) → are_sendable (x ∷ rest) ≡ true → are_sendable rest ≡ true
  sendable-rest (Job j r) rest s = absurd cc
  sendable-rest (Value p) rest s = s
  sendable-rest (End w) rest s = s
  sendable-rest Shut rest s = absurd cc

  pub sendable-first : (x : Mark (A × J) J) (rest : List (Mark (A × J) J)) → are_sendable (x ∷ rest) ≡ true → are_sendable (x ∷ []) ≡ true
  sendable-first (Job j r) rest s = absurd cc
  sendable-first (Value p) rest s = refl
  sendable-first (End w) rest s = refl
  sendable-first Shut rest s = absurd cc

  -- the receiver takes what comes first
  pub lane_gives : (sent old : List (Mark (A × J) J)) (x : Mark (A × J) J) (was l : PlainLane (A × J) J) → was.queue.items ≡ x ∷ l.queue.items → l.queue.capacity ≡ was.queue.capacity → l.shut ≡ was.shut → l.room ≡ was.room
      → is_shut old ≡ false → IsPlainLane sent old was → IsPlainLane sent (old ++ x ∷ []) l
  lane_gives sent old x was l first capacity shut room opened k =
      let s : are_sendable (x ∷ l.queue.items) ≡ true = sym (ap are_sendable first) ∙ k.sendable in
      let still : is_shut (old ++ x ∷ []) ≡ false = unshut old l.queue.items x s ∙ opened in record {
        shut = shut ∙ (k.shut ∙ sym (unshut old l.queue.items x s));
        queue = k.queue ∙ (ap (λ z. z ++ was.queue.items) (before_unshut old opened) ∙ (ap (λ z. old ++ z) first ∙ (sym (append_assoc old (x ∷ []) l.queue.items) ∙ ap (λ z. z ++ l.queue.items) (sym (before_unshut (old ++ x ∷ []) still)))));
        jobs = k.jobs;
        sendable = sendable-rest x l.queue.items s;
        room = λ n is. room ∙ k.room n is;
        capacity = capacity ∙ (k.capacity ∙ ap (λ n. n + 1) (sym room));
        closed_last = k.closed_last;
        closes = λ e. let most = k.closes e in let fewer = ap length first in omega arith;
        fits = let most = k.fits in let same = ap (λ z. length (lane_values z)) first in let fewer = values-rest x l.queue.items in omega arith;
      }

  -- a lane that is not full takes a value
  pub lane_takes : (old taken : List (Mark (A × J) J)) (p : A × J) (was l : PlainLane (A × J) J) → lane_job old ≡ Some p.1 → is_unclosed old ≡ true → was.shut ≡ false → l.shut ≡ was.shut → l.room ≡ was.room → length was.queue.items < was.room
      → l.queue ≡ buffer (keep_last was.queue.capacity (was.queue.items ++ Value p ∷ [])) was.queue.capacity → IsPlainLane old taken was → IsPlainLane (old ++ Value p ∷ []) taken l
  lane_takes old taken p was l job still opened shut room space queue k =
      let long = length-append was.queue.items (Value p ∷ []) in let wide = k.capacity in
      let fit : length (was.queue.items ++ Value p ∷ []) ≤ was.queue.capacity = omega arith in
      let items : l.queue.items ≡ was.queue.items ++ Value p ∷ [] = ap (λ b. b.items) queue ∙ kept_whole was.queue.capacity (was.queue.items ++ Value p ∷ []) fit in record {
        shut = shut ∙ k.shut;
        queue = ap (λ z. z ++ Value p ∷ []) k.queue ∙ (append_assoc (before_shut taken) was.queue.items (Value p ∷ []) ∙ ap (λ z. before_shut taken ++ z) (sym items));
        jobs = λ other is. let same : other ≡ p.1 = job_same old (Value p ∷ []) p.1 other job is in
            subst (λ (z : J). AreFor z (old ++ Value p ∷ [])) (sym same) (with_job-append p.1 old (Value p ∷ []) ∙ ap (λ z. z ++ Value p ∷ []) (k.jobs p.1 job));
        sendable = ap are_sendable items ∙ sendable-value was.queue.items p k.sendable;
        room = λ n is. room ∙ k.room n (room-before old p n is);
        capacity = ap (λ b. b.capacity) queue ∙ (k.capacity ∙ ap (λ n. n + 1) (sym room));
        closed_last = last-unclosed (old ++ Value p ∷ []) (unclosed-value old p still);
        closes = λ _. let more = ap length items in omega arith;
        fits = let fewer = values-fewer l.queue.items in let more = ap length items in omega arith;
      }

  -- lane i is now l, and the rows are what they were
  pub lane_changes : (rows : List (List (Mark (A × J) J))) (lanes : List (PlainLane (A × J) J)) (i : ℕ) (was l : PlainLane (A × J) J) → ArePlainLanes rows lanes → i < length lanes → slice_get lanes i ≡ Some was
      → ((sent taken : List (Mark (A × J) J)) → IsPlainLane sent taken was → IsPlainLane sent taken l) → ArePlainLanes rows (set lanes i l)
  lane_changes rows lanes i was l kept small there change = (
    kept.0 ∙ ap (λ n. 2 * n) (sym (length-set lanes i l)),
    λ j m e. dite (ℕ_discrete j i)
        (λ same. let is_l : l ≡ m = same_lane l m (sym (slice_get-set_same lanes i l small) ∙ subst (λ (n : ℕ). slice_get (set lanes i l) n ≡ Some m) same e) in
        let now = change (sent_row rows i) (taken_row rows i) (kept.1 i was there) in
        subst (IsPlainLane (sent_row rows j) (taken_row rows j)) is_l (subst (λ (n : ℕ). IsPlainLane (sent_row rows n) (taken_row rows n) l) (sym same) now))
        (λ apart. kept.1 j m (sym (slice_get-set_other lanes i j l apart) ∙ e)),
  )

  -- what waits is no part of what a lane has
  pub lane_waits : (sent taken : List (Mark (A × J) J)) (was l : PlainLane (A × J) J) → l.shut ≡ was.shut → l.room ≡ was.room → l.queue ≡ was.queue → IsPlainLane sent taken was → IsPlainLane sent taken l
  lane_waits sent taken was l shut room queue k = record {
    shut = shut ∙ k.shut;
    queue = k.queue ∙ ap (λ q. before_shut taken ++ q.items) (sym queue);
    jobs = k.jobs;
    sendable = ap (λ q. are_sendable q.items) queue ∙ k.sendable;
    room = λ n is. room ∙ k.room n is;
    capacity = ap (λ q. q.capacity) queue ∙ (k.capacity ∙ ap (λ n. n + 1) (sym room));
    closed_last = k.closed_last;
    closes = λ e. let most = k.closes e in let same = ap (λ q. length q.items) queue in omega arith;
    fits = let most = k.fits in let same = ap (λ q. length (lane_values q.items)) queue in omega arith;
  }

  -- who waits at lane i has changed, and nothing else of it
  pub only_waits : (rows now : List (List (Mark (A × J) J))) (lanes : List (PlainLane (A × J) J)) (i : ℕ) (was l : PlainLane (A × J) J) → now ≡ rows → ArePlainLanes rows lanes → i < length lanes → slice_get lanes i ≡ Some was → l.shut ≡ was.shut → l.room ≡ was.room → l.queue ≡ was.queue → ArePlainLanes now (set lanes i l)
  only_waits rows now lanes i was l same kept small there shut room queue =
      subst (λ rs. ArePlainLanes rs (set lanes i l)) (sym same) (lane_changes rows lanes i was l kept small there (λ sent taken. lane_waits sent taken was l shut room queue))

  shut-last : (xs : List (Mark (A × J) J)) → is_shut (xs ++ Shut ∷ []) ≡ true
  shut-last [] = refl
  shut-last (Job j r ∷ xs) = shut-last xs
  shut-last (Value p ∷ xs) = shut-last xs
  shut-last (End w ∷ xs) = shut-last xs
  shut-last (Shut ∷ xs) = refl

  -- the receiver closes
  pub lane_shuts : (sent old : List (Mark (A × J) J)) (was l : PlainLane (A × J) J) → l.shut ≡ true → l.room ≡ was.room → l.queue ≡ was.queue → IsPlainLane sent old was → IsPlainLane sent (old ++ Shut ∷ []) l
  lane_shuts sent old was l shut room queue k = record {
    shut = shut ∙ sym (shut-last old);
    queue = k.queue ∙ (ap (λ z. z ++ was.queue.items) (sym (before-shut old)) ∙ ap (λ q. before_shut (old ++ Shut ∷ []) ++ q.items) (sym queue));
    jobs = k.jobs;
    sendable = ap (λ q. are_sendable q.items) queue ∙ k.sendable;
    room = λ n is. room ∙ k.room n is;
    capacity = ap (λ q. q.capacity) queue ∙ (k.capacity ∙ ap (λ n. n + 1) (sym room));
    closed_last = k.closed_last;
    closes = λ e. let most = k.closes e in let same = ap (λ q. length q.items) queue in omega arith;
    fits = let most = k.fits in let same = ap (λ q. length (lane_values q.items)) queue in omega arith;
  }

  -- the lane of a receiver's row
  pub taken_within : (rows : List (List (Mark (A × J) J))) (lanes : List (PlainLane (A × J) J)) (place i : ℕ) (xs : List (Mark (A × J) J)) → ArePlainLanes rows lanes → get_elem? rows place ≡ some xs → place ≡ 2 * i + 1 → i < length lanes
  taken_within rows lanes place i xs kept at is = let r = row_there rows place xs at in let n = kept.0 in omega arith

  for_tail : (job : J) (y : Mark (A × J) J) (ys : List (Mark (A × J) J)) → AreFor job (y ∷ ys) → AreFor job ys
  for_tail job (Job j r) ys e = ap (drop 1) e
  for_tail job (Value p) ys e = ap (drop 1) e
  for_tail job (End w) ys e = ap (drop 1) e
  for_tail job Shut ys e = ap (drop 1) e

  for_head : (job : J) (y : Mark (A × J) J) (ys : List (Mark (A × J) J)) → AreFor job (y ∷ ys) → AreFor job (y ∷ [])
  for_head job (Job j r) ys e = refl
  for_head job (Value p) ys e = ap (Rattle.std.specs.Prelude.take 1) e
  for_head job (End w) ys e = refl
  for_head job Shut ys e = refl

  for_middle : (job : J) (xs : List (Mark (A × J) J)) (x : Mark (A × J) J) (rest : List (Mark (A × J) J)) → AreFor job (xs ++ x ∷ rest) → AreFor job (x ∷ [])
  for_middle job [] x rest e = for_head job x rest e
  for_middle job (y ∷ ys) x rest e = for_middle job ys x rest (for_tail job y (ys ++ x ∷ rest) e)

  pub open_unshut : (xs : List (Mark (A × J) J)) → is_unclosed xs ≡ true → is_shut xs ≡ false
  open_unshut [] e = refl
  open_unshut (Job j r ∷ xs) e = open_unshut xs e
  open_unshut (Value p ∷ xs) e = open_unshut xs e
  open_unshut (End w ∷ xs) e = absurd cc
  open_unshut (Shut ∷ xs) e = absurd cc

  -- at a receiver's row, its lane
  pub at_taken : (rows : List (List (Mark (A × J) J))) (lanes : List (PlainLane (A × J) J)) (place i : ℕ) (old : List (Mark (A × J) J)) (was : PlainLane (A × J) J) → ArePlainLanes rows lanes → get_elem? rows place ≡ some old → place ≡ 2 * i + 1 → slice_get lanes i ≡ Some was → IsPlainLane (sent_row rows i) old was
  at_taken rows lanes place i old was kept at is there =
      let here = row_there rows place old at in let before : taken_row rows i ≡ old = ap (λ n. slice_index_or rows n []) (sym is) ∙ here.1 in
      subst (λ z. IsPlainLane (sent_row rows i) z was) before (kept.1 i was there)

  -- at a sender's row, its lane
  pub at_sent : (rows : List (List (Mark (A × J) J))) (lanes : List (PlainLane (A × J) J)) (place i : ℕ) (old : List (Mark (A × J) J)) (was : PlainLane (A × J) J) → ArePlainLanes rows lanes → get_elem? rows place ≡ some old → place ≡ 2 * i → slice_get lanes i ≡ Some was → IsPlainLane old (taken_row rows i) was
  at_sent rows lanes place i old was kept at is there =
      let here = row_there rows place old at in let before : sent_row rows i ≡ old = ap (λ n. slice_index_or rows n []) (sym is) ∙ here.1 in
      subst (λ z. IsPlainLane z (taken_row rows i) was) before (kept.1 i was there)

  -- what comes first in a queue is for the lane's job
  pub first_job : (rows : List (List (Mark (A × J) J))) (lanes : List (PlainLane (A × J) J)) (place i : ℕ) (old rest : List (Mark (A × J) J)) (x : Mark (A × J) J) (was : PlainLane (A × J) J) → ArePlainLanes rows lanes → get_elem? rows place ≡ some old → place ≡ 2 * i + 1 → slice_get lanes i ≡ Some was
      → was.queue.items ≡ x ∷ rest → is_shut old ≡ false → (job : J) → lane_job old ≡ Some job → AreFor job (x ∷ [])
  first_job rows lanes place i old rest x was kept at is there first opened job for_job =
      let k = at_taken rows lanes place i old was kept at is there in
      let whole : sent_row rows i ≡ old ++ x ∷ rest = k.queue ∙ (ap (λ z. z ++ was.queue.items) (before_unshut old opened) ∙ ap (λ z. old ++ z) first) in
      let all = k.jobs job (ap lane_job whole ∙ job_of-append old (x ∷ rest) job for_job) in for_middle job old x rest (subst (AreFor job) whole all)

  -- what comes first in a queue comes next in what was sent
  pub next_of_lane : (rows : List (List (Mark (A × J) J))) (lanes : List (PlainLane (A × J) J)) (place i : ℕ) (old : List (Mark (A × J) J)) (x : Mark (A × J) J) (rest : List (Mark (A × J) J)) (was : PlainLane (A × J) J) → ArePlainLanes rows lanes → get_elem? rows place ≡ some old → place ≡ 2 * i + 1 → slice_get lanes i ≡ Some was
      → is_shut old ≡ false → was.queue.items ≡ x ∷ rest → IsNext rows (place - 1) (length old) x
  next_of_lane rows lanes place i old x rest was kept at is there opened first =
      let k = at_taken rows lanes place i old was kept at is there in
      let whole : sent_row rows i ≡ old ++ x ∷ rest = k.queue ∙ (ap (λ z. z ++ was.queue.items) (before_unshut old opened) ∙ ap (λ z. old ++ z) first) in
      let here = row_there rows place old at in let before : place - 1 ≡ 2 * i = omega arith in
      (sent_row rows i, at_index rows (place - 1) (sent_row rows i) (omega arith) (ap (λ n. slice_index_or rows n []) (sym before) ∙ same_row rows (place - 1) (omega arith) (sent_row rows i)), ap (λ z. get_elem? z (length old)) whole ∙ next-append old x rest)
    where
      same_row : (rs : List (List (Mark (A × J) J))) (n : ℕ) → n < length rs → (d : List (Mark (A × J) J)) → get_or rs n [] ≡ get_or rs n d
      same_row [] n small d = absurd (omega arith)
      same_row (r ∷ rs) zero small d = refl
      same_row (r ∷ rs) (suc n) small d = same_row rs n (omega arith) d

      next-append : (xs : List (Mark (A × J) J)) (y : Mark (A × J) J) (ys : List (Mark (A × J) J)) → get_elem? (xs ++ y ∷ ys) (length xs) ≡ some y
      next-append [] y ys = refl
      next-append (z ∷ xs) y ys = next-append xs y ys

  -- where the queue has nothing, what was sent is what was taken
  pub all_was_taken : (rows : List (List (Mark (A × J) J))) (lanes : List (PlainLane (A × J) J)) (place i : ℕ) (old : List (Mark (A × J) J)) (was : PlainLane (A × J) J) → ArePlainLanes rows lanes → get_elem? rows place ≡ some old → place ≡ 2 * i + 1 → slice_get lanes i ≡ Some was
      → is_shut old ≡ false → was.queue.items ≡ [] → sent_row rows i ≡ old
  all_was_taken rows lanes place i old was kept at is there opened none =
      let k = at_taken rows lanes place i old was kept at is there in k.queue ∙ (ap (λ z. z ++ was.queue.items) (before_unshut old opened) ∙ (ap (λ z. old ++ z) none ∙ append-nil old))

  -- where the receiver has taken the sender's end, the queue has nothing
  pub end_was_taken : (rows : List (List (Mark (A × J) J))) (lanes : List (PlainLane (A × J) J)) (place i : ℕ) (old : List (Mark (A × J) J)) (w : Bool) (was : PlainLane (A × J) J) → ArePlainLanes rows lanes → get_elem? rows place ≡ some old → place ≡ 2 * i + 1 → slice_get lanes i ≡ Some was
      → is_shut old ≡ false → lane_end old ≡ Some w → was.queue.items ≡ []
  end_was_taken rows lanes place i old w was kept at is there opened ended =
      let k = at_taken rows lanes place i old was kept at is there in let whole : sent_row rows i ≡ old ++ was.queue.items = k.queue ∙ ap (λ z. z ++ was.queue.items) (before_unshut old opened) in
      nothing_after old was.queue.items w opened ended (sym (ap is_closed_last whole) ∙ k.closed_last)

  -- what the receiver has then taken is all
  pub all_was_ended : (rows : List (List (Mark (A × J) J))) (lanes : List (PlainLane (A × J) J)) (place i : ℕ) (old : List (Mark (A × J) J)) (w : Bool) → ArePlainLanes rows lanes → get_elem? rows place ≡ some old → place ≡ 2 * i + 1 → is_shut old ≡ false → lane_end old ≡ Some w → sent_row rows i ≡ old
  all_was_ended rows lanes place i old w kept at is opened ended =
      let lane = slice_get-some lanes i (taken_within rows lanes place i old kept at is) in
      all_was_taken rows lanes place i old lane.0 kept at is lane.1 opened (end_was_taken rows lanes place i old w lane.0 kept at is lane.1 opened ended)

  -- what a sender has just written
  pub sent_row-set : (rows : List (List (Mark (A × J) J))) (place i : ℕ) (old xs : List (Mark (A × J) J)) → get_elem? rows place ≡ some old → place ≡ 2 * i → sent_row (set rows place xs) i ≡ xs
  sent_row-set rows place i old xs at is = let here = row_there rows place old at in ap (λ n. slice_index_or (set rows place xs) n []) (sym is) ∙ get_or-set_same rows place xs [] here.0

  -- only lane i has changed
  pub only_lane : (lanes : List (PlainLane (A × J) J)) (i : ℕ) (l : PlainLane (A × J) J) → OnlyLane i lanes (set lanes i l)
  only_lane lanes i l j apart = slice_get-set_other lanes i j l apart

  -- a lane whose sender has not closed holds at most its room
  pub held_within : (rows : List (List (Mark (A × J) J))) (lanes : List (PlainLane (A × J) J)) (place i : ℕ) (old : List (Mark (A × J) J)) (was : PlainLane (A × J) J) (room : ℕ) → ArePlainLanes rows lanes → get_elem? rows place ≡ some old → place ≡ 2 * i → slice_get lanes i ≡ Some was
      → is_unclosed old ≡ true → lane_room old ≡ Some room → length was.queue.items ≤ room
  held_within rows lanes place i old was room kept at is there still of_room =
      let k = at_sent rows lanes place i old was kept at is there in let most = k.closes still in let same = k.room room of_room in omega arith

  -- what was taken is the beginning of what was sent
  pub history_of_rows : (rows : List (List (Mark (A × J) J))) (lanes : List (PlainLane (A × J) J)) (p q i : ℕ) (sent taken : List (Mark (A × J) J)) (room : ℕ) → ArePlainLanes rows lanes → get_elem? rows p ≡ some sent → p ≡ 2 * i → get_elem? rows q ≡ some taken → q ≡ 2 * i + 1
      → is_unclosed sent ≡ true → is_shut taken ≡ false → lane_room sent ≡ Some room → LaneHistory (lane_values sent) (lane_values taken) room
  history_of_rows rows lanes p q i sent taken room kept at is at_q is_q still opened of_room =
      let lane = slice_get-some lanes i (lane_within rows lanes p i sent kept at is) in let here = row_there rows q taken at_q in
      let other : taken_row rows i ≡ taken = ap (λ n. slice_index_or rows n []) (sym is_q) ∙ here.1 in
      let k = subst (λ z. IsPlainLane sent z lane.0) other (at_sent rows lanes p i sent lane.0 kept at is lane.1) in
      let whole : sent ≡ taken ++ lane.0.queue.items = k.queue ∙ ap (λ z. z ++ lane.0.queue.items) (before_unshut taken opened) in
      let same = k.room room of_room in let most = k.fits in
      (lane_values lane.0.queue.items, ap lane_values whole ∙ values-append taken lane.0.queue.items, omega arith)

  -- where the receiver has taken the sender's end, it has taken what was sent
  pub both_ended : (rows : List (List (Mark (A × J) J))) (lanes : List (PlainLane (A × J) J)) (p q i : ℕ) (sent taken : List (Mark (A × J) J)) (w : Bool) → ArePlainLanes rows lanes → get_elem? rows p ≡ some sent → p ≡ 2 * i → get_elem? rows q ≡ some taken → q ≡ 2 * i + 1 → is_shut taken ≡ false → lane_end taken ≡ Some w → sent ≡ taken
  both_ended rows lanes p q i sent taken w kept at is at_q is_q opened ended =
      let here = row_there rows p sent at in let mine : sent_row rows i ≡ sent = ap (λ n. slice_index_or rows n []) (sym is) ∙ here.1 in
      sym mine ∙ all_was_ended rows lanes q i taken w kept at_q is_q opened ended
