-- What the ends of a plain lane keep.
use Rattle.std.proofs.Common.{◌≡◌, ℕ, Bool, true, false, List, [], ◌∷◌, ◌++◌, Option, None, Some, Result, Ok, Err, OnOk, OnErr, sym, refl, ap, ◌∙◌, subst}
use Rattle.std.proofs.lemmas.List.{append-nil}
use Rattle.morsel_prims.specs.declared.plain_item.Mark.{Mark}
use Rattle.morsel_prims.specs.declared.plain_item.Mark.TheVariants.{Job, Value, End, Shut}
use Rattle.morsel_prims.specs.Marks.{AreFor, are_sendable, is_closed_as, is_shut, is_unclosed, lane_end, lane_job, lane_room, lane_values}
use Rattle.morsel_prims.proofs.MarkLemmas.{values-append}

-- what holds of both lists holds of the one that there is
pub by_answer : {A E M : Type 0} (r : Result A E) (P : List M → Type 0) (old more new : List M) → OnOk r (new ≡ more) → OnErr r (new ≡ old) → P more → P old → P new
by_answer (Ok a) P old more new ok err then_more then_old = subst P (sym ok) then_more
by_answer (Err e) P old more new ok err then_more then_old = subst P (sym err) then_old

module _ {A J : Type 0} where
  pub values-value : (xs : List (Mark (A × J) J)) (p : A × J) → lane_values (xs ++ Value p ∷ []) ≡ lane_values xs ++ p.0 ∷ []
  values-value xs p = values-append xs (Value p ∷ [])

  pub values-end : (xs : List (Mark (A × J) J)) (w : Bool) → lane_values (xs ++ End w ∷ []) ≡ lane_values xs
  values-end xs w = values-append xs (End w ∷ []) ∙ append-nil (lane_values xs)

  -- how a sender that has just closed has closed
  pub end-last : (xs : List (Mark (A × J) J)) (w : Bool) → is_unclosed xs ≡ true → lane_end (xs ++ End w ∷ []) ≡ Some w
  end-last [] w e = refl
  end-last (Job j r ∷ xs) w e = end-last xs w e
  end-last (Value p ∷ xs) w e = end-last xs w e
  end-last (End v ∷ xs) w e = absurd cc
  end-last (Shut ∷ xs) w e = absurd cc

  -- a value is no end
  pub end-value : (xs : List (Mark (A × J) J)) (p : A × J) → lane_end (xs ++ Value p ∷ []) ≡ lane_end xs
  end-value [] p = refl
  end-value (Job j r ∷ xs) p = end-value xs p
  end-value (Value q ∷ xs) p = end-value xs p
  end-value (End v ∷ xs) p = refl
  end-value (Shut ∷ xs) p = refl

  pub job-append : (xs ys : List (Mark (A × J) J)) (job : J) → lane_job xs ≡ Some job → lane_job (xs ++ ys) ≡ Some job
  job-append [] ys job e = absurd cc
  job-append (Job j r ∷ xs) ys job e = e
  job-append (Value p ∷ xs) ys job e = absurd cc
  job-append (End w ∷ xs) ys job e = absurd cc
  job-append (Shut ∷ xs) ys job e = absurd cc

  pub room-append : (xs ys : List (Mark (A × J) J)) (room : ℕ) → lane_room xs ≡ Some room → lane_room (xs ++ ys) ≡ Some room
  room-append [] ys room e = absurd cc
  room-append (Job j r ∷ xs) ys room e = e
  room-append (Value p ∷ xs) ys room e = absurd cc
  room-append (End w ∷ xs) ys room e = absurd cc
  room-append (Shut ∷ xs) ys room e = absurd cc

  -- who has seen no end, and has not closed, is open
  pub unclosed_unended : (xs : List (Mark (A × J) J)) → is_shut xs ≡ false → lane_end xs ≡ None → is_unclosed xs ≡ true
  unclosed_unended [] opened e = refl
  unclosed_unended (Job j r ∷ xs) opened e = unclosed_unended xs opened e
  unclosed_unended (Value p ∷ xs) opened e = unclosed_unended xs opened e
  unclosed_unended (End w ∷ xs) opened e = absurd cc
  unclosed_unended (Shut ∷ xs) opened e = absurd cc

  -- what is taken out of the queue does not close the receiver
  pub unshut-taken : (xs : List (Mark (A × J) J)) (x : Mark (A × J) J) → are_sendable (x ∷ []) ≡ true → is_shut xs ≡ false → is_shut (xs ++ x ∷ []) ≡ false
  unshut-taken [] (Job j r) s e = absurd cc
  unshut-taken [] (Value p) s e = refl
  unshut-taken [] (End w) s e = refl
  unshut-taken [] Shut s e = absurd cc
  unshut-taken (Job j r ∷ xs) x s e = unshut-taken xs x s e
  unshut-taken (Value p ∷ xs) x s e = unshut-taken xs x s e
  unshut-taken (End w ∷ xs) x s e = unshut-taken xs x s e
  unshut-taken (Shut ∷ xs) x s e = absurd cc

  -- the job of the first value
  job_or : J → List (Mark (A × J) J) → J
  job_or other [] = other
  job_or other (Job j r ∷ marks) = other
  job_or other (Value p ∷ marks) = p.1
  job_or other (End w ∷ marks) = other
  job_or other (Shut ∷ marks) = other

  -- a value that is for a job is for that one
  pub value_for : (job : J) (p : A × J) → AreFor job (Value p ∷ []) → p.1 ≡ job
  unfolding job_or
  value_for job p e = ap (job_or job) (sym e)

-- where the sender has closed so, the receiver has seen it
pub whole_seen : (e : Option Bool) → is_closed_as e true ≡ true → e ≡ Some true
whole_seen None e = absurd cc
whole_seen (Some true) e = refl
whole_seen (Some false) e = absurd cc
