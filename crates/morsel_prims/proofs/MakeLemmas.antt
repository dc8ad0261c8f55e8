-- A lane is made.
use Rattle.std.proofs.Common.{◌≡◌, ℕ, ◌+◌, ◌*◌, ◌<◌, false, List, [], ◌∷◌, ◌++◌, length, length-append, get_or, slice_get, Some, sym, refl, ap, ◌∙◌, subst, arith}
use Rattle.std.proofs.lemmas.List.{get_or_append_left}
use Rattle.std.proofs.lemmas.Option.{slice_get_within}
use Rattle.std.proofs.Math.Seq.{get_or-append_seam}
use mathlib.Core.Logic.{dite}
use native.Mathlib.Decide.{ℕ_discrete}
use Rattle.circular_buffer.proofs.Places.{slice_get-last, slice_get-push}
use Rattle.circular_buffer.specs.Buffer.{buffer}
use Rattle.std.specs.declared.snapshot.Snapshot.{Snapshot}
use Rattle.morsel_prims.specs.declared.plain_item.Mark.{Mark}
use Rattle.morsel_prims.specs.declared.plain_item.Mark.TheVariants.{Job}
use Rattle.morsel_prims.specs.declared.plain_item.PlainLane.{PlainLane}
use Rattle.morsel_prims.specs.Marks.{IsPlainLane, ArePlainLanes, OnlyLane, sent_row, taken_row}
use Rattle.morsel_prims.proofs.MarkLemmas.{same_lane}

module _ {A J : Type 0} where
  -- a lane whose two ends have written what it is for
  new_lane : (told : Snapshot J) (room : ℕ) (l : PlainLane (A × J) J) → l.queue ≡ buffer [] (room + 1) → l.room ≡ room → l.shut ≡ false → IsPlainLane (Job told room ∷ []) (Job told room ∷ []) l
  new_lane told room l queue of_room open_still =
      let none : l.queue.items ≡ [] = ap (λ b. b.items) queue in record {
        shut = open_still;
        queue = ap (λ z. Job told room ∷ z) (sym none);
        jobs = λ job is. refl;
        sendable = ap Rattle.morsel_prims.specs.Marks.are_sendable none;
        room = λ n is. of_room ∙ some_same room n is;
        capacity = ap (λ b. b.capacity) queue ∙ ap (λ n. n + 1) (sym of_room);
        closed_last = refl;
        closes = λ e. let nothing = ap length none in omega arith;
        fits = let nothing = ap (λ z. length (Rattle.morsel_prims.specs.Marks.lane_values z)) none in omega arith;
      }
    where
      some_same : (m n : ℕ) → Some m ≡ Some n → m ≡ n
      some_same m n e = cc

  -- the lane comes last, and its two rows
  pub lane_added : (rows : List (List (Mark (A × J) J))) (lanes : List (PlainLane (A × J) J)) (told : Snapshot J) (room : ℕ) (l : PlainLane (A × J) J) → ArePlainLanes rows lanes → l.queue ≡ buffer [] (room + 1) → l.room ≡ room → l.shut ≡ false
      → ArePlainLanes ((rows ++ (Job told room ∷ []) ∷ []) ++ (Job told room ∷ []) ∷ []) (lanes ++ l ∷ [])
  lane_added rows lanes told room l kept queue of_room open_still = (count, each)
    where
      new : List (Mark (A × J) J)
      new = Job told room ∷ []

      count : length ((rows ++ new ∷ []) ++ new ∷ []) ≡ 2 * length (lanes ++ l ∷ [])
      count = let n = kept.0 in let a = length-append (rows ++ new ∷ []) (new ∷ []) in let b = length-append rows (new ∷ []) in let d = length-append lanes (l ∷ []) in omega arith

      before : (k : ℕ) → k < length rows → get_or ((rows ++ new ∷ []) ++ new ∷ []) k [] ≡ get_or rows k []
      before k small =
          let b = length-append rows (new ∷ []) in let wide : k < length (rows ++ new ∷ []) = omega arith in
          get_or_append_left (rows ++ new ∷ []) (new ∷ []) [] k wide ∙ get_or_append_left rows (new ∷ []) [] k small

      sent : sent_row ((rows ++ new ∷ []) ++ new ∷ []) (length lanes) ≡ new
      sent =
          let n = kept.0 in let b = length-append rows (new ∷ []) in let small : 2 * length lanes < length (rows ++ new ∷ []) = omega arith in
          get_or_append_left (rows ++ new ∷ []) (new ∷ []) [] (2 * length lanes) small ∙ (ap (λ k. get_or (rows ++ new ∷ []) k []) (sym n) ∙ get_or-append_seam rows new [] [])

      taken : taken_row ((rows ++ new ∷ []) ++ new ∷ []) (length lanes) ≡ new
      taken =
          let n = kept.0 in let b = length-append rows (new ∷ []) in let at : 2 * length lanes + 1 ≡ length (rows ++ new ∷ []) = omega arith in
          ap (λ k. get_or ((rows ++ new ∷ []) ++ new ∷ []) k []) at ∙ get_or-append_seam (rows ++ new ∷ []) new [] []

      each : (i : ℕ) (lane : PlainLane (A × J) J) → slice_get (lanes ++ l ∷ []) i ≡ Some lane → IsPlainLane (sent_row ((rows ++ new ∷ []) ++ new ∷ []) i) (taken_row ((rows ++ new ∷ []) ++ new ∷ []) i) lane
      each i lane is = dite (ℕ_discrete i (length lanes))
          (λ last. let is_l : l ≡ lane = same_lane l lane (sym (slice_get-last lanes l i last) ∙ is) in
          let it = subst (λ z. IsPlainLane new z l) (sym taken) (new_lane told room l queue of_room open_still) in
          let it = subst (λ z. IsPlainLane z (taken_row ((rows ++ new ∷ []) ++ new ∷ []) (length lanes)) l) (sym sent) it in
          subst (λ z. IsPlainLane (sent_row ((rows ++ new ∷ []) ++ new ∷ []) i) (taken_row ((rows ++ new ∷ []) ++ new ∷ []) i) z) is_l (subst (λ (n : ℕ). IsPlainLane (sent_row ((rows ++ new ∷ []) ++ new ∷ []) n) (taken_row ((rows ++ new ∷ []) ++ new ∷ []) n) l) (sym last) it))
          (λ apart. let there = sym (slice_get-push lanes l i apart) ∙ is in let within = slice_get_within lanes i lane there in
          let n = kept.0 in let small : 2 * i < length rows = omega arith in let small' : 2 * i + 1 < length rows = omega arith in
          let it = subst (λ z. IsPlainLane (sent_row rows i) z lane) (sym (before (2 * i + 1) small')) (kept.1 i lane there) in
          subst (λ z. IsPlainLane z (taken_row ((rows ++ new ∷ []) ++ new ∷ []) i) lane) (sym (before (2 * i) small)) it)

  -- no other lane has changed
  pub only_last : (lanes : List (PlainLane (A × J) J)) (l : PlainLane (A × J) J) → OnlyLane (length lanes) lanes (lanes ++ l ∷ [])
  only_last lanes l j apart = slice_get-push lanes l j apart
