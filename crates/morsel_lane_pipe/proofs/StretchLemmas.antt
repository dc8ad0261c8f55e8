-- What a task owes of what it took, step by step.
use Rattle.std.proofs.Common.{◌≡◌, ◌∙◌, sym, ap, ℕ, Option, Some, None, List, [], ◌∷◌, ◌++◌, append_assoc, append-nil}
use Rattle.std.proofs.lemmas.Grind.{flat_map-append}
use Rattle.morsel_load.specs.Loads.{load_seen}
use Rattle.morsel_load.specs.declared.load.Load.{Load}
use Rattle.morsel_prims.specs.Polled.{held_list}
use Rattle.morsel_lane_pipe.specs.Stretches.{ends_of, stretches, KeepsStretches}

module _ {K J : Type 0} where
  -- what was held was sent
  pub stretches_sent : (taken sent later : List (Load K J)) (was now : Option (Load K J)) (left : List (ℕ × ℕ)) → later ++ held_list now ≡ sent ++ held_list was → KeepsStretches taken sent was left → KeepsStretches taken later now left
  stretches_sent taken sent later was now left same kept =
      let a = flat_map-append (λ load. ends_of (load_seen load)) sent (held_list was) in
      let b = flat_map-append (λ load. ends_of (load_seen load)) later (held_list now) in
      let m : stretches sent ++ stretches (held_list was) ≡ stretches later ++ stretches (held_list now) = sym a ∙ ap stretches (sym same) ∙ b in
      record { same = kept.same ∙ sym (append_assoc (stretches sent) (stretches (held_list was)) left) ∙ ap (λ z. z ++ left) m ∙ append_assoc (stretches later) (stretches (held_list now)) left }

  -- a load was taken, and what is made of it is held or left
  pub stretches_taken : (taken sent : List (Load K J)) (load : Load K J) (now : Option (Load K J)) (left : List (ℕ × ℕ)) → ends_of (load_seen load) ≡ stretches (held_list now) ++ left → KeepsStretches taken sent None [] → KeepsStretches (taken ++ load ∷ []) sent now left
  stretches_taken taken sent load now left same kept =
      let a = flat_map-append (λ l. ends_of (load_seen l)) taken (load ∷ []) in
      let b : stretches taken ≡ stretches sent = kept.same ∙ append-nil (stretches sent) in
      let m : ends_of (load_seen load) ++ [] ≡ stretches (held_list now) ++ left = append-nil (ends_of (load_seen load)) ∙ same in
      record { same = a ∙ ap (λ z. z ++ (ends_of (load_seen load) ++ [])) b ∙ ap (λ z. stretches sent ++ z) m }

  -- a part of what is left was made
  pub stretches_cut : (taken sent : List (Load K J)) (part : Load K J) (was now : List (ℕ × ℕ)) → was ≡ ends_of (load_seen part) ++ now → KeepsStretches taken sent None was → KeepsStretches taken sent (Some part) now
  stretches_cut taken sent part was now same kept =
      let m : was ≡ (ends_of (load_seen part) ++ []) ++ now = same ∙ ap (λ z. z ++ now) (sym (append-nil (ends_of (load_seen part)))) in
      record { same = kept.same ∙ ap (λ z. stretches sent ++ z) m }

  -- where nothing is held or left, all stretches that were taken were sent
  pub stretches_whole : (taken sent : List (Load K J)) → KeepsStretches taken sent None [] → stretches taken ≡ stretches sent
  stretches_whole taken sent kept = kept.same ∙ append-nil (stretches sent)
