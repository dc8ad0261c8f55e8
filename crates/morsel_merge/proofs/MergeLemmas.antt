-- How lanes are merged, value by value.
use Rattle.std.proofs.Common.{◌≡◌, ◌<◌, ◌+◌, ◌==◌, if◌then◌else◌, ℕ, zero, suc, true, false, List, [], ◌∷◌, ◌++◌, length, set, get_or, Option, None, Some, All, refl, sym, ap, subst, ◌∙◌, inl, inr, arith, get_or-set_same, get_or-set_other}
use Rattle.std.specs.Ordering.{is_gt}
use Rattle.std.specs.Cmp.{IsTotalOrder}
use Rattle.std.specs.declared.cmp.Ordering.{Ordering}
use Rattle.std.proofs.lemmas.Bool.{cases_eq, eq-eqb, ne_eqb}
use Rattle.std.proofs.lemmas.Cmp.{upto}
use Rattle.std.proofs.lemmas.List.{append-nil, get_or_append_left, get_or_push, length_push}
use Rattle.std.proofs.lemmas.List.Elements.{All-push}
use Rattle.std.proofs.lemmas.List.Quantifiers.{all_pairs_push}
use Rattle.morsel_prims.specs.Polled.{held_list}
use Rattle.morsel_merge.specs.Merging.{AreFalling, AreNone, IsFalling, IsGivenLast, IsGreatest, IsMerged, IsMerging, values_of_lane}

-- two different answers are not the same
none_some : {T : Type 0} (x : T) → None ≡ Some x → ⊥
none_some x e = cc

inside_some : {T : Type 0} (x y : T) → Some x ≡ Some y → x ≡ y
inside_some x y e = cc

module _ {T : Type 0} where
  -- one value more
  pub values_of_lane-push : (i k : ℕ) (lanes : List ℕ) (values : List T) (v : T) → length lanes ≡ length values → values_of_lane i (lanes ++ k ∷ []) (values ++ v ∷ []) ≡ values_of_lane i lanes values ++ (if k == i then v ∷ [] else [])
  values_of_lane-push i k [] [] v e = refl
  values_of_lane-push i k [] (w ∷ ws) v e = absurd (omega (arith, e))
  values_of_lane-push i k (l ∷ ls) [] v e = absurd (omega (arith, e))
  values_of_lane-push i k (l ∷ ls) (w ∷ ws) v e =
      let more : values_of_lane i (ls ++ k ∷ []) (ws ++ v ∷ []) ≡ values_of_lane i ls ws ++ (if k == i then v ∷ [] else []) = values_of_lane-push i k ls ws v (omega (arith, e)) in
      elim (l == i) as (λ b. (if b then w ∷ values_of_lane i (ls ++ k ∷ []) (ws ++ v ∷ []) else values_of_lane i (ls ++ k ∷ []) (ws ++ v ∷ [])) ≡ (if b then w ∷ values_of_lane i ls ws else values_of_lane i ls ws) ++ (if k == i then v ∷ [] else [])) [ true ↦ ap (λ xs. w ∷ xs) more | false ↦ more ]

  pub values_of_lane-own : (i k : ℕ) (lanes : List ℕ) (values : List T) (v : T) → length lanes ≡ length values → k ≡ i → values_of_lane i (lanes ++ k ∷ []) (values ++ v ∷ []) ≡ values_of_lane i lanes values ++ v ∷ []
  values_of_lane-own i k lanes values v e same = values_of_lane-push i k lanes values v e ∙ ap (λ b. values_of_lane i lanes values ++ (if b then v ∷ [] else [])) (eq-eqb k i same)

  pub values_of_lane-other : (i k : ℕ) (lanes : List ℕ) (values : List T) (v : T) → length lanes ≡ length values → (k ≡ i → ⊥) → values_of_lane i (lanes ++ k ∷ []) (values ++ v ∷ []) ≡ values_of_lane i lanes values
  values_of_lane-other i k lanes values v e other = values_of_lane-push i k lanes values v e ∙ ap (λ b. values_of_lane i lanes values ++ (if b then v ∷ [] else [])) (ne_eqb k i other) ∙ append-nil (values_of_lane i lanes values)

module _ {T : Type 0} (cmp : T → T → Ordering) where
  -- the beginning of a list that falls
  falling-front : (xs : List T) (v : T) → IsFalling cmp (xs ++ v ∷ []) → IsFalling cmp xs
  falling-front xs v falls i j d before within =
      let first : i < length xs = omega (arith, before, within) in
      let e = get_or_append_left xs (v ∷ []) d i first in
      let f = get_or_append_left xs (v ∷ []) d j within in
      subst (λ x. is_gt (cmp (get_or xs j d) x) ≡ false) e (subst (λ y. is_gt (cmp y (get_or (xs ++ v ∷ []) i d)) ≡ false) f (falls i j d before (omega (arith, within, length_push xs v))))

  -- and its last item
  falling-last : (xs : List T) (v : T) → IsFalling cmp (xs ++ v ∷ []) → All (λ earlier. is_gt (cmp v earlier) ≡ false) xs
  falling-last xs v falls k d within =
      let e = get_or_append_left xs (v ∷ []) d k within in
      let f = get_or_push xs v d (length xs) refl in
      subst (λ x. is_gt (cmp v x) ≡ false) e (subst (λ y. is_gt (cmp y (get_or (xs ++ v ∷ []) k d)) ≡ false) f (falls k (length xs) d within (omega (arith, length_push xs v))))

  -- what comes after the value that was given last is not greater than what was given
  below-given : (total : IsTotalOrder cmp) (taken given : List T) (v : T) → IsGivenLast taken given → IsFalling cmp (taken ++ v ∷ []) → IsFalling cmp given → All (λ earlier. is_gt (cmp v earlier) ≡ false) given
  below-given total taken given v (inl none) falls falling = subst (λ xs. All (λ earlier. is_gt (cmp v earlier) ≡ false) xs) (sym none) (λ k d within. absurd (omega (arith, within)))
  below-given total taken given v (inr last) falls falling =
      let before = last.0 in let others = last.1 in let it = last.2 in
      let to_it : is_gt (cmp v it) ≡ false =
      let e = get_or_push before it v (length before) refl in
      subst (λ x. is_gt (cmp v x) ≡ false) e (falling-last (before ++ it ∷ []) v (subst (λ xs. IsFalling cmp (xs ++ v ∷ [])) last.3 falls) (length before) v (omega (arith, length_push before it))) in
      let from_it = falling-last others it (subst (IsFalling cmp) last.4 falling) in
      subst (λ xs. All (λ earlier. is_gt (cmp v earlier) ≡ false) xs) (sym last.4)
      (All-push (λ earlier. is_gt (cmp v earlier) ≡ false) others it (λ k d within. upto total v it (get_or others k d) to_it (from_it k d within)) to_it)

  module _ (suits : T → Type 0) (total : IsTotalOrder cmp) where
    -- a lane that is to be asked gave a value, which is held
    pub merging-take : (taken : List (List T)) (held : List (Option T)) (lane to : ℕ) (given : List T) (v : T) → lane < to → lane < length taken → lane < length held → suits v → IsMerging cmp suits taken held lane to given → IsMerging cmp suits (set taken lane (get_or taken lane [] ++ v ∷ [])) (set held lane (Some v)) (lane + 1) to given
    merging-take taken held lane to given v before within within_held suit merging =
        let asked = merging.next lane (omega arith) before in
        let taken' = set taken lane (get_or taken lane [] ++ v ∷ []) in
        let held' = set held lane (Some v) in
        let own_taken : get_or taken' lane [] ≡ get_or taken lane [] ++ v ∷ [] = get_or-set_same taken lane (get_or taken lane [] ++ v ∷ []) [] within in
        let own_held : get_or held' lane None ≡ Some v = get_or-set_same held lane (Some v) None within_held in
        let other_taken : (i : ℕ) → (i ≡ lane → ⊥) → get_or taken' i [] ≡ get_or taken i [] = λ i other. get_or-set_other taken lane i (get_or taken lane [] ++ v ∷ []) [] other in
        let other_held : (i : ℕ) → (i ≡ lane → ⊥) → get_or held' i None ≡ get_or held i None = λ i other. get_or-set_other held lane i (Some v) None other in
        let old_falls : AreFalling cmp taken' → AreFalling cmp taken = λ falls i. elim (cases_eq i lane) [ inl same ↦ subst (λ k. IsFalling cmp (get_or taken k [])) (sym same) (falling-front (get_or taken lane []) v (subst (IsFalling cmp) own_taken (falls lane))) | inr other ↦ subst (IsFalling cmp) (other_taken i other) (falls i) ] in
        record {
          spread = (
            merging.spread.0,
            merging.spread.1,
            λ i. elim (cases_eq i lane) [
              | inl same ↦ subst (λ k. get_or taken' k [] ≡ values_of_lane k merging.spread.0 given ++ held_list (get_or held' k None)) (sym same)
                  (own_taken ∙ ap (λ xs. xs ++ v ∷ []) (merging.spread.2 lane ∙ ap (λ h. values_of_lane lane merging.spread.0 given ++ held_list h) asked.0 ∙ append-nil (values_of_lane lane merging.spread.0 given)) ∙ ap (λ h. values_of_lane lane merging.spread.0 given ++ held_list h) (sym own_held))
              | inr other ↦ other_taken i other ∙ merging.spread.2 i ∙ ap (λ h. values_of_lane i merging.spread.0 given ++ held_list h) (sym (other_held i other))
            ],
          );
          suited = λ i value is. elim (cases_eq i lane) [
            | inl same ↦ subst suits (inside_some v value (sym own_held ∙ ap (λ k. get_or held' k None) (sym same) ∙ is)) suit
            | inr other ↦ merging.suited i value (sym (other_held i other) ∙ is)
          ];
          falling = λ falls. merging.falling (old_falls falls);
          below = λ falls i value is. elim (cases_eq i lane) [
            | inl same ↦ subst (λ x. All (λ earlier. is_gt (cmp x earlier) ≡ false) given) (inside_some v value (sym own_held ∙ ap (λ k. get_or held' k None) (sym same) ∙ is))
                (below-given total (get_or taken lane []) given v asked.1 (subst (IsFalling cmp) own_taken (falls lane)) (merging.falling (old_falls falls)))
            | inr other ↦ merging.below (old_falls falls) i value (sym (other_held i other) ∙ is)
          ];
          next = λ i later within_to.
              let other : i ≡ lane → ⊥ = λ e. omega (arith, e, later) in
              let old = merging.next i (omega (arith, later)) within_to in
              (other_held i other ∙ old.0, subst (λ xs. IsGivenLast xs given) (sym (other_taken i other)) old.1);
        }

    -- a lane that is to be asked has no more values
    pub merging-past : (taken : List (List T)) (held : List (Option T)) (lane to : ℕ) (given : List T) → IsMerging cmp suits taken held lane to given → IsMerging cmp suits taken held (lane + 1) to given
    merging-past taken held lane to given merging = record { spread = merging.spread; suited = merging.suited; falling = merging.falling; below = merging.below; next = λ i later within_to. merging.next i (omega (arith, later)) within_to }

    -- the greatest value that is held is given, and its lane is to be asked
    pub merging-give : (taken : List (List T)) (held : List (Option T)) (from to lane : ℕ) (given : List T) (v : T) → IsGreatest cmp held lane v → IsMerging cmp suits taken held from to given → IsMerging cmp suits taken (set held lane None) lane (lane + 1) (given ++ v ∷ [])
    merging-give taken held from to lane given v greatest merging =
        let held' = set held lane None in
        let own_held : get_or held' lane None ≡ None = get_or-set_same held lane None None greatest.0 in
        let other_held : (i : ℕ) → (i ≡ lane → ⊥) → get_or held' i None ≡ get_or held i None = λ i other. get_or-set_other held lane i None None other in
        let lanes = merging.spread.0 in
        let own : get_or taken lane [] ≡ values_of_lane lane lanes given ++ v ∷ [] = merging.spread.2 lane ∙ ap (λ h. values_of_lane lane lanes given ++ held_list h) greatest.1 in
        let was : (i : ℕ) (value : T) → get_or held' i None ≡ Some value → get_or held i None ≡ Some value = λ i value is. elim (cases_eq i lane) [ inl same ↦ absurd (none_some value (sym own_held ∙ ap (λ k. get_or held' k None) (sym same) ∙ is)) | inr other ↦ sym (other_held i other) ∙ is ] in
        record {
          spread = (
            lanes ++ lane ∷ [],
            omega (arith, length_push lanes lane, length_push given v, merging.spread.1),
            λ i. elim (cases_eq i lane) [
              | inl same ↦ subst (λ k. get_or taken k [] ≡ values_of_lane k (lanes ++ lane ∷ []) (given ++ v ∷ []) ++ held_list (get_or held' k None)) (sym same)
                  (own ∙ sym (values_of_lane-own lane lane lanes given v merging.spread.1 refl) ∙ sym (append-nil (values_of_lane lane (lanes ++ lane ∷ []) (given ++ v ∷ []))) ∙ ap (λ h. values_of_lane lane (lanes ++ lane ∷ []) (given ++ v ∷ []) ++ held_list h) (sym own_held))
              | inr other ↦ merging.spread.2 i ∙ ap (λ xs. xs ++ held_list (get_or held i None)) (sym (values_of_lane-other i lane lanes given v merging.spread.1 (λ e. other (sym e)))) ∙ ap (λ h. values_of_lane i (lanes ++ lane ∷ []) (given ++ v ∷ []) ++ held_list h) (sym (other_held i other))
            ],
          );
          suited = λ i value is. merging.suited i value (was i value is);
          falling = λ falls. all_pairs_push (λ earlier later. is_gt (cmp later earlier) ≡ false) given v (merging.falling falls) (merging.below falls lane v greatest.1);
          below = λ falls i value is. All-push (λ earlier. is_gt (cmp value earlier) ≡ false) given v (merging.below falls i value (was i value is)) (greatest.2 i value (was i value is));
          next = λ i later within_to.
              let same : i ≡ lane = omega (arith, later, within_to) in
              (ap (λ k. get_or held' k None) same ∙ own_held, inr (values_of_lane lane lanes given, given, v, ap (λ k. get_or taken k []) same ∙ own, refl));
        }

    -- where nothing is held, all that was taken was given
    pub merged : (taken : List (List T)) (held : List (Option T)) (from to : ℕ) (given : List T) → AreNone held → IsMerging cmp suits taken held from to given → IsMerged cmp taken given
    merged taken held from to given none merging = ((merging.spread.0, merging.spread.1, λ i. merging.spread.2 i ∙ ap (λ h. values_of_lane i merging.spread.0 given ++ held_list h) (none i) ∙ append-nil (values_of_lane i merging.spread.0 given)), merging.falling)

    -- at the beginning nothing was taken
    pub merging-begin : (taken : List (List T)) (held : List (Option T)) (from to : ℕ) → ((i : ℕ) → get_or taken i [] ≡ []) → AreNone held → IsMerging cmp suits taken held from to []
    merging-begin taken held from to empty none = record {
      spread = ([], refl, λ i. empty i ∙ ap (λ h. [] ++ held_list h) (sym (none i)));
      suited = λ i value is. absurd (none_some value (sym (none i) ∙ is));
      falling = λ falls i j d before within. absurd (omega (arith, within));
      below = λ falls i value is. absurd (none_some value (sym (none i) ∙ is));
      next = λ i later within_to. (none i, inl refl);
    }

-- one place more that holds nothing
pub none-push : {T : Type 0} (held : List (Option T)) → AreNone held → AreNone (held ++ None ∷ [])
none-push [] none zero = refl
none-push [] none (suc i) = refl
none-push (h ∷ hs) none zero = none zero
none-push (h ∷ hs) none (suc i) = none-push hs (λ k. none (suc k)) i
