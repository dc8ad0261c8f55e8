-- Each step of a roll keeps its rule.
use Rattle.std.proofs.Common.{◌≡◌, ℕ, zero, suc, ◌+◌, ◌-◌, ◌≢◌, ◌⊎◌, ◌<◌, Bool, true, false, eqb, List, [], ◌∷◌, ◌++◌, length, length-set, set, get_or, sym, refl, ap, ◌∙◌, subst, inl, inr, ⊎_elim, arith}
use mathlib.Core.Logic.{dite}
use mathlib.Core.Option.{none, some, some-injective, some-ne-none}
use native.Mathlib.Decide.{ℕ_discrete}
use prog.Atomic.{either}
use lib.ListN.{get_elem?}
use Rattle.atomic_table.specs.Table.{Me, step, keeps, opening, Allows, Splits, Joins}
use Rattle.atomic_table.proofs.Lists.{at_set, set_here, set_else, at_longer, at_last}
use Rattle.morsel_prims.specs.declared.row_view.RowView.{RowView}
use Rattle.morsel_prims.specs.Rows.{keeper_view, keeper_with_guest, nobody_view, AgreesWithRows, IsRolled, lent_view, alone_view, guest_view, LooksAtRow, WritesRow, CopiesRow, AddsRow}

-- of the seats, this one now has the place
abbrev pub moved : (ℕ → ℕ) → ℕ → ℕ → ℕ → ℕ
moved at p id q = either (eqb q p) id (at q)

moved_here : (at : ℕ → ℕ) (p id : ℕ) → moved at p id p ≡ id
moved_here at p id = dite (ℕ_discrete p p) (λ e. ap (λ b. either b id (at p)) (Rattle.std.proofs.Common.eq-eqb p p refl)) (λ n. absurd (n refl))

moved_else : (at : ℕ → ℕ) (p id q : ℕ) → q ≢ p → moved at p id q ≡ at q
moved_else at p id q n = ap (λ b. either b id (at q)) (Rattle.std.proofs.Common.ne_eqb q p n)

at_end : {A : Type 0} (l : List A) (a : A) → get_elem? l (length l) ≡ some a → ⊥
at_end [] a e = some-ne-none a (sym e)
at_end (x ∷ xs) a e = at_end xs a e

at_new : {A : Type 0} (l : List A) (a b : A) (j : ℕ) → get_elem? (l ++ a ∷ []) j ≡ some b → (get_elem? l j ≡ some b) ⊎ ((j ≡ length l) × (a ≡ b))
at_new [] a b zero e = inr (refl, some-injective a b e)
at_new [] a b (suc j) e = absurd (some-ne-none b (sym e))
at_new (x ∷ xs) a b zero e = inl e
at_new (x ∷ xs) a b (suc j) e = ⊎_elim (λ t. inl t) (λ t. inr (omega arith, t.1)) (at_new xs a b j e)

true-ne-false : false ≡ true → ⊥
true-ne-false e = cc

module _ {T : Type 0} where
  pub opens : (ws : List ℕ) (xs : List T) → IsRolled T (opening ws xs (keeper_view []))
  opens ws xs = (0, [], (λ p. 0), go)
    where
      go : (id : ℕ) (v : RowView T) → get_elem? (keeper_view [] ∷ []) id ≡ some v → AgreesWithRows 0 [] (λ p. 0) id v
      go zero v e = let is = some-injective (keeper_view []) v e in subst (AgreesWithRows 0 [] (λ p. 0) 0) is ((λ _. (refl, refl)), λ h. absurd (true-ne-false h))
      go (suc id) v e = absurd (some-ne-none v (sym e))

  -- a view that has no more than before
  pub looks : (slots id : ℕ) (me : Me T (RowView T)) (i : ℕ) → me.0.keeps ≡ true → me.0.has ≡ true → Allows (IsRolled T) slots id me i (λ n. n) (LooksAtRow (step slots i 0 0 none) me)
  looks slots id me i k h s (seat, rows, at, r) _ here _ = let f = r id me.0 here in (
    me.0,
    keeps,
    tt,
    (seat, rows, at, λ j v e. ⊎_elim (λ t. subst (AgreesWithRows seat rows at j) t.1 (subst (λ n. AgreesWithRows seat rows at n me.0) (sym t.0) f)) (λ t. r j v t.1) (at_set s.views id j me.0 v e)),
    (refl, subst (λ z. get_elem? z me.0.place ≡ some me.0.list) (sym (f.0 k).1) (f.1 h).1),
  )

  pub writes : (slots id : ℕ) (me : Me T (RowView T)) (i : ℕ) (x : T) → me.0.keeps ≡ true → me.0.has ≡ true → Allows (IsRolled T) slots id me i (λ n. either (eqb n 0) 0 n) (WritesRow T (step slots i 0 0 (some x)) me)
  writes slots id me i x k h s (seat, rows, at, r) _ here _ =
      let mine = r id me.0 here in let p : ℕ = me.0.place in let new : List T = me.0.list ++ x ∷ [] in let rows' : List (List T) = set rows p new in
      let w : RowView T = keeper_with_guest (set me.0.rows p new) p new in let same : me.0.rows ≡ rows = (mine.0 k).1 in let was = (mine.1 h).1 in (
        w,
        keeps,
        tt,
        (
          seat,
          rows',
          at,
          λ j v e. ⊎_elim
              (λ t. subst (AgreesWithRows seat rows' at j) t.1 ((λ _. (t.0 ∙ (mine.0 k).0, ap (λ z. set z p new) same)), λ _. ((mine.1 h).0 ∙ sym t.0, set_here rows p new (at_length rows p me.0.list was))))
              (λ t. let old = r j v t.1 in ((λ kv. absurd (t.0 ((old.0 kv).0 ∙ sym (mine.0 k).0))), λ hv. let o = old.1 hv in (o.0, set_else rows p v.place new (λ e'. t.0 (sym o.0 ∙ (ap at e' ∙ (mine.1 h).0))) ∙ o.1)))
              (at_set s.views id j w v e),
        ),
        (subst (λ z. get_elem? z p ≡ some me.0.list) (sym same) was, λ y is. ap (λ (z : T). let m : Me T (RowView T) = (keeper_with_guest (set me.0.rows p (me.0.list ++ z ∷ [])) p (me.0.list ++ z ∷ []), me.1) in m) (some-injective x y is)),
      )
    where
      at_length : (l : List (List T)) (n : ℕ) (a : List T) → get_elem? l n ≡ some a → n < length l
      at_length [] n a e = absurd (some-ne-none a (sym e))
      at_length (y ∷ ys) zero a e = omega arith
      at_length (y ∷ ys) (suc n) a e = let q = at_length ys n a e in omega arith

  pub copies : (slots id : ℕ) (me : Me T (RowView T)) (i : ℕ) (before : List T) (x : T) → me.0.keeps ≡ true → me.0.has ≡ true → get_elem? me.0.rows (me.0.place - 1) ≡ some before → get_elem? before (length me.0.list) ≡ some x → Allows (IsRolled T) slots id me i (λ n. n) (CopiesRow T (step slots i 0 0 none) me)
  copies slots id me i before x k h at_before at_x s (seat, rows, at, r) _ here _ =
      let mine = r id me.0 here in let p : ℕ = me.0.place in let new : List T = me.0.list ++ x ∷ [] in let rows' : List (List T) = set rows p new in
      let w : RowView T = keeper_with_guest (set me.0.rows p new) p new in let same : me.0.rows ≡ rows = (mine.0 k).1 in let was = (mine.1 h).1 in (
        w,
        keeps,
        tt,
        (
          seat,
          rows',
          at,
          λ j v e. ⊎_elim
              (λ t. subst (AgreesWithRows seat rows' at j) t.1 ((λ _. (t.0 ∙ (mine.0 k).0, ap (λ z. set z p new) same)), λ _. ((mine.1 h).0 ∙ sym t.0, set_here rows p new (at_length rows p me.0.list was))))
              (λ t. let old = r j v t.1 in ((λ kv. absurd (t.0 ((old.0 kv).0 ∙ sym (mine.0 k).0))), λ hv. let o = old.1 hv in (o.0, set_else rows p v.place new (λ e'. t.0 (sym o.0 ∙ (ap at e' ∙ (mine.1 h).0))) ∙ o.1)))
              (at_set s.views id j w v e),
        ),
        (
          subst (λ z. get_elem? z p ≡ some me.0.list) (sym same) was,
          λ also y at_also at_y. let is_also : before ≡ also = some-injective before also (sym at_before ∙ at_also) in
              let is : x ≡ y = some-injective x y (sym at_x ∙ (ap (λ z. get_elem? z (length me.0.list)) is_also ∙ at_y)) in
              ap (λ (z : T). let m : Me T (RowView T) = (keeper_with_guest (set me.0.rows p (me.0.list ++ z ∷ [])) p (me.0.list ++ z ∷ []), me.1) in m) is,
        ),
      )
    where
      at_length : (l : List (List T)) (n : ℕ) (a : List T) → get_elem? l n ≡ some a → n < length l
      at_length [] n a e = absurd (some-ne-none a (sym e))
      at_length (y ∷ ys) zero a e = omega arith
      at_length (y ∷ ys) (suc n) a e = let q = at_length ys n a e in omega arith

  pub adds : (slots id : ℕ) (me : Me T (RowView T)) (i : ℕ) → me.0.keeps ≡ true → Allows (IsRolled T) slots id me i (λ n. n) (AddsRow (step slots i 0 0 none) me)
  adds slots id me i k s (seat, rows, at, r) _ here _ =
      let mine = r id me.0 here in let same : me.0.rows ≡ rows = (mine.0 k).1 in let p : ℕ = length me.0.rows in let w : RowView T = keeper_with_guest (me.0.rows ++ [] ∷ []) p [] in let rows' : List (List T) = rows ++ [] ∷ [] in
      let at' : ℕ → ℕ = moved at p id in (
        w,
        keeps,
        tt,
        (
          seat,
          rows',
          at',
          λ j v e. ⊎_elim
              (λ t. subst (AgreesWithRows seat rows' at' j) t.1 ((λ _. (t.0 ∙ (mine.0 k).0, ap (λ z. z ++ [] ∷ []) same)), λ _. (moved_here at p id ∙ sym t.0, at_last rows [] p (ap length (sym same)))))
              (λ t. let old = r j v t.1 in (
                (λ kv. ((old.0 kv).0, absurd (t.0 ((old.0 kv).0 ∙ sym (mine.0 k).0)))),
                λ hv. let o = old.1 hv in let apart : v.place ≢ p = λ e'. at_end rows v.list (subst (λ n. get_elem? rows n ≡ some v.list) (e' ∙ ap length same) o.1) in
                    (moved_else at p id v.place apart ∙ o.0, at_longer rows ([] ∷ []) v.place v.list o.1),
              ))
              (at_set s.views id j w v e),
        ),
        refl,
      )

  pub cuts : (id : ℕ) (v : RowView T) → v.has ≡ true → Splits (IsRolled T) id v (alone_view v) (guest_view v)
  cuts id v h s (seat, rows, at, r) here =
      let mine = r id v here in let n : ℕ = length s.views in let at' : ℕ → ℕ = moved at v.place n in (
        seat,
        rows,
        at',
        λ j u e. ⊎_elim
            (λ was. ⊎_elim (λ t. subst (AgreesWithRows seat rows at' j) t.1 ((λ k. (t.0 ∙ (mine.0 k).0, (mine.0 k).1)), λ no. absurd (true-ne-false no)))
            (λ t. let old = r j u t.1 in (old.0, λ hu. let o = old.1 hu in (moved_else at v.place n u.place (λ e'. t.0 (sym o.0 ∙ (ap at e' ∙ (mine.1 h).0))) ∙ o.0, o.1)))
            (at_set s.views id j (alone_view v) u was))
            (λ t. subst (AgreesWithRows seat rows at' j) t.1 ((λ no. absurd (true-ne-false no)), λ _. (moved_here at v.place n ∙ sym (t.0 ∙ length-set s.views id (alone_view v)), (mine.1 h).1)))
            (at_new (set s.views id (alone_view v)) (guest_view v) u j e),
      )

  pub lends : (id other : ℕ) (v w : RowView T) → w.has ≡ true → Joins (IsRolled T) id v other w (lent_view v w) nobody_view
  lends id other v w h s (seat, rows, at, r) here apart there =
      let mine = r id v here in let its = r other w (sym (set_else s.views id other (lent_view v w) apart) ∙ there) in let at' : ℕ → ℕ = moved at w.place id in (
        seat,
        rows,
        at',
        λ j u e. ⊎_elim
            (λ t. subst (AgreesWithRows seat rows at' j) t.1 ((λ no. absurd (true-ne-false no)), λ no. absurd (true-ne-false no)))
            (λ t. ⊎_elim
            (λ q. subst (AgreesWithRows seat rows at' j) q.1 ((λ k. (q.0 ∙ (mine.0 k).0, (mine.0 k).1)), λ _. (moved_here at w.place id ∙ sym q.0, (its.1 h).1)))
            (λ q. let old = r j u q.1 in (old.0, λ hu. let o = old.1 hu in (moved_else at w.place id u.place (λ e'. t.0 (sym o.0 ∙ (ap at e' ∙ (its.1 h).0))) ∙ o.0, o.1)))
            (at_set s.views id j (lent_view v w) u t.1))
            (at_set (set s.views id (lent_view v w)) other j nobody_view u e),
      )
